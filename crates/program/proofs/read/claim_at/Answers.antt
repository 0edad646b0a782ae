use Rattle.program.proofs.Proving.{claim-words, claim-read}
use Rattle.program.proofs.read.claim_at.Goals as goal

pub read_claim-requires : goal.read_claim-requires
read_claim-requires c = claim-words c.requires.ready c.args.p c.requires.p_bound c.words_at.ensures

pub returns : goal.returns
returns c = claim-read c.requires.ready c.args.p c.requires.p_bound c.words_at.ensures c.read_claim.ensures
