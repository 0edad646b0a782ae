use Rattle.std.proofs.Common.{arith}
use Rattle.checkproof.proofs.Laws.{proofs-word}
use Rattle.checkproof.proofs.last_proof.Goals as goal

pub returns-then-proofs-eq0 : goal.returns-then-proofs-eq0
returns-then-proofs-eq0 c = let q = proofs-word 16384 c.args.job.now c.words_of_bytes.ensures.words in omega (arith, q)

pub returns : goal.returns
returns c = let q = proofs-word 16384 c.args.job.now c.words_of_bytes.ensures.words in omega (arith, q)
