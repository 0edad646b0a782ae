use Rattle.program.proofs.Proving.{justification-words, justification-read}
use Rattle.program.proofs.Words.{cell-read}
use Rattle.program.proofs.read.justification_at.Goals as goal

pub read_justification-requires : goal.read_justification-requires
read_justification-requires c = justification-words c.requires.ready c.args.p c.requires.p_bound (cell-read _ c.kind_at.ensures c.words_at.ensures)

pub returns : goal.returns
returns c = justification-read c.requires.ready c.args.p c.requires.p_bound (cell-read _ c.kind_at.ensures c.words_at.ensures) c.read_justification.ensures
