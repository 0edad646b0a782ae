use Rattle.program.proofs.Reading.{head-words, head_read}
use Rattle.program.proofs.Words.{cell-read}
use Rattle.program.proofs.read.head_at.Goals as goal

pub read_head-requires : goal.read_head-requires
read_head-requires c = head-words c.requires.ready c.args.e c.requires.e_bound (cell-read _ c.kind_at.ensures c.words_at.ensures)

pub returns : goal.returns
returns c = head_read c.requires.ready c.args.e c.requires.e_bound (cell-read _ c.kind_at.ensures c.words_at.ensures) c.read_head.result c.read_head.ensures
