use Rattle.program.proofs.Reading.{action-words, action-read}
use Rattle.program.proofs.Words.{cell-read}
use Rattle.program.proofs.read.action_at.Goals as goal

pub read_action-requires : goal.read_action-requires
read_action-requires c = action-words c.requires.ready c.args.i c.requires.i_bound (cell-read _ c.kind_at.ensures c.words_at.ensures)

pub returns : goal.returns
returns c = action-read c.requires.ready c.args.i c.requires.i_bound (cell-read _ c.kind_at.ensures c.words_at.ensures) c.read_action.result c.read_action.ensures
