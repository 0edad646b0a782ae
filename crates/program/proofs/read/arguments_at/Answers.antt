use Rattle.program.proofs.Reading.{arguments-words, arguments-read}
use Rattle.program.proofs.Words.{cell-read}
use Rattle.program.proofs.read.arguments_at.Goals as goal

pub read_arguments-requires : goal.read_arguments-requires
read_arguments-requires c = arguments-words c.requires.ready c.args.e c.requires.e_bound (cell-read _ c.kind_at.ensures c.words_at.ensures)

pub returns : goal.returns
returns c = arguments-read c.requires.ready c.args.e c.requires.e_bound (cell-read _ c.kind_at.ensures c.words_at.ensures) c.read_arguments.ensures
