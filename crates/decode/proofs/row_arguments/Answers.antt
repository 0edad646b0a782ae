use Rattle.cells.proofs.Laws.{to_end}
use Rattle.decode.proofs.row_arguments.Goals as goal

pub returns : goal.returns
returns c = to_end 2 c.args.words.now
