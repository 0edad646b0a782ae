use mathlib.Core.Path.{ap}
use Rattle.cells.specs.declared.Fill.{Fill}
use Rattle.program.proofs.job.cell_count.Goals as goal

pub returns : goal.returns
returns c = ap (λ (f : Fill). f.cells) c.fill-f.ensures
