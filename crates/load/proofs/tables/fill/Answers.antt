use mathlib.Core.Path.{ap}
use Rattle.cells.specs.declared.Fill.{Fill}
use Rattle.load.proofs.tables.fill.Goals as goal

pub returns : goal.returns
returns c = ap {B = Fill} (λ n. record { cells = n; words = c.args.z.pool }) c.cell_count.ensures
