use mathlib.Core.Path.{ap}
use Rattle.cells.specs.declared.Fill.{Fill}
use Rattle.lookups.proofs.keys_of.Goals as goal

pub kinds-requires : goal.kinds-requires
kinds-requires c = record { held = c.requires.held; count_value = ap (λ (f : Fill). f.cells) c.fill-fill.ensures }

pub ends-requires : goal.ends-requires
ends-requires c = record { held = c.requires.held; count_value = ap (λ (f : Fill). f.cells) c.fill-fill.ensures }

pub pool-requires : goal.pool-requires
pool-requires c = record { held = c.requires.held; count_value = ap (λ (f : Fill). f.cells) c.fill-fill.ensures }
