use Rattle.std.proofs.Common.{arith, Some, None}
use Rattle.std.proofs.lemmas.Int.{to_z-of_z}
use Rattle.counts.proofs.Laws.{checked-value}
use Rattle.counts.proofs.settled.Goals as goal

pub returns-in-Ok : goal.returns-in-Ok
returns-in-Ok c = grind (arith, to_z-of_z, checked-value (Some c.in-Ok.value))

pub returns-in-Err : goal.returns-in-Err
returns-in-Err c = grind (arith, to_z-of_z, checked-value None)
