use Rattle.std.proofs.Common.{arith}
use Rattle.std.proofs.lemmas.Int.{to_z-of_z}
use Rattle.counts.proofs.Laws.{one_none, value-one}
use Rattle.counts.proofs.one.Goals as goal

pub returns-in_err-a : goal.returns-in_err-a
returns-in_err-a c = rw c.from_residual.ensures (one_none _ _ c.in_err-a.was)

pub returns-in_err-value : goal.returns-in_err-value
returns-in_err-value c = grind (arith, to_z-of_z, value-one)

pub returns : goal.returns
returns c = grind (arith, to_z-of_z, value-one)
