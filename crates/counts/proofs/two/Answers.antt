use Rattle.std.proofs.Common.{arith}
use Rattle.std.proofs.lemmas.Int.{to_z-of_z}
use Rattle.counts.proofs.Laws.{left_none, right_none, value-two}
use Rattle.counts.proofs.two.Goals as goal

pub returns-in_err-a : goal.returns-in_err-a
returns-in_err-a c = rw c.from_residual.ensures (left_none _ _ _ c.in_err-a.was)

pub returns-in_err-b : goal.returns-in_err-b
returns-in_err-b c = rw c.from_residual-in_err-b.ensures (right_none _ _ _ c.in_err-b.was)

pub returns-in_err-value : goal.returns-in_err-value
returns-in_err-value c = grind (arith, to_z-of_z, value-two)

pub returns : goal.returns
returns c = grind (arith, to_z-of_z, value-two)
