use mathlib.Core.Path.{refl}
use Rattle.conditions.proofs.Sides.{compared_same, compared-differ}
use Rattle.conditions.proofs.compare_values.Goals as goal

pub returns-then-x-y : goal.returns-then-x-y
returns-then-x-y c = let a = c.args in record { fill_value = refl; s_value = λ σ lv rv s. compared_same a.rule a.i σ lv rv s a.x a.y c.if-x-y.true }

pub returns : goal.returns
returns c = let a = c.args in record { fill_value = refl; s_value = λ σ lv rv s. compared-differ a.rule a.i σ lv rv s a.x a.y c.if-x-y.false }
