use mathlib.Core.Path.{refl, ◌∙◌}
use Rattle.conditions.proofs.Sides.{compared-none, compared-right}
use Rattle.conditions.proofs.compare_right.Goals as goal

pub returns-in-Some : goal.returns-in-Some
returns-in-Some c = let a = c.args in record { fill_value = c.bind_output.ensures.fill_value; s_value = λ σ rv s. c.bind_output.ensures.s_value σ s ∙ compared-right a.rule a.i σ _ rv s c.in-Some.is }

pub returns-in-None : goal.returns-in-None
returns-in-None c = let a = c.args in record { fill_value = refl; s_value = λ σ rv s. compared-none a.rule a.i σ _ rv s c.in-None.is }
