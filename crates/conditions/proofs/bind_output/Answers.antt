use mathlib.Core.Path.{refl}
use Rattle.conditions.proofs.Sides.{output-bound, output-none}
use Rattle.conditions.proofs.bind_output.Goals as goal

pub returns-in-Some : goal.returns-in-Some
returns-in-Some c = let a = c.args in record { fill_value = refl; s_value = λ σ s. output-bound a.rule a.i a.t σ s c.in-Some.is }

pub returns-in-None : goal.returns-in-None
returns-in-None c = let a = c.args in record { fill_value = refl; s_value = λ σ s. output-none a.rule a.i a.t σ s c.in-None.is }
