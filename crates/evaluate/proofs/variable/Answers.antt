use Rattle.evaluate.proofs.HeadValues.{given-some, given-none}
use Rattle.program.specs.Ready.{option_of}
use mathlib.Core.Path.{sym, ap, ◌∙◌}
use Rattle.evaluate.proofs.variable.Goals as goal

pub returns-in-Some : goal.returns-in-Some
returns-in-Some c = let made = given-some _ _ _ _ _ c.pass.ensures (ap option_of (sym c.in-Some.is) ∙ c.lookup.ensures) in record { fill_value = made.0; s_value = made.1 }

pub returns-in-None : goal.returns-in-None
returns-in-None c = let made = given-none _ _ _ _ c.refuse2.ensures (ap option_of (sym c.in-None.is) ∙ c.lookup.ensures) in record { fill_value = made.0; s_value = made.1 }
