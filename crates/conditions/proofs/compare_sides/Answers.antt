use Rattle.program.specs.Ready.{option_of}
use mathlib.Core.Path.{◌∙◌}
use Rattle.conditions.proofs.Sides.{compared-first, compared-left, compared-both}
use Rattle.conditions.proofs.compare_sides.Goals as goal

pub returns-in_default : goal.returns-in_default
returns-in_default c = let a = c.args in record { fill_value = c.compare_right.ensures.fill_value; s_value = λ σ s. c.compare_right.ensures.s_value σ (option_of a.right) s ∙ compared-first a.rule a.i σ _ _ s a.b c.in_default.is }

pub returns-in_default-b : goal.returns-in_default-b
returns-in_default-b c = let a = c.args in record { fill_value = c.bind_output.ensures.fill_value; s_value = λ σ s. c.bind_output.ensures.s_value σ s ∙ compared-left a.rule a.i σ _ _ s c.in-Some.is c.in_default-b.is }

pub returns : goal.returns
returns c = let a = c.args in record { fill_value = c.compare_values.ensures.fill_value; s_value = λ σ s. c.compare_values.ensures.s_value σ (option_of a.left) (option_of a.right) s ∙ compared-both a.rule a.i σ _ _ s c.in-Some.is c.in-Some-b.is }
