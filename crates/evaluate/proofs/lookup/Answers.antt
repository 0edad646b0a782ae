use Rattle.evaluate.proofs.HeadValues.{found_first, found-second, found-third}
use Rattle.program.specs.Ready.{option_of}
use mathlib.Core.Path.{sym, ap, ◌∙◌}
use Rattle.evaluate.proofs.lookup.Goals as goal

pub returns-in-Some : goal.returns-in-Some
returns-in-Some c = let a = c.args in found_first a.bound.now a.pairs.now a.globals.now a.name _ (ap option_of (sym c.in-Some.is) ∙ c.lookup_pairs-first.ensures)

pub returns-in-Some-second : goal.returns-in-Some-second
returns-in-Some-second c = let a = c.args in found-second a.bound.now a.pairs.now a.globals.now a.name _ (ap option_of (sym c.in_default.is) ∙ c.lookup_pairs-first.ensures) (ap option_of (sym c.in-Some-second.is) ∙ c.lookup_pairs-second.ensures)

pub returns : goal.returns
returns c = let a = c.args in found-third a.bound.now a.pairs.now a.globals.now a.name _ (ap option_of (sym c.in_default.is) ∙ c.lookup_pairs-first.ensures) (ap option_of (sym c.in_default-second.is) ∙ c.lookup_pairs-second.ensures) c.lookup_pairs.ensures
