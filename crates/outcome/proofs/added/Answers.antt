use Rattle.std.specs.Prelude.{Option}
use Prim.Native.Nat.{ℕ}
use mathlib.Core.Path.{sym, ap, ◌∙◌}
use Rattle.outcome.specs.Does.{checked_by}
use Rattle.outcome.proofs.added.Goals as goal

pub returns-in-Some : goal.returns-in-Some
returns-in-Some c = c.pass.ensures ∙ ap (λ (n : Option ℕ). checked_by n c.args.a) (sym c.in-Some.is)

pub returns-in-None : goal.returns-in-None
returns-in-None c = c.refuse1.ensures ∙ ap (λ (n : Option ℕ). checked_by n c.args.a) (sym c.in-None.is)
