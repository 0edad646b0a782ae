-- Checks in sequence.
use mathlib.Core.Path.{◌≡◌, refl, ap, ◌∙◌}
use mathlib.Core.List.{List}
use Rattle.model.specs.Term.{Term}
use Rattle.model.specs.Check.{Outcome, ok, refused, Check, and_then}

module _ {A B C : Type 0} where
  pub then-assoc : (o : Outcome A) (f : A → Check B) (g : B → Check C) → and_then (and_then o f) g ≡ and_then o (λ a s. and_then (f a s) g)
  then-assoc (ok a s) f g = refl
  then-assoc (refused r s) f g = refl

module _ {A B : Type 0} where
  pub then-alike : (o : Outcome A) {f g : A → Check B} → ((a : A) (s : List Term) → f a s ≡ g a s) → and_then o f ≡ and_then o g
  then-alike (ok a s) h = h a s
  then-alike (refused r s) h = refl

  pub then_same : {o o' : Outcome A} {f g : A → Check B} → o ≡ o' → ((a : A) (s : List Term) → f a s ≡ g a s) → and_then o f ≡ and_then o' g
  then_same {o' = o'} {f = f} e h = ap (λ (x : Outcome A). and_then x f) e ∙ then-alike o' h
