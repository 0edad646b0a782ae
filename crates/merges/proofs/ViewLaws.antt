-- The views of two claims: what is read of them.
use Rattle.std.specs.Prelude as prelude
use Rattle.std.specs.Prelude.{Some, None}
use mathlib.Core.Path.{◌≡◌, refl, sym, ap, ap₂, ◌∙◌}
use mathlib.Core.Bool.{Bool}
use mathlib.Core.List.{List, [], ◌∷◌}
use mathlib.Core.Option.{Option, none}
use Prim.Native.Nat.{ℕ, zero, suc, ◌-◌}
use native.Mathlib.Omega.{arith}
use lib.Dec.{eqb}
use lib.ListN.{length, get_or, take}
use borrow.Author.Tests.{eq-eqb, ne_eqb}
use Rattle.model.specs.Cell.{same_words}
use Rattle.model.specs.Term.{Term, get_term}
use Rattle.model.specs.Program.{Proposition}
use Rattle.model.specs.Check.{Outcome, refused, Check, and_then, ◌>>=◌, pure, or_refuse, check_that, get_terms}
use Rattle.model.specs.Evaluate.{children}
use Rattle.model.specs.Normalize.{App, as_app}
use Rattle.model.specs.Walk.{last, front}
use Rattle.outcome.specs.Does.{refusal, outcome_by, outcome_of}
use Rattle.outcome.specs.declared.Refusal.{Refusal}
use Rattle.program.specs.Ready.{option_of}
use Rattle.merges.specs.declared.Views.{Views}
use Rattle.merges.specs.Merge.{Merging, compare_views, both_views, both_reflexive, read_views}
use Rattle.merges.specs.Step.{refused_unless, app_with, merging_of}
use Rattle.merges.proofs.TestLaws.{that-is, plain-stop, plain_then}
use Rattle.merges.proofs.AddViewLaws.{front-take, last-at}

-- views that are refused
pub refused_as : {v : Views} (r : Refusal) (zs : List ℕ) (s : List Term) → v ≡ record { refusal = r; head = 0; old = 0; new = 0 }
    → outcome_of v.refusal (merging_of v zs) s ≡ outcome_of r (record { head = 0; inputs = zs; old = 0; new = 0 }) s
refused_as r zs s e = ap (λ (x : Views). outcome_of x.refusal (merging_of x zs) s) e

-- a value behind a test
pub that-value : {A : Type 0} (r : Refusal) (a : A) (s : List Term) {o : Outcome (Unit {0})} → outcome_of r tt s ≡ o → outcome_of r a s ≡ and_then o (λ _. pure a)
that-value {A} r a s e = go r.number ∙ ap {B = Outcome A} (λ (x : Outcome (Unit {0})). and_then x (λ _. pure a)) e
  where
    go : (n : ℕ) → outcome_by n r a s ≡ and_then {A = Unit {0}} (outcome_by n r tt s) (λ _. pure a)
    go zero = refl
    go (suc n) = refl

module _ (p f g : ℕ) (xs ys : List ℕ) (s : List Term) where
  abbrev merging : ℕ → ℕ → Merging
  merging x y = record { head = f; inputs = front xs; old = x; new = y }

  abbrev compare_by : Bool → Option ℕ → Option ℕ → Bool → Check Merging
  compare_by b o o' d =
      check_that b 34 (p ∷ f ∷ g ∷ []) >>= λ _.
      or_refuse o 35 (p ∷ 0 ∷ []) >>= λ x.
      or_refuse o' 35 (p ∷ 1 ∷ []) >>= λ y.
      check_that d 36 (p ∷ []) >>= λ _.
      pure (merging x y)

  by_tests : {b : Bool} {o o' : Option ℕ} {d : Bool} → eqb f g ≡ b → last xs ≡ o → last ys ≡ o' → same_words (front xs) (front ys) ≡ d
      → compare_by b o o' d s ≡ compare_views p (record { head = f; args = xs }) (record { head = g; args = ys }) s
  unfolding compare_views
  by_tests e h k w = sym (λ i. compare_by (e i) (h i) (k i) (w i) s)

  empty-last : (zs : List ℕ) → length zs ≡ 0 → last zs ≡ none
  empty-last [] e = refl
  empty-last (z ∷ zs) e = absurd (omega arith)

  module _ {v : Views} where
    pub heads-differ : (f ≡ g → ⊥) → v ≡ record { refusal = refusal 34 3 (p ∷ f ∷ g ∷ 0 ∷ 0 ∷ 0 ∷ []); head = 0; old = 0; new = 0 }
        → outcome_of v.refusal (merging_of v (front xs)) s ≡ compare_views p (record { head = f; args = xs }) (record { head = g; args = ys }) s
    unfolding check_that
    heads-differ h e = refused_as _ (front xs) s e ∙ by_tests (ne_eqb f g h) refl refl refl

    pub old-empty : f ≡ g → length xs ≡ 0 → v ≡ record { refusal = refusal 35 2 (p ∷ 0 ∷ 0 ∷ 0 ∷ 0 ∷ 0 ∷ []); head = 0; old = 0; new = 0 }
        → outcome_of v.refusal (merging_of v (front xs)) s ≡ compare_views p (record { head = f; args = xs }) (record { head = g; args = ys }) s
    unfolding check_that or_refuse
    old-empty h k e = refused_as _ (front xs) s e ∙ by_tests (eq-eqb f g h) (empty-last xs k) refl refl

    pub new-empty : f ≡ g → (length xs ≡ 0 → ⊥) → length ys ≡ 0 → v ≡ record { refusal = refusal 35 2 (p ∷ 1 ∷ 0 ∷ 0 ∷ 0 ∷ 0 ∷ []); head = 0; old = 0; new = 0 }
        → outcome_of v.refusal (merging_of v (front xs)) s ≡ compare_views p (record { head = f; args = xs }) (record { head = g; args = ys }) s
    unfolding check_that or_refuse
    new-empty h k l e = refused_as _ (front xs) s e ∙ by_tests (eq-eqb f g h) (last-at xs (length xs - 1) (omega arith)) (empty-last ys l) refl

  pub views-compared : (r : Refusal) {w : Bool} → f ≡ g → (length xs ≡ 0 → ⊥) → (length ys ≡ 0 → ⊥) → w ≡ same_words (take (length xs - 1) xs) (take (length ys - 1) ys)
      → r ≡ refused_unless w (refusal 36 1 (p ∷ 0 ∷ 0 ∷ 0 ∷ 0 ∷ 0 ∷ []))
      → outcome_of r (merging (get_or xs (length xs - 1) 0) (get_or ys (length ys - 1) 0)) s ≡ compare_views p (record { head = f; args = xs }) (record { head = g; args = ys }) s
  unfolding check_that or_refuse
  views-compared r {w} h k l q e =
      that-value r (merging (get_or xs (length xs - 1) 0) (get_or ys (length ys - 1) 0)) s (that-is w 36 1 (p ∷ 0 ∷ 0 ∷ 0 ∷ 0 ∷ 0 ∷ []) e tt s)
      ∙ by_tests (eq-eqb f g h) (last-at xs (length xs - 1) (omega arith)) (last-at ys (length ys - 1) (omega arith))
      (ap₂ same_words (front-take xs (length xs - 1) (omega arith)) (front-take ys (length ys - 1) (omega arith)) ∙ sym q)

-- the views of two claims
module _ (p : ℕ) (a b : Proposition) (s : List Term) (first : Refusal) (B : (u : List Term) → outcome_of first tt u ≡ both_reflexive p a b u) where
  abbrev xs : List ℕ
  xs = children (get_term s a.rhs)

  abbrev ys : List ℕ
  ys = children (get_term s b.rhs)

  abbrev both : Unit {0} → Check Merging
  both _ = get_terms >>= λ u. both_views p a.rhs b.rhs (as_app (get_term u a.rhs)) (as_app (get_term u b.rhs))

  pub not-reflexive : {v : Views} → (first.number ≡ 0 → ⊥) → v ≡ record { refusal = first; head = 0; old = 0; new = 0 }
      → outcome_of v.refusal (merging_of v (front xs)) s ≡ read_views p a b s
  unfolding read_views
  not-reflexive n e = refused_as first (front xs) s e ∙ plain-stop first tt s (B s) _ both n

  module _ (n : first.number ≡ 0) where
    after : (v : Views) {o o' : Option App} → o ≡ as_app (get_term s a.rhs) → o' ≡ as_app (get_term s b.rhs)
        → outcome_of v.refusal (merging_of v (front xs)) s ≡ both_views p a.rhs b.rhs o o' s → outcome_of v.refusal (merging_of v (front xs)) s ≡ read_views p a b s
    unfolding read_views
    after v e d h = plain_then first tt s (B s) v.refusal (merging_of v (front xs)) both n (h ∙ ap₂ (λ (x y : Option App). both_views p a.rhs b.rhs x y s) e d)

    module _ (x y : prelude.Option ℕ) (e : app_with (option_of x) xs ≡ as_app (get_term s a.rhs)) (d : app_with (option_of y) ys ≡ as_app (get_term s b.rhs)) where
      pub old-no-app : {v : Views} → x ≡ None → v ≡ record { refusal = refusal 37 3 (p ∷ a.rhs ∷ b.rhs ∷ 0 ∷ 0 ∷ 0 ∷ []); head = 0; old = 0; new = 0 }
          → outcome_of v.refusal (merging_of v (front xs)) s ≡ read_views p a b s
      old-no-app {v} h g = after v (ap (λ (u : prelude.Option ℕ). app_with (option_of u) xs) (sym h) ∙ e) refl (refused_as _ (front xs) s g)

      pub new-no-app : {v : Views} {f : ℕ} → x ≡ Some f → y ≡ None → v ≡ record { refusal = refusal 37 3 (p ∷ a.rhs ∷ b.rhs ∷ 0 ∷ 0 ∷ 0 ∷ []); head = 0; old = 0; new = 0 }
          → outcome_of v.refusal (merging_of v (front xs)) s ≡ read_views p a b s
      new-no-app {v} h k g =
          after v (ap (λ (u : prelude.Option ℕ). app_with (option_of u) xs) (sym h) ∙ e) (ap (λ (u : prelude.Option ℕ). app_with (option_of u) ys) (sym k) ∙ d) (refused_as _ (front xs) s g)

      pub views-read : (v : Views) {f g : ℕ} {us vs : List ℕ} → x ≡ Some f → y ≡ Some g → us ≡ xs → vs ≡ ys
          → ((u : List Term) → outcome_of v.refusal (merging_of v (front us)) u ≡ compare_views p (record { head = f; args = us }) (record { head = g; args = vs }) u)
          → outcome_of v.refusal (merging_of v (front xs)) s ≡ read_views p a b s
      views-read v {f} {g} {us} {vs} h k q r w = after v (ap (λ (u : prelude.Option ℕ). app_with (option_of u) xs) (sym h) ∙ e) (ap (λ (u : prelude.Option ℕ). app_with (option_of u) ys) (sym k) ∙ d)
          (ap (λ (l : List ℕ). outcome_of v.refusal (merging_of v (front l)) s) (sym q) ∙ w s
          ∙ ap₂ (λ (l m : List ℕ). compare_views p (record { head = f; args = l }) (record { head = g; args = m }) s) q r)
