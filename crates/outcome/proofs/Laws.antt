-- One check after another: the store's growth, and the outcome.
use mathlib.Core.Path.{◌≡◌, refl, sym, ap, subst, ◌∙◌}
use Rattle.std.specs.Prelude.{Option, Some, None}
use mathlib.Core.List.{List, [], ◌∷◌}
use Prim.Native.Nat.{ℕ, zero, suc}
use native.Mathlib.Omega.{arith}
use Rattle.model.specs.Term.{Term}
use Rattle.model.specs.Check.{Outcome, ok, refused, Check, and_then, pure, Room}
use Rattle.index.specs.declared.Fill.{Fill}
use Rattle.index.specs.declared.Added.{Added}
use Rattle.termdag.specs.Store.{terms_in, Indexed, room_of, outcome_by as added_by, Adds}
use Rattle.termdag.proofs.Loading.{drop-later}
use Rattle.outcome.specs.declared.Refusal.{Refusal}
use Rattle.outcome.specs.declared.Checked.{Checked}
use Rattle.outcome.specs.Does.{checked_by, checked_of, refusal_of, outcome_by, outcome_of, Grown, Does}

-- the store's growth
pub grown-same : {K E P I : List ℕ} {f : Fill} → Indexed K E P I f → Grown K E P I f K E P I f
grown-same S = record { indexed = S; len_k = refl; len_e = refl; len_p = refl; len_i = refl; more_cells = omega arith; more_words = omega arith; kinds = refl; ends = refl; pool = refl }

module _ {K E P I : List ℕ} {f : Fill} {K₁ E₁ P₁ I₁ : List ℕ} {f₁ : Fill} where
  pub grown-then : {K₂ E₂ P₂ I₂ : List ℕ} {f₂ : Fill} → Grown K E P I f K₁ E₁ P₁ I₁ f₁ → Grown K₁ E₁ P₁ I₁ f₁ K₂ E₂ P₂ I₂ f₂ → Grown K E P I f K₂ E₂ P₂ I₂ f₂
  grown-then {K₂} {E₂} {P₂} {I₂} {f₂} a b = record {
    indexed = b.indexed;
    len_k = b.len_k ∙ a.len_k;
    len_e = b.len_e ∙ a.len_e;
    len_p = b.len_p ∙ a.len_p;
    len_i = b.len_i ∙ a.len_i;
    more_cells = let x = a.more_cells in let y = b.more_cells in omega arith;
    more_words = let x = a.more_words in let y = b.more_words in omega arith;
    kinds = b.kinds ∙ drop-later f₁.cells f₂.cells K₁ K b.more_cells a.kinds;
    ends = b.ends ∙ drop-later f₁.cells f₂.cells E₁ E b.more_cells a.ends;
    pool = b.pool ∙ drop-later f₁.words f₂.words P₁ P b.more_words a.pool;
  }

  -- the room stays
  pub room-same : Grown K E P I f K₁ E₁ P₁ I₁ f₁ → room_of K₁ P₁ ≡ room_of K P
  room-same g = λ i. record { cells = g.len_k i; words = g.len_p i }

-- a refusal and a value
module _ {A : Type 0} where
  pub ok_of : (r : Refusal) (a : A) (s : List Term) → r.number ≡ 0 → outcome_of r a s ≡ ok a s
  ok_of r a s e = ap (λ (n : ℕ). outcome_by n r a s) e

  refused-by : (n : ℕ) (r : Refusal) (a : A) (s : List Term) → (n ≡ 0 → ⊥) → outcome_by n r a s ≡ refused (refusal_of r) s
  refused-by zero r a s h = absurd (h refl)
  refused-by (suc n) r a s h = refl

  pub refused-of : (r : Refusal) (a : A) (s : List Term) → (r.number ≡ 0 → ⊥) → outcome_of r a s ≡ refused (refusal_of r) s
  refused-of r a s h = refused-by r.number r a s h

-- one after the other
module _ {A B : Type 0} {K E P I : List ℕ} {f : Fill} {K₁ E₁ P₁ I₁ : List ℕ} {f₁ : Fill} {r : Refusal} {a : A} {o : Outcome A} where
  pub does-then : {K₂ E₂ P₂ I₂ : List ℕ} {f₂ : Fill} {r₂ : Refusal} {b : B} (k : Room → A → Check B)
      → Does K E P I f K₁ E₁ P₁ I₁ f₁ r a o → r.number ≡ 0
      → Does K₁ E₁ P₁ I₁ f₁ K₂ E₂ P₂ I₂ f₂ r₂ b (k (room_of K₁ P₁) a (terms_in K₁ E₁ P₁ f₁))
      → Does K E P I f K₂ E₂ P₂ I₂ f₂ r₂ b (and_then o (k (room_of K P)))
  does-then k d e n = record {
    outcome = n.outcome
        ∙ ap (λ (room : Room). k room a (terms_in K₁ E₁ P₁ f₁)) (room-same d.grown)
        ∙ ap (λ (x : Outcome A). and_then x (k (room_of K P))) (sym (ok_of r a (terms_in K₁ E₁ P₁ f₁) e) ∙ d.outcome);
    grown = grown-then d.grown n.grown;
  }

  pub does-stop : (b : B) (k : A → Check B) → Does K E P I f K₁ E₁ P₁ I₁ f₁ r a o → (r.number ≡ 0 → ⊥) → Does K E P I f K₁ E₁ P₁ I₁ f₁ r b (and_then o k)
  does-stop b k d h = record {
    outcome = refused-of r b (terms_in K₁ E₁ P₁ f₁) h
        ∙ ap (λ (x : Outcome A). and_then x k) (sym (refused-of r a (terms_in K₁ E₁ P₁ f₁) h) ∙ d.outcome);
    grown = d.grown;
  }

-- adding a term
module _ {K E P I : List ℕ} {f : Fill} {K₁ E₁ P₁ I₁ : List ℕ} {o : Outcome ℕ} where
  pub added-does : (a : Added) (c : Checked) → Adds K E P I f K₁ E₁ P₁ I₁ a o → c ≡ checked_of a → Does K E P I f K₁ E₁ P₁ I₁ c.fill c.refusal c.value o
  added-does a c d e = subst (λ (x : Checked). Does K E P I f K₁ E₁ P₁ I₁ x.fill x.refusal x.value o) (sym e) (go a.number d.outcome)
    where
      s : List Term
      s = terms_in K₁ E₁ P₁ a.fill

      g : Grown K E P I f K₁ E₁ P₁ I₁ a.fill
      g = record {
        indexed = d.indexed;
        len_k = d.len_k;
        len_e = d.len_e;
        len_p = d.len_p;
        len_i = d.len_i;
        more_cells = d.more_cells;
        more_words = d.more_words;
        kinds = d.kinds;
        ends = d.ends;
        pool = d.pool;
      }

      go : (n : Option ℕ) → added_by n a s ≡ o
          → Does K E P I f K₁ E₁ P₁ I₁ (checked_by n a).fill (checked_by n a).refusal (checked_by n a).value o
      go None q = record { outcome = q; grown = g }
      go (Some n) q = record { outcome = q; grown = g }

-- a check that leaves the store as it is
pub does-here : {A : Type 0} {K E P I : List ℕ} {f : Fill} {r : Refusal} {a : A} {o : Outcome A} → Indexed K E P I f → outcome_of r a (terms_in K E P f) ≡ o → Does K E P I f K E P I f r a o
does-here S e = record { outcome = e; grown = grown-same S }

-- what is made of a value
module _ {A B : Type 0} {K E P I : List ℕ} {f : Fill} {K₁ E₁ P₁ I₁ : List ℕ} {f₁ : Fill} {r : Refusal} {a : A} {o : Outcome A} where
  pub does-map : (g : A → B) (b : B) → Does K E P I f K₁ E₁ P₁ I₁ f₁ r a o → (r.number ≡ 0 → g a ≡ b) → Does K E P I f K₁ E₁ P₁ I₁ f₁ r b (and_then o (λ x. pure (g x)))
  does-map g b d h = go r.number refl
    where
      go : (n : ℕ) → r.number ≡ n → Does K E P I f K₁ E₁ P₁ I₁ f₁ r b (and_then o (λ x. pure (g x)))
      go zero e = record {
        outcome = ok_of r b (terms_in K₁ E₁ P₁ f₁) e
            ∙ ap {B = Outcome B} (λ (x : B). ok x (terms_in K₁ E₁ P₁ f₁)) (sym (h e))
            ∙ ap (λ (x : Outcome A). and_then x (λ y. pure (g y))) (sym (ok_of r a (terms_in K₁ E₁ P₁ f₁) e) ∙ d.outcome);
        grown = d.grown;
      }
      go (suc n) e = does-stop b (λ x. pure (g x)) d (λ z. let q : ◌≡◌ {A = ℕ} 0 (suc n) = sym z ∙ e in omega arith)
