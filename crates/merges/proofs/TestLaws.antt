-- Tests, one after the other, and what a term is.
use mathlib.Core.Path.{◌≡◌, refl, sym, ap, ◌∙◌}
use mathlib.Core.Bool.{Bool, true, false}
use mathlib.Core.List.{List, [], ◌∷◌}
use mathlib.Core.Option.{Option, some}
use Prim.Native.Nat.{ℕ, zero, suc}
use lib.Dec.{eqb}
use lib.ListN.{take}
use Rattle.model.specs.Term.{Term}
use Rattle.model.specs.Program.{Proposition}
use Rattle.model.specs.Check.{Outcome, Check, and_then, check_that}
use Rattle.model.specs.Normalize.{App, as_app}
use Rattle.model.proofs.Post.{Nonzero}
use Rattle.decode.specs.View.{term_of}
use Rattle.decode.specs.declared.Term as decoded
use Rattle.outcome.specs.Does.{passed, refusal, outcome_of}
use Rattle.outcome.specs.declared.Refusal.{Refusal}
use Rattle.outcome.proofs.Laws.{ok_of, refused-of}
use Rattle.merges.specs.Merge.{both_reflexive}
use Rattle.merges.specs.Step.{refused_unless}

-- one test
pub unless : (b : Bool) (r : Refusal) → b ≡ true → passed ≡ refused_unless b r
unless b r e = ap (λ (t : Bool). refused_unless t r) (sym e)

pub that-is : {r : Refusal} (b : Bool) (n k : ℕ) (fs : List ℕ) → r ≡ refused_unless b (refusal n k fs) → Nonzero {0} n → (s : List Term) → outcome_of r tt s ≡ check_that b n (take k fs) s
unfolding check_that
that-is b n k fs e z s = ap (λ (x : Refusal). outcome_of x tt s) e ∙ go b n z
  where
    go : (t : Bool) (m : ℕ) → Nonzero {0} m → outcome_of (refused_unless t (refusal m k fs)) tt s ≡ check_that t m (take k fs) s
    go true m h = refl
    go false zero h = absurd h.lower
    go false (suc m) h = refl

-- a check that leaves the store as it is, and the next
module _ {A B : Type 0} (r : Refusal) (a : A) (s : List Term) {o : Outcome A} (e : outcome_of r a s ≡ o) where
  pub plain-stop : (b : B) (k : A → Check B) → (r.number ≡ 0 → ⊥) → outcome_of r b s ≡ and_then o k
  plain-stop b k h = refused-of r b s h ∙ ap (λ (x : Outcome A). and_then x k) (sym (refused-of r a s h) ∙ e)

  pub plain_then : (q : Refusal) (b : B) (k : A → Check B) → r.number ≡ 0 → outcome_of q b s ≡ k a s → outcome_of q b s ≡ and_then o k
  plain_then q b k h d = d ∙ ap (λ (x : Outcome A). and_then x k) (sym (ok_of r a s h) ∙ e)

-- two tests
module _ (b c : Bool) (n k : ℕ) (fs : List ℕ) (m l : ℕ) (gs : List ℕ) (r : Refusal) (e : r ≡ refused_unless b (refusal n k fs)) (y : Nonzero {0} n) (s : List Term) where
  pub first-refused : (r.number ≡ 0 → ⊥) → outcome_of r tt s ≡ and_then (check_that b n (take k fs) s) (λ _. check_that c m (take l gs))
  first-refused h = plain-stop r tt s (that-is b n k fs e y s) tt (λ _. check_that c m (take l gs)) h

  pub both-tested : (q : Refusal) → r.number ≡ 0 → q ≡ refused_unless c (refusal m l gs) → Nonzero {0} m → outcome_of q tt s ≡ and_then (check_that b n (take k fs) s) (λ _. check_that c m (take l gs))
  both-tested q h d z = plain_then r tt s (that-is b n k fs e y s) q tt (λ _. check_that c m (take l gs)) h (that-is c m l gs d z s)

-- an application, by what was read
module _ (o : Option Term) (xs : List ℕ) (r : decoded.Term) (g : o ≡ some (term_of r xs)) where
  pub app-by : (t : decoded.Term) (b : Option App) → r ≡ t → b ≡ as_app (some (term_of t xs)) → b ≡ as_app o
  app-by t b e d = d ∙ ap (λ (t : decoded.Term). as_app (some (term_of t xs))) (sym e) ∙ ap as_app (sym g)

-- two reflexive claims
module _ (p : ℕ) (a b : Proposition) (r : Refusal) (e : r ≡ refused_unless (eqb a.lhs a.rhs) (refusal 39 4 (p ∷ 0 ∷ a.lhs ∷ a.rhs ∷ 0 ∷ 0 ∷ []))) (s : List Term) where
  pub reflexive-first : (r.number ≡ 0 → ⊥) → outcome_of r tt s ≡ both_reflexive p a b s
  unfolding both_reflexive
  reflexive-first h = first-refused _ (eqb b.lhs b.rhs) 39 4 _ 39 4 (p ∷ 1 ∷ b.lhs ∷ b.rhs ∷ 0 ∷ 0 ∷ []) r e tt s h

  pub reflexive-both : (d : Refusal) → r.number ≡ 0 → d ≡ refused_unless (eqb b.lhs b.rhs) (refusal 39 4 (p ∷ 1 ∷ b.lhs ∷ b.rhs ∷ 0 ∷ 0 ∷ [])) → outcome_of d tt s ≡ both_reflexive p a b s
  unfolding both_reflexive
  reflexive-both d h g = both-tested _ _ 39 4 _ 39 4 (p ∷ 1 ∷ b.lhs ∷ b.rhs ∷ 0 ∷ 0 ∷ []) r e tt s d h g tt
