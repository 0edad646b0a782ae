-- One check after another, with the memo; and evaluation as a check.
use mathlib.Core.Path.{◌≡◌, refl, subst}
use mathlib.Core.Bool.{true, false}
use mathlib.Core.List.{List}
use Prim.Native.Nat.{ℕ}
use Rattle.model.specs.Term.{Term}
use Rattle.model.specs.Check.{Outcome, ok, refused, Check, and_then, Room}
use Rattle.model.specs.Evaluate.{Value, eval_expr, eval_fact_expr}
use Rattle.model.specs.Program.{Expr, Program, Binding}
use Rattle.index.specs.declared.Fill.{Fill}
use Rattle.termdag.specs.Store.{terms_in, Indexed, room_of}
use Rattle.memo.specs.Memo.{Past}
use Rattle.outcome.specs.Does.{outcome_of, Does}
use Rattle.outcome.specs.declared.Refusal.{Refusal}
use Rattle.outcome.specs.declared.Checked.{Checked}
use Rattle.outcome.proofs.Laws.{does-here, does-then, does-stop}
use Rattle.evaluate.specs.Value.{term_outcome, value_of}
use Rattle.evaluate.specs.Evaluation.{EvaluatesRoot, Checks}

-- one after the other
module _ {A B : Type 0} {K E P I : List ℕ} {f : Fill} {K₁ E₁ P₁ I₁ : List ℕ} {f₁ : Fill} {r : Refusal} {a : A} {m₁ : List ℕ} {o : Outcome A} where
  pub checks-then : {K₂ E₂ P₂ I₂ : List ℕ} {f₂ : Fill} {r₂ : Refusal} {b : B} {m₂ : List ℕ} (k : Room → A → Check B)
      → Checks K E P I f K₁ E₁ P₁ I₁ f₁ r a m₁ o → r.number ≡ 0
      → Checks K₁ E₁ P₁ I₁ f₁ K₂ E₂ P₂ I₂ f₂ r₂ b m₂ (k (room_of K₁ P₁) a (terms_in K₁ E₁ P₁ f₁))
      → Checks K E P I f K₂ E₂ P₂ I₂ f₂ r₂ b m₂ (and_then o (k (room_of K P)))
  checks-then k d e n = record { does = does-then k d.does e n.does; past = n.past }

  pub checks-stop : (b : B) (k : A → Check B) → Checks K E P I f K₁ E₁ P₁ I₁ f₁ r a m₁ o → (r.number ≡ 0 → ⊥) → Checks K E P I f K₁ E₁ P₁ I₁ f₁ r b m₁ (and_then o k)
  checks-stop b k d h = record { does = does-stop b k d.does h; past = λ z. absurd (h z) }

module _ {A : Type 0} {K E P I : List ℕ} {f : Fill} {r : Refusal} {a : A} {m : List ℕ} {o : Outcome A} where
  -- a check that leaves the memo as it is
  pub checks-does : {K₁ E₁ P₁ I₁ : List ℕ} {f₁ : Fill} → Past m → Does K E P I f K₁ E₁ P₁ I₁ f₁ r a o → Checks K E P I f K₁ E₁ P₁ I₁ f₁ r a m o
  checks-does p d = record { does = d; past = λ z. p }

  -- one that leaves the store as it is, too
  pub checks-here : Indexed K E P I f → Past m → outcome_of r a (terms_in K E P f) ≡ o → Checks K E P I f K E P I f r a m o
  checks-here S p e = checks-does p (does-here S e)

  -- the same outcome, said otherwise
  pub checks-as : {K₁ E₁ P₁ I₁ : List ℕ} {f₁ : Fill} {o' : Outcome A} → o ≡ o' → Checks K E P I f K₁ E₁ P₁ I₁ f₁ r a m o → Checks K E P I f K₁ E₁ P₁ I₁ f₁ r a m o'
  checks-as {K₁} {E₁} {P₁} {I₁} {f₁} e d = subst (Checks K E P I f K₁ E₁ P₁ I₁ f₁ r a m) e d

-- an evaluation is a check
pub checks-value : {args : ℕ → List ℕ} {eval : Room → ℕ → Check ℕ} {n e : ℕ} {K E P I : List ℕ} {f : Fill} {K₁ E₁ P₁ I₁ : List ℕ} {c : Checked} {m : List ℕ}
    → EvaluatesRoot args eval n e K E P I f K₁ E₁ P₁ I₁ c m → Checks K E P I f K₁ E₁ P₁ I₁ c.fill c.refusal c.value m (eval (room_of K P) e (terms_in K E P f))
checks-value d = record { does = d.does; past = d.past }

-- what is done with a value's term alone
module _ {B : Type 0} where
  pub term-then : (o : Outcome Value) (k : ℕ → Check B) → and_then o (λ v. k v.term) ≡ and_then (term_outcome o) k
  term-then (ok v s) k = refl
  term-then (refused r s) k = refl

-- which evaluator it is
module _ (room : Room) (prog : Program) (rule : ℕ) (σ : List Binding) (e : Expr) (s : List Term) where
  pub value-fact : value_of true room prog rule σ e s ≡ eval_fact_expr room prog rule σ e s
  unfolding value_of
  value-fact = refl

  pub value-elsewhere : value_of false room prog rule σ e s ≡ term_outcome (eval_expr room prog rule σ e s)
  unfolding value_of
  value-elsewhere = refl
