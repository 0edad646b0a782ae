-- The outcome of a check, as the code holds it, and the contract of every function that checks and may add terms.
use Rattle.std.specs.Prelude.{◌≡◌, Option, Some, None, List, [], ◌∷◌, ℕ, zero, suc, ◌≤◌, length, take, drop}
use Rattle.index.specs.declared.Store.{Store}
use Rattle.model.specs.Term.{Term}
use Rattle.model.specs.Check as model
use Rattle.termdag.specs.Store.{terms_in, Indexed}
use Rattle.index.specs.declared.Fill.{Fill}
use Rattle.index.specs.declared.Added.{Added}
use Rattle.outcome.specs.declared.Refusal.{Refusal}
use Rattle.outcome.specs.declared.Checked.{Checked}

-- No refusal.
abbrev pub passed : Refusal
passed = record { number = 0; count = 0; fields = 0 ∷ 0 ∷ 0 ∷ 0 ∷ 0 ∷ 0 ∷ [] }

abbrev pub refusal : ℕ → ℕ → List ℕ → Refusal
refusal n k fs = record { number = n; count = k; fields = fs }

-- What adding a term gives: 53, with the pool words in use, where the store is full.
abbrev pub checked_by : Option ℕ → Added → Checked
checked_by None a = record { refusal = refusal 53 1 (a.fill.words ∷ 0 ∷ 0 ∷ 0 ∷ 0 ∷ 0 ∷ []); value = 0; fill = a.fill }
checked_by (Some n) a = record { refusal = passed; value = n; fill = a.fill }

abbrev pub checked_of : Added → Checked
checked_of a = checked_by a.number a

-- The definitions' refusal.
abbrev pub refusal_of : Refusal → model.Refusal
refusal_of r = record { number = r.number; fields = take r.count r.fields }

module _ {A : Type 0} where
  -- The value, unless there is a refusal.
  abbrev pub outcome_by : ℕ → Refusal → A → List Term → model.Outcome A
  outcome_by zero r a s = model.ok a s
  outcome_by (suc n) r a s = model.refused (refusal_of r) s

  abbrev pub outcome_of : Refusal → A → List Term → model.Outcome A
  outcome_of r a s = outcome_by r.number r a s

-- The store after: terms were added behind those that were there, the index lists them all, and past the fill the arrays are as they were.
pub record Grown (K E P I : List ℕ) (f : Fill) (K' E' P' I' : List ℕ) (f' : Fill) : Type 0 where
  pub indexed : Indexed K' E' P' I' f'
  pub len_k : length K' ≡ length K
  pub len_e : length E' ≡ length E
  pub len_p : length P' ≡ length P
  pub len_i : length I' ≡ length I
  pub more_cells : f.cells ≤ f'.cells
  pub more_words : f.words ≤ f'.words
  pub kinds : drop f'.cells K' ≡ drop f'.cells K
  pub ends : drop f'.cells E' ≡ drop f'.cells E
  pub pool : drop f'.words P' ≡ drop f'.words P

-- The contract of a check: value a or refusal r, and the terms after, are the outcome o of the definition.
pub record Does {A : Type 0} (K E P I : List ℕ) (f : Fill) (K' E' P' I' : List ℕ) (f' : Fill) (r : Refusal) (a : A) (o : model.Outcome A) : Type 0 where
  pub outcome : outcome_of r a (terms_in K' E' P' f') ≡ o
  pub grown : Grown K E P I f K' E' P' I' f'

-- The same, of a store.
abbrev pub DoesIn : {A : Type 0} → Store → Fill → Store → Fill → Refusal → A → model.Outcome A → Type 0
DoesIn s f s' f' r a o = Does s.kinds.now s.ends.now s.pool.now s.index.now f s'.kinds.now s'.ends.now s'.pool.now s'.index.now f' r a o
