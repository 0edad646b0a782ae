-- Laws of words and of kinds.
use mathlib.Core.Path.{◌≡◌, refl}
use mathlib.Core.Bool.{true, false, ◌&&◌}
use mathlib.Core.List.{List, [], ◌∷◌, ◌++◌}
use Prim.Native.Nat.{ℕ, zero, suc, ◌+◌, ◌≤◌, ◌<◌}
use native.Mathlib.Numerals.{add-one}
use native.Mathlib.Omega.{arith}
use lib.Dec.{eqb, ltb}
use lib.ListN.{length, get_or, drop, drop_of_length-le}
use lib.Seq.{drop-cons}
use borrow.Author.Tests.{ne_eqb, lt-ltb, le-ltb}
use Rattle.model.specs.Program.{substitution}
use Rattle.model.specs.Decode.{read_bindings, read_justification}
use Rattle.model.specs.Load.{any, below}

-- word after word
module _ (n : ℕ) (ws : List ℕ) (k : ℕ) (h : k < length ws) where
  below_step : below n (drop k ws) ≡ (ltb (get_or ws k 0) n && below n (drop (k + 1) ws))
  below_step = rw (drop-cons ws k 0 h, add-one)

  pub below-no : n ≤ get_or ws k 0 → false ≡ below n (drop k ws)
  below-no l = rw (below_step, le-ltb (get_or ws k 0) n l)

  pub below-yes : get_or ws k 0 < n → below n (drop k ws) ≡ below n (drop (k + 1) ws)
  below-yes l = rw (below_step, lt-ltb (get_or ws k 0) n l)

pub below_end : (n : ℕ) (ws : List ℕ) (k : ℕ) → length ws ≤ k → true ≡ below n (drop k ws)
below_end n ws k h = rw (drop_of_length-le ws h)

-- the first pair of name and term, and the others
pub pair-next : (ws pair us : List ℕ) → ws ≡ pair ++ us → length pair ≡ 2
    → read_bindings ws ≡ record { name = get_or pair 0 0; term = get_or pair 1 0 } ∷ read_bindings us
pair-next ws [] us e h = absurd (omega arith)
pair-next ws (x ∷ []) us e h = absurd (omega arith)
pair-next ws (x ∷ y ∷ []) us e h = rw e
pair-next ws (x ∷ y ∷ z ∷ pair) us e h = absurd (omega arith)

-- the references of the kinds
module _ (i : ℕ) (ws : List ℕ) where
  pub no-substitution : (k : ℕ) → (k ≡ 1 → ⊥) → [] ≡ substitution (read_justification (record { kind = k; words = ws }))
  no-substitution zero a = refl
  no-substitution (suc zero) a = absurd (a refl)
  no-substitution (suc (suc zero)) a = refl
  no-substitution (suc (suc (suc zero))) a = refl
  no-substitution (suc (suc (suc (suc zero)))) a = refl
  no-substitution (suc (suc (suc (suc (suc zero))))) a = refl
  no-substitution (suc (suc (suc (suc (suc (suc zero)))))) a = refl
  no-substitution (suc (suc (suc (suc (suc (suc (suc k))))))) a = refl

-- a name that the first pair does not bind
pub bound-next : (name : ℕ) (ws pair us : List ℕ) → ws ≡ pair ++ us → length pair ≡ 2 → (name ≡ get_or pair 0 0 → ⊥)
    → any (λ b. eqb name b.name) (read_bindings ws) ≡ any (λ b. eqb name b.name) (read_bindings us)
bound-next name ws pair us e h n = rw (pair-next ws pair us e h, ne_eqb name (get_or pair 0 0) n)
