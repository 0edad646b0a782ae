-- What the readers give, case by case.
use mathlib.Core.Path.{◌≡◌, sym, ap, ◌∙◌}
use mathlib.Core.List.{List, []}
use Prim.Native.Nat.{ℕ, zero, suc, ◌+◌, ◌-◌, ◌≤◌, ◌<◌, max}
use native.Mathlib.Omega.{arith}
use native.Mathlib.Nat.{sub-zero, suc-sub-suc, not-suc-le-zero, le_of_suc-le-suc}
use lib.ListN.{length, take, drop}
use lib.Seq.{drop-drop}
use borrow.Author.Tests.{lt-ltb, le-ltb}
use Rattle.cells.proofs.Laws.{to_end}
use Rattle.model.specs.Decode.{read_arguments}
use Rattle.decode.specs.View.{cell, HasNoOperation}
use Rattle.decode.specs.declared.Operation.{Operation}

-- none of the kinds below n, as the last arm of a match has it
abbrev pub Others : ℕ → ℕ → Type 0
Others zero k = Unit {0}
Others (suc n) k = Others n k × (k ≡ n → ⊥)

above : (n k : ℕ) → Others n k → n ≤ k
above zero k h = omega arith
above (suc n) k h = let l = above n k h.0 in let d = h.1 in omega arith

-- n more, by `suc`
abbrev pub more : ℕ → ℕ → ℕ
more zero k = k
more (suc n) k = suc (more n k)

more-sub : (n k : ℕ) → n ≤ k → k ≡ more n (k - n)
more-sub zero k h = sym (sub-zero k)
more-sub (suc n) zero h = absurd (not-suc-le-zero h)
more-sub (suc n) (suc k) h = rw (suc-sub-suc k n) (ap suc (more-sub n k (le_of_suc-le-suc h)))

-- such a kind: what goes by kinds computes to its last case
pub past : (n k : ℕ) → Others n k → k ≡ more n (k - n)
past n k h = more-sub n k (above n k h)

-- a part of m words, and the rest behind that
pub part_of : (n m : ℕ) (ws : List ℕ) → take (n + m - n) (drop n ws) ≡ take m (drop n ws)
part_of n m ws = let e : n + m - n ≡ m = omega arith in rw e

pub rest_of : (n m : ℕ) (ws : List ℕ) → take (length ws - (n + m)) (drop (n + m) ws) ≡ drop m (drop n ws)
rest_of n m ws = to_end (n + m) ws ∙ sym (drop-drop m n ws)

pub arguments-none : (k : ℕ) (ws : List ℕ) → k < 2 → [] ≡ read_arguments (cell k ws)
arguments-none k ws h = rw (lt-ltb k 2 h, read_arguments)

pub arguments-some : (k : ℕ) (ws : List ℕ) → 2 ≤ k → drop 1 ws ≡ read_arguments (cell k ws)
arguments-some k ws h = rw (le-ltb k 2 h, read_arguments)

-- a kind past 3 that no operation has is past 8
pub unknown-kind : (k : ℕ) → 4 ≤ k → HasNoOperation k → max 9 k ≡ k
unknown-kind k h n =
    let a = n Operation.Sum in let b = n Operation.Difference in let c = n Operation.Product in let d = n Operation.Negation in let e = n Operation.Quotient in
    omega arith
