-- Laws of the branch and the loop that mark values.
use Prim.Native.Nat.{ℕ, zero, suc, ◌+◌}
use native.Mathlib.Numerals.{add-one}
use mathlib.Core.Path.{◌≡◌, refl, sym, ap, ◌∙◌}
use mathlib.Core.List.{List}
use mathlib.Core.Bool.{Bool, true, false, not}
use lib.ListN.{length}
use borrow.Author.Tests.{not-true, not-false}
use Rattle.memo.specs.Memo.{value_at, is_noted}
use Rattle.marks.specs.Marks.{with_mark}
use Rattle.marks.proofs.Bits.{length-with}
use Rattle.pairs.specs.Marking.{mark_if, mark_value, mark_values}

-- one expression, where b is the test whether it is noted
module _ (memo : List ℕ) (k : ℕ) (m : List ℕ) {b : Bool} (e : b ≡ is_noted memo k) where
  pub value-no : not b ≡ true → m ≡ mark_value memo k m
  value-no n = rw (← e, not-true b n)

  pub value-yes : {m' : List ℕ} {t : ℕ} → not b ≡ false → t ≡ value_at memo k → m' ≡ with_mark m t → m' ≡ mark_value memo k m
  value-yes {m'} {t} n q r = r ∙ rw (← e, not-false b n, q)

-- marks are as many as they were
pub length-if : (b : Bool) (m : List ℕ) (t : ℕ) → length (mark_if b m t) ≡ length m
length-if true m t = length-with m t
length-if false m t = refl

pub length-values : (memo : List ℕ) (n : ℕ) (m : List ℕ) → length (mark_values memo n m) ≡ length m
unfolding mark_values
length-values memo zero m = refl
length-values memo (suc k) m = length-if (is_noted memo k) (mark_values memo k m) (value_at memo k) ∙ length-values memo k m

-- one expression after the other: of the first k the values are marked
pub record MarkedTo (memo m₀ : List ℕ) (k : ℕ) (m : List ℕ) : Type 0 where
  pub is : m ≡ mark_values memo k m₀
  pub long : length m ≡ length m₀

pub marked-none : (memo m : List ℕ) → MarkedTo memo m 0 m
unfolding mark_values
marked-none memo m = record { is = refl; long = refl }

pub marked_step : {memo m₀ : List ℕ} {k : ℕ} {m m' : List ℕ} → MarkedTo memo m₀ k m → m' ≡ mark_value memo k m → MarkedTo memo m₀ (k + 1) m'
unfolding mark_values
marked_step {memo} {m₀} {k} {m} {m'} w e = record {
  is = e ∙ ap (mark_value memo k) w.is ∙ sym (ap (λ (n : ℕ). mark_values memo n m₀) (add-one k));
  long = ap length e ∙ length-if (is_noted memo k) m (value_at memo k) ∙ w.long;
}
