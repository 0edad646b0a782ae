-- Laws of the loops and branches that set, read and close marks.
use Prim.Native.Nat.{ℕ, zero, suc, ◌+◌, ◌-◌, ◌<◌, ◌≤◌}
use native.Mathlib.Omega.{arith}
use native.Mathlib.Nat.{not-suc-le-zero}
use native.Mathlib.Numerals.{add-one}
use mathlib.Core.Path.{◌≡◌, refl, sym, ap, ◌∙◌}
use mathlib.Core.List.{List}
use mathlib.Core.Bool.{Bool, true, false, not}
use lib.ListN.{length, get_or, drop, drop_of_length-le}
use lib.Seq.{drop-cons}
use borrow.Author.Tests.{not-true, not-false}
use Rattle.model.specs.Term.{Term, get_term}
use Rattle.model.specs.Evaluate.{children}
use Rattle.marks.specs.Marks.{is_marked, with_mark, mark_all, close_at, close}
use Rattle.marks.proofs.Bits.{Bare}
use Rattle.marks.proofs.Closing.{at_length}

-- terms marked one by one
pub all-step : (xs m : List ℕ) (j : ℕ) → j < length xs → mark_all (drop j xs) m ≡ mark_all (drop (j + 1) xs) (with_mark m (get_or xs j 0))
unfolding mark_all
all-step xs m j h = rw (drop-cons xs j 0 h, mark_all, add-one j)

pub all_end : (xs m : List ℕ) (j : ℕ) → length xs ≤ j → mark_all (drop j xs) m ≡ m
unfolding mark_all
all_end xs m j h = rw (drop_of_length-le xs h, mark_all)

-- one number closed, where b is the test of its mark
module _ (s : List Term) (i : ℕ) (m : List ℕ) (b : Bool) (e : b ≡ is_marked m i) where
  pub at-no : not b ≡ true → m ≡ close_at s i m (is_marked m i)
  at-no n = rw (← e, not-true b n)

  pub at-yes : (xs : List ℕ) → not b ≡ false → xs ≡ children (get_term s i) → mark_all xs m ≡ close_at s i m (is_marked m i)
  at-yes xs n q = rw (← e, not-false b n, q)

-- numbers closed one by one, from the top down: from n to i the marks went from m₀ to m
pub record ClosedTo (s : List Term) (n : ℕ) (m₀ : List ℕ) (i : ℕ) (m : List ℕ) : Type 0 where
  pub rest : close s n m₀ ≡ close s i m
  pub long : length m ≡ length m₀

pub closed_none : (s : List Term) (n : ℕ) (m : List ℕ) → ClosedTo s n m n m
closed_none s n m = record { rest = refl; long = refl }

close-suc : (s : List Term) (i : ℕ) (m : List ℕ) → 0 < i → close s i m ≡ close s (i - 1) (close_at s (i - 1) m (is_marked m (i - 1)))
unfolding close
close-suc s zero m h = absurd (not-suc-le-zero h)
close-suc s (suc i) m h =
    let e : i ≡ suc i - 1 = omega arith in
    ap (λ (k : ℕ). close s k (close_at s k m (is_marked m k))) e

-- numbers without a mark are closed as they are
close-bare : (s : List Term) (m : List ℕ) (j i k : ℕ) → i ≡ j + k → Bare m k i → close s i m ≡ close s k m
close-bare s m zero i k e b = ap (λ (x : ℕ). close s x m) (omega arith)
close-bare s m (suc j) i k e b =
    close-suc s i m (omega arith)
    ∙ ap (λ (y : Bool). close s (i - 1) (close_at s (i - 1) m y)) (b (i - 1) (omega arith) (omega arith))
    ∙ close-bare s m j (i - 1) k (omega arith) (λ t l u. b t l (omega arith))

module _ {s : List Term} {n : ℕ} {m₀ : List ℕ} {i : ℕ} {m : List ℕ} (C : ClosedTo s n m₀ i m) where
  pub closed-step : {m' : List ℕ} → 0 < i → m' ≡ close_at s (i - 1) m (is_marked m (i - 1)) → ClosedTo s n m₀ (i - 1) m'
  closed-step h e = record {
    rest = C.rest ∙ close-suc s i m h ∙ ap (close s (i - 1)) (sym e);
    long = ap length e ∙ at_length s (i - 1) m (is_marked m (i - 1)) ∙ C.long;
  }

  pub closed-bare : (32 ≤ i) × Bare m (i - 32) i → ClosedTo s n m₀ (i - 32) m
  closed-bare (h, b) = record { rest = C.rest ∙ close-bare s m 32 i (i - 32) (omega arith) b; long = C.long }

  pub closed_all : i ≡ 0 → m ≡ close s n m₀
  unfolding close
  closed_all e = sym (C.rest ∙ rw (e, close))
