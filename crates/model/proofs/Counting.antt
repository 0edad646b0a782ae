-- Literals of kind 2 are the integers of 64 bits, one to one; what the primitives of kinds 4 to 8 make of them, and where they have no value; the quotient's rounding; examples at the limits.
use Prim.Native.Nat.{ℕ, zero, suc, ◌+◌, ◌*◌, ◌-◌, ◌/◌, ◌%◌, ◌^◌, ◌<◌, ◌≤◌}
use native.Mathlib.Nat.{add-zero, div-add-mod', mod-lt}
use native.Mathlib.Omega.{arith}
use mathlib.Core.Path.{◌≡◌, refl, sym, ap, subst, ◌∙◌}
use mathlib.Core.List.{List, [], ◌∷◌, map}
use mathlib.Core.Bool.{Bool, true, false, cond}
use mathlib.Core.Option.{Option, none, some}
use lib.Dec.{eqb, ltb, leb-suc-suc}
use lib.IntN.{ℤ, pos, negsuc, nat_abs, neg_ℤ, ◌+ℤ◌, ◌-ℤ◌, ◌*ℤ◌, zero-*ℤ, neg_ℤ-neg_ℤ, neg_ℤ-+ℤ}
use lib.Signed.{mag, non_neg, le_z, quot_z, rem_z}
use borrow.Author.Tests.{lt-ltb, le-ltb, ltb-true, ltb-false}
use Rattle.model.specs.Term.{Literal, app}
use Rattle.model.specs.Counts.{int_of, fits, bits_of, literal_of_int, count_of, count_of_term, exact, fitting}
use Rattle.model.specs.Check.{◌>>?◌}
use Rattle.model.proofs.Tests.{and-true}

-- What an integer is when its highest bit is clear, and when it is set.
pub int-low : (low high : ℕ) → high < 2 ^ 31 → int_of low high ≡ pos (low + high * 2 ^ 32)
unfolding int_of
int-low low high h = rw (lt-ltb high (2 ^ 31) h) (ap pos (add-zero _))

pub int-high : (low high : ℕ) → low < 2 ^ 32 → 2 ^ 31 ≤ high → high < 2 ^ 32 → int_of low high ≡ negsuc (2 ^ 64 - suc (low + high * 2 ^ 32))
unfolding int_of
int-high low high l h k = rw (le-ltb high (2 ^ 31) h) (rw (lt-ltb (low + high * 2 ^ 32) (2 ^ 64) (omega arith)) refl)

-- Whether an integer fits is one bound.
pub fits-is : (r : ℤ) → fits r ≡ ltb (mag r) (2 ^ 63)
unfolding fits
fits-is (pos n) = refl
fits-is (negsuc n) = and-true _ ∙ sym (leb-suc-suc n 9223372036854775807)

pub fits-yes : (r : ℤ) → mag r < 2 ^ 63 → fits r ≡ true
fits-yes r h = fits-is r ∙ lt-ltb (mag r) (2 ^ 63) h

pub fits-no : (r : ℤ) → 2 ^ 63 ≤ mag r → fits r ≡ false
fits-no r h = fits-is r ∙ le-ltb (mag r) (2 ^ 63) h

fits_below : (r : ℤ) → fits r ≡ true → mag r < 2 ^ 63
fits_below r e = ltb-true (mag r) (2 ^ 63) (sym (fits-is r) ∙ e)

split : (n : ℕ) → n % 2 ^ 32 + n / 2 ^ 32 * 2 ^ 32 ≡ n
split n = omega arith

back : (r : ℤ) → mag r < 2 ^ 63 → int_of (bits_of r % 2 ^ 32) (bits_of r / 2 ^ 32) ≡ r
back (pos n) h = int-low _ _ (omega arith) ∙ ap pos (split n)
back (negsuc n) h = int-high _ _ (omega arith) (omega arith) (omega arith) ∙ ap negsuc (omega arith)

-- The literal of an integer that fits stands for it.
pub int-words : (r : ℤ) → fits r ≡ true → count_of (literal_of_int r) ≡ some r
unfolding count_of literal_of_int
int-words r e = ap some (back r (fits_below r e))

-- What two words give, whether the highest bit is clear or set.
pub int-cases : (P : ℤ → Type 0) (low high : ℕ) → low < 2 ^ 32 → high < 2 ^ 32
    → (high < 2 ^ 31 → P (pos (low + high * 2 ^ 32))) → (2 ^ 31 ≤ high → P (negsuc (2 ^ 64 - suc (low + high * 2 ^ 32))))
    → P (int_of low high)
int-cases P low high l h f g = by (ltb high (2 ^ 31)) refl
  where
    by : (t : Bool) → ltb high (2 ^ 31) ≡ t → P (int_of low high)
    by true e = subst P (sym (int-low low high (ltb-true high _ e))) (f (ltb-true high _ e))
    by false e = subst P (sym (int-high low high l (ltb-false high _ e) h)) (g (ltb-false high _ e))

module _ (low high : ℕ) (l : low < 2 ^ 32) (h : high < 2 ^ 32) where
  -- What a literal stands for fits.
  pub words-fit : fits (int_of low high) ≡ true
  words-fit = int-cases (λ r. fits r ≡ true) low high l h (λ k. fits-yes (pos _) (omega arith)) (λ k. fits-yes (negsuc _) (omega arith))

  bits_back : bits_of (int_of low high) ≡ low + high * 2 ^ 32
  bits_back = int-cases (λ r. bits_of r ≡ low + high * 2 ^ 32) low high l h (λ k. refl) (λ k. omega arith)

  low-back : (n : ℕ) → n ≡ low + high * 2 ^ 32 → n % 2 ^ 32 ≡ low
  low-back n e = omega arith

  high-back : (n : ℕ) → n ≡ low + high * 2 ^ 32 → n / 2 ^ 32 ≡ high
  high-back n e = omega arith

  -- A literal of kind 2 is the literal of the integer that it stands for.
  pub words-int : literal_of_int (int_of low high) ≡ record { kind = 2; low = low; high = high }
  unfolding literal_of_int
  words-int = λ i. record { kind = 2; low = low-back _ bits_back i; high = high-back _ bits_back i }

-- What kinds 4 to 8 make of two integers, of one, of none and of more.
of_two_lem : (a b : ℤ) → map (λ k. exact k (a ∷ b ∷ [])) (4 ∷ 5 ∷ 6 ∷ 7 ∷ 8 ∷ [])
    ≡ some (a +ℤ b) ∷ some (a -ℤ b) ∷ some (a *ℤ b) ∷ none ∷ cond (eqb (nat_abs b) 0) none (some (quot_z a b)) ∷ []
unfolding exact
of_two_lem a b = refl

of_one_lem : (a : ℤ) → map (λ k. exact k (a ∷ [])) (4 ∷ 5 ∷ 6 ∷ 7 ∷ 8 ∷ []) ≡ none ∷ none ∷ none ∷ some (neg_ℤ a) ∷ none ∷ []
unfolding exact
of_one_lem a = refl

of_none : (k : ℕ) → exact k [] ≡ none
unfolding exact
of_none k = refl

of-more : (k : ℕ) (a b c : ℤ) (cs : List ℤ) → exact k (a ∷ b ∷ c ∷ cs) ≡ none
unfolding exact
of-more k a b c cs = refl

-- A unit, a bool, a string and an application stand for no integer.
no-literal : (low high : ℕ) → map (λ k. count_of (record { kind = k; low = low; high = high })) (0 ∷ 1 ∷ 3 ∷ []) ≡ none ∷ none ∷ none ∷ []
unfolding count_of
no-literal low high = refl

no-application : (f : ℕ) (xs : List ℕ) → count_of_term (some (app f xs)) ≡ none
no-application f xs = refl

-- A quotient is rounded toward zero: the product with the divisor and what is left make the dividend; what is left is smaller than the divisor and has the
-- dividend's sign.
neg-times : (q : ℕ) (b : ℤ) → neg_ℤ (pos q) *ℤ b ≡ neg_ℤ (pos q *ℤ b)
neg-times zero b = zero-*ℤ b ∙ sym (ap neg_ℤ (zero-*ℤ b))
neg-times (suc q) (pos n) = refl
neg-times (suc q) (negsuc n) = sym (neg_ℤ-neg_ℤ _)

neg-parts : (q r n : ℕ) → q + r ≡ n → neg_ℤ (pos q) +ℤ neg_ℤ (pos r) ≡ neg_ℤ (pos n)
neg-parts q r n e = sym (neg_ℤ-+ℤ (pos q) (pos r)) ∙ ap (λ (m : ℕ). neg_ℤ (pos m)) e

pub quotient-rest : (a b : ℤ) → quot_z a b *ℤ b +ℤ rem_z a b ≡ a
quotient-rest (pos a) (pos b) = ap pos (div-add-mod' a b)
quotient-rest (pos a) (negsuc b) = ap (λ (z : ℤ). z +ℤ pos (a % suc b)) (neg-times (a / suc b) (negsuc b) ∙ neg_ℤ-neg_ℤ (pos (a / suc b * suc b))) ∙ ap pos (div-add-mod' a (suc b))
quotient-rest (negsuc a) (pos b) = ap (λ (z : ℤ). z +ℤ neg_ℤ (pos (suc a % b))) (neg-times (suc a / b) (pos b)) ∙ neg-parts _ _ (suc a) (div-add-mod' (suc a) b)
quotient-rest (negsuc a) (negsuc b) = neg-parts _ _ (suc a) (div-add-mod' (suc a) (suc b))

abs_neg : (n : ℕ) → nat_abs (neg_ℤ (pos n)) ≡ n
abs_neg zero = refl
abs_neg (suc n) = refl

pub rest-small : (a b : ℤ) → 0 < nat_abs b → nat_abs (rem_z a b) < nat_abs b
rest-small (pos a) b h = mod-lt a h
rest-small (negsuc a) b h = rw (abs_neg (suc a % nat_abs b)) (mod-lt (suc a) h)

neg-below : (n : ℕ) → le_z (neg_ℤ (pos n)) (pos 0) ≡ true
neg-below zero = refl
neg-below (suc n) = refl

pub rest-sign : (a b : ℤ) → cond (non_neg a) (non_neg (rem_z a b)) (le_z (rem_z a b) (pos 0)) ≡ true
rest-sign (pos a) b = refl
rest-sign (negsuc a) b = neg-below (suc a % nat_abs b)

-- The least and the greatest integer, and their words.
abbrev least : ℤ
least = neg_ℤ (pos (2 ^ 63))

abbrev greatest : ℤ
greatest = pos (2 ^ 63 - 1)

abbrev minus : ℕ → ℤ
minus n = neg_ℤ (pos n)

least-words : fitting least ≡ some (record { kind = 2; low = 0; high = 2147483648 })
unfolding fitting fits literal_of_int
least-words = refl

greatest-words : fitting greatest ≡ some (record { kind = 2; low = 4294967295; high = 2147483647 })
unfolding fitting fits literal_of_int
greatest-words = refl

-- What a kind gives for integers, as a literal.
abbrev gives : ℕ → List ℤ → Option Literal
gives k xs = exact k xs >>? fitting

-- The least integer has no negation, nor a quotient by -1.
least-negation : gives 7 (least ∷ []) ≡ none
unfolding exact fitting fits
least-negation = refl

least-quotient : gives 8 (least ∷ minus 1 ∷ []) ≡ none
unfolding exact fitting fits
least-quotient = refl

-- A quotient is rounded toward zero.
quotient-down : exact 8 (pos 7 ∷ minus 2 ∷ []) ≡ some (minus 3)
unfolding exact
quotient-down = refl

quotient-up : exact 8 (minus 7 ∷ pos 2 ∷ []) ≡ some (minus 3)
unfolding exact
quotient-up = refl

-- Sums, differences and products at the limits.
sum-greatest : gives 4 (greatest ∷ pos 1 ∷ []) ≡ none
unfolding exact fitting fits
sum-greatest = refl

sum-limits : exact 4 (greatest ∷ least ∷ []) ≡ some (minus 1)
unfolding exact
sum-limits = refl

difference-least : gives 5 (least ∷ pos 1 ∷ []) ≡ none
unfolding exact fitting fits
difference-least = refl

difference-back : gives 5 (minus 1 ∷ least ∷ []) ≡ fitting greatest
unfolding exact
difference-back = refl

product-least : gives 6 (minus (2 ^ 32) ∷ pos (2 ^ 31) ∷ []) ≡ fitting least
unfolding exact
product-least = refl

product-over : gives 6 (pos (2 ^ 32) ∷ pos (2 ^ 31) ∷ []) ≡ none
unfolding exact fitting fits
product-over = refl
