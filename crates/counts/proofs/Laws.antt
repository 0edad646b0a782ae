-- What std's checked operations give, as the definitions have it, and what so many arguments give.
use Prim.Native.Nat.{ℕ, zero, suc, ◌+◌, ◌*◌, ◌%◌, ◌/◌, ◌^◌, ◌<◌}
use native.Mathlib.Omega.{arith}
use mathlib.Core.Path.{◌≡◌, refl, sym, ap, ◌∙◌}
use mathlib.Core.List.{List, [], ◌∷◌}
use mathlib.Core.Bool.{Bool, true, false, cond}
use mathlib.Core.Option.{Option, none, some}
use lib.Dec.{eqb}
use lib.IntN.{ℤ, pos, negsuc, nat_abs}
use lib.Signed.{mag, quot_z}
use mir.Syntax.{w64}
use mir.Val.{SFits, of_z, to_z}
use borrow.Author.Tests.{lt-ltb, le-ltb, ne_eqb}
use Rattle.std.proofs.lemmas.Bool.{eqb-false}
use Rattle.std.proofs.Math.Nat.{lt_of_not-le}
use Rattle.std.specs.Prelude as std
use Rattle.std.specs.Prelude.{SomeIff, Some, None}
use Rattle.std.specs.Int.{CanDivide}
use Rattle.model.specs.Counts.{int_of, bits_of, literal_of_int, all_of, quotient, of_one, of_two, exact, fitting, count_value}
use Rattle.model.specs.Check.{◌>>?◌}
use Rattle.model.proofs.Counting.{int-cases, fits-yes, fits-no}
use Rattle.decode.specs.View.{HasNoOperation}
use Rattle.decode.specs.declared.Operation.{Operation}
use Rattle.counts.specs.Counted.{integer_in, valued, Given}

-- The integer of 64 bits, in two's complement.
pub word-int : (low high n : ℕ) → low < 2 ^ 32 → high < 2 ^ 32 → n ≡ low + high * 2 ^ 32 → to_z w64 n ≡ int_of low high
word-int low high n l h e =
    int-cases (λ z. to_z w64 n ≡ z) low high l h (λ k. rw (e, lt-ltb (low + high * 2 ^ 32) (2 ^ 63) (omega arith))) (λ k. rw (e, le-ltb (low + high * 2 ^ 32) (2 ^ 63) (omega arith)))

bits-word : (a : ℤ) → of_z w64 a ≡ bits_of a
bits-word (pos n) = refl
bits-word (negsuc n) = refl

-- Its literal.
pub word-literal : (a : ℤ) (n : ℕ) → n ≡ of_z w64 a → record { kind = 2; low = n % 2 ^ 32; high = n / 2 ^ 32 } ≡ literal_of_int a
unfolding literal_of_int
word-literal a n e = ap (λ (m : ℕ). record { kind = 2; low = m % 2 ^ 32; high = m / 2 ^ 32 }) (e ∙ bits-word a)

-- A checked operation has a value exactly where the integer fits.
pub checked-value : (r : std.Option ℤ) (z : ℤ) → SomeIff r (SFits w64 z) z → valued r ≡ fitting z
unfolding fitting
checked-value None z h = let l : 2 ^ 63 < suc (mag z) = lt_of_not-le (λ k. h (record { sfits = k })) in rw (fits-no z (omega arith))
checked-value (Some x) z h = rw (fits-yes z h.0.sfits, h.1)

-- A divisor of 64 bits is 0 exactly where its word is.
word-above : (b : ℤ) → SFits w64 b → (nat_abs b ≡ 0 → ⊥) → 0 < of_z w64 b
word-above (pos n) f h = omega arith
word-above (negsuc n) f h = let l : n < 2 ^ 63 = f.sfits in omega arith

abs-above : (b : ℤ) → 0 < of_z w64 b → nat_abs b ≡ 0 → ⊥
abs-above (pos n) h e = omega arith
abs-above (negsuc n) h e = omega arith

-- A checked quotient has a value exactly where there is one and it fits.
pub checked-quotient : (r : std.Option ℤ) (a b : ℤ) → SFits w64 b → SomeIff r (CanDivide w64 a b) (quot_z a b) → valued r ≡ (quotient a b >>? fitting)
checked-quotient None a b f h = by (eqb (nat_abs b) 0) refl
  where
    by : (t : Bool) → eqb (nat_abs b) 0 ≡ t → none ≡ (cond t none (some (quot_z a b)) >>? fitting)
    by true e = refl
    by false e = checked-value None (quot_z a b) (λ g. h (word-above b f (eqb-false _ _ e), g))
checked-quotient (Some x) a b f h = rw (ne_eqb (nat_abs b) 0 (abs-above b h.0.0)) (checked-value (Some x) (quot_z a b) (h.0.1, h.1))

-- The values for one argument and for two.
pub value-one : (k : ℕ) (x : std.Option ℤ) (a : ℤ) → x ≡ Some a → of_one k a >>? fitting ≡ count_value k (integer_in x ∷ [])
unfolding count_value exact
value-one k x a e = rw e

pub value-two : (k : ℕ) (x y : std.Option ℤ) (a b : ℤ) → x ≡ Some a → y ≡ Some b → of_two k a b >>? fitting ≡ count_value k (integer_in x ∷ integer_in y ∷ [])
unfolding count_value exact
value-two k x y a b e f = rw (e, f)

pub one_none : (k : ℕ) (x : std.Option ℤ) → x ≡ None → none ≡ count_value k (integer_in x ∷ [])
unfolding count_value
one_none k x e = rw e

pub left_none : (k : ℕ) (x y : std.Option ℤ) → x ≡ None → none ≡ count_value k (integer_in x ∷ integer_in y ∷ [])
unfolding count_value
left_none k x y e = rw e

pub right_none : (k : ℕ) (x y : std.Option ℤ) → y ≡ None → none ≡ count_value k (integer_in x ∷ integer_in y ∷ [])
unfolding count_value
right_none k None y e = refl
right_none k (Some a) y e = rw e

-- Where not one argument is given, and not two.
exact-more : (k : ℕ) (a b c : ℤ) (cs : Option (List ℤ)) → ((cs >>? λ ds. some (c ∷ ds)) >>? λ ds. some (b ∷ ds)) >>? (λ ds. some (a ∷ ds)) >>? exact k >>? fitting ≡ none
unfolding exact
exact-more k a b c none = refl
exact-more k a b c (some cs) = refl

pub given-other : (k n : ℕ) {a b : Option ℤ} (xs : List (Option ℤ)) → (n ≡ 1 → ⊥) → (n ≡ 2 → ⊥) → Given n a b xs → count_value k xs ≡ none
unfolding count_value exact
given-other k n [] h i g = refl
given-other k n (x ∷ []) h i g = absurd (h (sym g.many))
given-other k n (x ∷ y ∷ []) h i g = absurd (i (sym g.many))
given-other k n (none ∷ y ∷ z ∷ xs) h i g = refl
given-other k n (some a ∷ none ∷ z ∷ xs) h i g = refl
given-other k n (some a ∷ some b ∷ none ∷ xs) h i g = refl
given-other k n (some a ∷ some b ∷ some c ∷ xs) h i g = exact-more k a b c (all_of xs)

-- A kind that no operation has.
one-other : (k : ℕ) (a : ℤ) → HasNoOperation k → of_one k a ≡ none
one-other k a h = rw (ne_eqb k 7 (λ e. h Operation.Negation (sym e)))

two-other : (k : ℕ) (a b : ℤ) → HasNoOperation k → of_two k a b ≡ none
two-other zero a b h = refl
two-other (suc zero) a b h = refl
two-other (suc (suc zero)) a b h = refl
two-other (suc (suc (suc zero))) a b h = refl
two-other (suc (suc (suc (suc zero)))) a b h = absurd (h Operation.Sum refl)
two-other (suc (suc (suc (suc (suc zero))))) a b h = absurd (h Operation.Difference refl)
two-other (suc (suc (suc (suc (suc (suc zero)))))) a b h = absurd (h Operation.Product refl)
two-other (suc (suc (suc (suc (suc (suc (suc zero))))))) a b h = refl
two-other (suc (suc (suc (suc (suc (suc (suc (suc zero)))))))) a b h = absurd (h Operation.Quotient refl)
two-other (suc (suc (suc (suc (suc (suc (suc (suc (suc k))))))))) a b h = refl

pub no-value : (k : ℕ) (xs : List (Option ℤ)) → HasNoOperation k → count_value k xs ≡ none
unfolding count_value exact
no-value k [] h = refl
no-value k (none ∷ xs) h = refl
no-value k (some a ∷ []) h = rw (one-other k a h)
no-value k (some a ∷ none ∷ xs) h = refl
no-value k (some a ∷ some b ∷ []) h = rw (two-other k a b h)
no-value k (some a ∷ some b ∷ none ∷ xs) h = refl
no-value k (some a ∷ some b ∷ some c ∷ xs) h = exact-more k a b c (all_of xs)
