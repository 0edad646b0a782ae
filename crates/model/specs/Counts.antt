-- Signed counts: the integers that literals of kind 2 stand for, and what the primitives of kinds 4 to 8 make of them.
-- The integers are the toolchain's ℤ, with its sum, difference, product and negation; `quot_z` is its quotient, rounded toward zero.
use Rattle.std.specs.Prelude.{ℕ, suc, ◌+◌, ◌*◌, ◌-◌, ◌/◌, ◌%◌, ◌^◌, List, [], ◌∷◌, Bool, cond, ◌&&◌, get_or, eqb, ltb, ℤ, pos, negsuc, nat_abs, neg_ℤ, ◌+ℤ◌, ◌-ℤ◌, ◌*ℤ◌}
use Rattle.std.proofs.Math.Option.{Option, none, some}
use Rattle.std.specs.Int.Signed.{le_z, lt_z, quot_z}
use Rattle.model.specs.Term.{Literal, Term, lit, var, app}
use Rattle.model.specs.Check.{◌>>?◌}

-- The integer of two words, in two's complement: less 2 ^ 64 where the highest bit is set.
unfoldable pub int_of : ℕ → ℕ → ℤ
int_of low high = pos (low + high * 2 ^ 32) -ℤ pos (cond (ltb high (2 ^ 31)) 0 (2 ^ 64))

-- An integer fits 64 bits.
unfoldable pub fits : ℤ → Bool
fits r = le_z (neg_ℤ (pos (2 ^ 63))) r && lt_z r (pos (2 ^ 63))

-- The 64 bits of an integer that fits, as a number.
abbrev pub bits_of : ℤ → ℕ
bits_of (pos n) = n
bits_of (negsuc n) = 2 ^ 64 - suc n

-- The literal of an integer that fits.
unfoldable pub literal_of_int : ℤ → Literal
literal_of_int r = record { kind = 2; low = bits_of r % 2 ^ 32; high = bits_of r / 2 ^ 32 }

-- The integer that a literal stands for; one of another kind stands for none.
unfoldable pub count_of : Literal → Option ℤ
count_of l = cond (eqb l.kind 2) (some (int_of l.low l.high)) none

-- The integer that a term stands for.
abbrev pub count_of_term : Option Term → Option ℤ
count_of_term none = none
count_of_term (some (lit l)) = count_of l
count_of_term (some (var x)) = none
count_of_term (some (app f xs)) = none

-- All of them, where none is missing.
abbrev pub all_of : List (Option ℤ) → Option (List ℤ)
all_of [] = some []
all_of (x ∷ xs) = x >>? λ a. all_of xs >>? λ as'. some (a ∷ as')

-- The quotient, where the divisor is not 0.
abbrev pub quotient : ℤ → ℤ → Option ℤ
quotient a b = cond (eqb (nat_abs b) 0) none (some (quot_z a b))

-- What a kind makes of one integer, and of two: 4 sum, 5 difference, 6 product, 7 negation, 8 quotient.
abbrev pub of_one : ℕ → ℤ → Option ℤ
of_one k a = cond (eqb k 7) (some (neg_ℤ a)) none

abbrev pub of_two : ℕ → ℤ → ℤ → Option ℤ
of_two k a b =
    get_or (none ∷ none ∷ none ∷ none ∷ some (a +ℤ b) ∷ some (a -ℤ b) ∷ some (a *ℤ b) ∷ none ∷ quotient a b ∷ []) k none

-- What a kind makes of its arguments, among all integers.
unfoldable pub exact : ℕ → List ℤ → Option ℤ
exact k [] = none
exact k (a ∷ []) = of_one k a
exact k (a ∷ b ∷ []) = of_two k a b
exact k (a ∷ b ∷ c ∷ cs) = none

-- The literal of an integer, where it fits.
unfoldable pub fitting : ℤ → Option Literal
fitting r = cond (fits r) (some (literal_of_int r)) none

-- The value of a primitive of kind 4 to 8; an argument that is no integer is none.
unfoldable pub count_value : ℕ → List (Option ℤ) → Option Literal
count_value k xs = all_of xs >>? exact k >>? fitting
