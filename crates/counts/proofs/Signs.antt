-- How the product and the quotient of two integers go by their signs and their magnitudes.
use Prim.Native.Nat.{ℕ, ◌*◌, ◌/◌}
use mathlib.Core.Path.{◌≡◌, refl}
use mathlib.Core.Bool.{Bool, true, false, not, cond}
use lib.IntN.{ℤ, pos, negsuc, nat_abs, neg_ℤ, ◌*ℤ◌}
use lib.Signed.{quot_z}

-- An integer by its sign and its magnitude.
abbrev pub signed_by : Bool → ℕ → ℤ
signed_by minus n = cond minus (neg_ℤ (pos n)) (pos n)

-- An operation on integers goes by their signs, and is g on their magnitudes.
pub record BySigns (f : ℤ → ℤ → ℤ) (g : ℕ → ℕ → ℕ) : Type 0 where
  pub is : (s t : Bool) (m n : ℕ) → let a = cond s (negsuc m) (pos m) in let b = cond t (negsuc n) (pos n) in
      f a b ≡ signed_by (cond s (not t) t) (g (nat_abs a) (nat_abs b))

-- The product and the quotient do.
times-signs : (s t : Bool) (m n : ℕ) → let a = cond s (negsuc m) (pos m) in let b = cond t (negsuc n) (pos n) in
    ◌*ℤ◌ a b ≡ signed_by (cond s (not t) t) (◌*◌ (nat_abs a) (nat_abs b))
times-signs true true m n = refl
times-signs true false m n = refl
times-signs false true m n = refl
times-signs false false m n = refl

pub times : BySigns ◌*ℤ◌ ◌*◌
times = record { is = times-signs }

over-signs : (s t : Bool) (m n : ℕ) → let a = cond s (negsuc m) (pos m) in let b = cond t (negsuc n) (pos n) in
    quot_z a b ≡ signed_by (cond s (not t) t) (◌/◌ (nat_abs a) (nat_abs b))
over-signs true true m n = refl
over-signs true false m n = refl
over-signs false true m n = refl
over-signs false false m n = refl

pub over : BySigns quot_z ◌/◌
over = record { is = over-signs }
