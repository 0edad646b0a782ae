-- Laws of numbers: products that wrap, high bits, steps round the end.
use Rattle.std.proofs.Common.{◌≡◌, ℕ, suc, ◌+◌, ◌-◌, ◌*◌, ◌/◌, ◌%◌, ◌^◌, ◌<◌, ◌≤◌, Bool, true, false, eqb, leb, ◌⊎◌, List, [], ◌∷◌, length, get_or, drop, refl, ◌∙◌, inl, inr, ⊎_elim, mod-lt, mod-eq_of_lt, mul-le-mul, add-one, arith, drop_of_length-le, drop-cons, eqb-true, le-leb, leb-false, leb-true}
use native.Mathlib.Nat.{mod-eq-sub-mod}
use borrow.Author.Tests.{eqb-false, lt-leb}
use Rattle.model.specs.Cell.{Cell}
use Rattle.index.specs.Mixing.{golden, stirred, mix_from, spread, mix_of, high_bits, slot_of}

pub le-or-lt : (a b : ℕ) → (a ≤ b) ⊎ (b < a)
le-or-lt a b = go (leb a b) refl
  where
    go : (t : Bool) → leb a b ≡ t → (a ≤ b) ⊎ (b < a)
    go true e = inl (leb-true a b e)
    go false e = inr (leb-false a b e)

pub eq-or-ne : (a b : ℕ) → (a ≡ b) ⊎ (a ≡ b → ⊥)
eq-or-ne a b = go (eqb a b) refl
  where
    go : (t : Bool) → eqb a b ≡ t → (a ≡ b) ⊎ (a ≡ b → ⊥)
    go true e = inl (eqb-true a b e)
    go false e = inr (eqb-false a b e)

-- a product of two words is below 2 to the 64
pub product-fits : (x y : ℕ) → x < 2 ^ 32 → y < 2 ^ 32 → x * y < 2 ^ 64
product-fits x y h l =
    let a : x ≤ 4294967295 = omega arith in
    let b : y ≤ 4294967295 = omega arith in
    omega (arith, mul-le-mul a b)

-- a step round the end
pub round-low : (n p : ℕ) → p < n → p % n ≡ p
round-low n p h = mod-eq_of_lt h

pub round-high : (n p : ℕ) → n ≤ p → p < n + n → p % n ≡ p - n
round-high n p h l = let q : p - n < n = omega arith in mod-eq-sub-mod h ∙ mod-eq_of_lt q

-- every slot is met within n steps
pub record Reached (n s a : ℕ) : Type 0 where
  pub steps : ℕ
  pub few : steps < n
  pub there : (s + steps) % n ≡ a

pub reached : {n s a : ℕ} → s < n → a < n → Reached n s a
reached {n} {s} {a} h l = ⊎_elim
    (λ q. record { steps = a - s; few = omega arith; there = let e : s + (a - s) ≡ a = omega arith in rw e (round-low n a l) })
    (λ q. record { steps = a + n - s; few = omega arith; there = let e : s + (a + n - s) ≡ a + n = omega arith in rw e (round-high n (a + n) (omega arith) (omega arith) ∙ omega arith) })
    (le-or-lt s a)

-- the mix, two words by two
pub mix-more : (x h : ℕ) (ws : List ℕ) (i : ℕ) → i + 1 < length ws → mix_from x h (drop i ws) ≡ mix_from x (stirred x h (get_or ws i 0) (get_or ws (i + 1) 0)) (drop (i + 2) ws)
unfolding mix_from
mix-more x h ws i l = let e : i + 2 ≡ suc (suc i) = omega arith in rw (drop-cons ws i 0 (omega arith), drop-cons ws (suc i) 0 (omega arith), mix_from, add-one, e)

pub mix-last : (x h : ℕ) (ws : List ℕ) (i : ℕ) → i + 1 ≡ length ws → mix_from x h (drop i ws) ≡ stirred x h (get_or ws i 0) golden
unfolding mix_from
mix-last x h ws i l = let e : length ws ≤ suc i = omega arith in rw (drop-cons ws i 0 (omega arith), drop_of_length-le ws e)

pub mix-end : (x h : ℕ) (ws : List ℕ) (i : ℕ) → length ws ≤ i → mix_from x h (drop i ws) ≡ h
unfolding mix_from
mix-end x h ws i l = rw (drop_of_length-le ws l)

pub mix-word : (x : ℕ) (c : Cell) → mix_of x c < 2 ^ 32
unfolding spread
mix-word x c = mod-lt _ (omega arith)

-- the high bits of a word
pub bits-few : (n m : ℕ) → n ≤ 2 ^ 32 → m * n / 2 ^ 32 ≡ high_bits n m
bits-few n m h = rw (high_bits, le-leb n (2 ^ 32) h)

pub bits-many : (n m : ℕ) → 2 ^ 32 < n → m ≡ high_bits n m
bits-many n m h = rw (high_bits, lt-leb n (2 ^ 32) h)

pub bits-product : (n m : ℕ) → m < 2 ^ 32 → n ≤ 2 ^ 32 → m * n < 2 ^ 64
bits-product n m h l = let a : m ≤ 4294967295 = omega arith in let b : n ≤ 4294967296 = omega arith in omega (arith, mul-le-mul a b)

pub slot-within : (x n : ℕ) (c : Cell) → 0 < n → slot_of x n c < n
slot-within x n c h = go (leb n (2 ^ 32)) refl (mix-word x c)
  where
    go : (t : Bool) → leb n (2 ^ 32) ≡ t → mix_of x c < 2 ^ 32 → elim t [ true ↦ mix_of x c * n / 2 ^ 32 | false ↦ mix_of x c ] < n
    go true e l = let a : mix_of x c ≤ 4294967295 = omega arith in let b : n ≤ n = omega arith in omega (arith, mul-le-mul a b)
    go false e l = omega (arith, leb-false n (2 ^ 32) e)

-- the first of no words
pub first-none : (I : List ℕ) → length I ≡ 0 → get_or I 0 0 ≡ 0
first-none [] e = refl
first-none (x ∷ I) e = absurd (omega arith)
