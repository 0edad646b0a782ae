-- A mark is a bit of a word: what setting one does to it and to the others.
use Prim.Native.Nat.{ℕ, zero, suc, ◌+◌, ◌-◌, ◌*◌, ◌/◌, ◌%◌, ◌^◌, ◌<◌, ◌≤◌, suc-le-suc, max}
use native.Mathlib.Omega.{arith}
use native.Mathlib.Nat.{le_of_suc-le-suc, zero-lt-suc, mod-lt, max-le, le-max_right, max-zero, one-mul, mul-mod_left, div-eq_of_lt, div-add-mod', pow-suc}
use mathlib.Core.Path.{◌≡◌, refl, sym, ap, ap₂, subst, subst⁻¹, ◌∙◌}
use mathlib.Core.Logic.{◌⊎◌, inl, inr}
use mathlib.Core.List.{List}
use mathlib.Core.Bool.{Bool, true, false, true≢false}
use lib.ListN.{length, get_or, set, length-set, get_or-eq_default}
use lib.Seq.{get_or-set_same, get_or-set_other, set_out}
use lib.Arith.{digits_mod}
use lib.Pow.{pow_pos, pow-lt, pow-add, shl_exact, shl-shr}
use lib.Bits.{bit_or, or_step, or_shr}
use lib.Dec.{eqb, ltb, lit<}
use borrow.Author.Tests.{ltb-true, ltb-false, lt-ltb, eqb-true, eqb-false}
use Rattle.marks.specs.Marks.{zeros, words_for, is_marked, with_mark}
use Rattle.marks.specs.Covering.{Marked}

-- the words for c terms: a bit for each, and no more words than terms
pub words-hold : (c : ℕ) {n : ℕ} → n ≡ words_for c → c ≤ 32 * n
words-hold c e = omega arith

pub words-few : (c : ℕ) {n : ℕ} → n ≡ words_for c → n ≤ c
words-few c e = omega arith

-- bit k of a word
abbrev bit : ℕ → ℕ → ℕ
bit w k = w / 2 ^ k % 2

two_pos : 0 < 2
two_pos = zero-lt-suc 1

or-low : (a b : ℕ) → bit_or a b % 2 ≡ max (a % 2) (b % 2)
or-low a b =
    ap (λ (x : ℕ). x % 2) (or_step a b)
    ∙ digits_mod (bit_or (a / 2) (b / 2)) (suc-le-suc (max-le (le_of_suc-le-suc (mod-lt a two_pos)) (le_of_suc-le-suc (mod-lt b two_pos))))

bit-or : (a b k : ℕ) → bit (bit_or a b) k ≡ max (bit a k) (bit b k)
bit-or a b k = ap (λ (x : ℕ). x % 2) (or_shr a b k) ∙ or-low (a / 2 ^ k) (b / 2 ^ k)

bit-own : (k : ℕ) → bit (2 ^ k) k ≡ 1
bit-own k = ap (λ (x : ℕ). x / 2 ^ k % 2) (sym (one-mul (2 ^ k))) ∙ ap (λ (x : ℕ). x % 2) (shl-shr 1 k)

bit-above : (d k : ℕ) → bit (2 ^ (suc d + k)) k ≡ 0
bit-above d k =
    ap (λ (x : ℕ). x / 2 ^ k % 2) (pow-add 2 (suc d) k)
    ∙ ap (λ (x : ℕ). x % 2) (shl-shr (2 ^ suc d) k ∙ pow-suc 2 d)
    ∙ mul-mod_left (2 ^ d) 2

bit-other : (j k : ℕ) → (j ≡ k → ⊥) → bit (2 ^ j) k ≡ 0
bit-other j k ne = go (ltb j k) refl
  where
    go : (b : Bool) → ltb j k ≡ b → bit (2 ^ j) k ≡ 0
    go true e = ap (λ (x : ℕ). x % 2) (div-eq_of_lt (pow-lt (ltb-true j k e)))
    go false e =
        let l : k ≤ j = ltb-false j k e in
        let q : j ≡ suc (j - k - 1) + k = omega arith in
        ap (λ (x : ℕ). bit (2 ^ x) k) q ∙ bit-above (j - k - 1) k

bit-none : (k : ℕ) → ltb 0 (bit 0 k) ≡ false
bit-none k = ap (λ (x : ℕ). ltb 0 (x % 2)) (div-eq_of_lt (pow_pos k))

pub length-with : (m : List ℕ) (t : ℕ) → length (with_mark m t) ≡ length m
unfolding with_mark
length-with m t = length-set m (t / 32) (bit_or (get_or m (t / 32) 0) (2 ^ (t % 32)))

-- in a word that is 0 nothing is marked
word_none : (m : List ℕ) (t : ℕ) → get_or m (t / 32) 0 ≡ 0 → is_marked m t ≡ false
unfolding is_marked
word_none m t e = ap (λ (w : ℕ). ltb 0 (bit w (t % 32))) e ∙ bit-none (t % 32)

-- past the end nothing is marked, and nothing can be
pub none-past : (m : List ℕ) (t : ℕ) → length m ≤ t / 32 → false ≡ is_marked m t
none-past m t h = sym (word_none m t (get_or-eq_default m 0 h))

pub same-past : (m : List ℕ) (t : ℕ) → length m ≤ t / 32 → m ≡ with_mark m t
unfolding with_mark
same-past m t h = sym (set_out m (t / 32) (bit_or (get_or m (t / 32) 0) (2 ^ (t % 32))) h)

pub marked-inside : (m : List ℕ) (t : ℕ) → Marked m t → t / 32 < length m
marked-inside m t h = go (ltb (t / 32) (length m)) refl
  where
    go : (b : Bool) → ltb (t / 32) (length m) ≡ b → t / 32 < length m
    go true e = ltb-true (t / 32) (length m) e
    go false e = absurd (true≢false (sym (none-past m t (ltb-false (t / 32) (length m) e) ∙ h)))

-- as the code reads and writes them, by the term's number w as the place of a word
pub shift-lt : (t : ℕ) → t % 32 < 32
shift-lt t = mod-lt t (zero-lt-suc 31)

pub mark-read : (m : List ℕ) (t : ℕ) {w : ℕ} → w ≡ t → ltb 0 (get_or m (w / 32) 0 / 2 ^ (t % 32) % 2) ≡ is_marked m t
unfolding is_marked
mark-read m t e = ap (λ (i : ℕ). ltb 0 (bit (get_or m (i / 32) 0) (t % 32))) e

pub mark-written : (m : List ℕ) (t : ℕ) {w : ℕ} → w ≡ t → set m (w / 32) (bit_or (get_or m (w / 32) 0) ((1 * 2 ^ (t % 32)) % 2 ^ 32)) ≡ with_mark m t
unfolding with_mark
mark-written m t {w} e =
    ap (λ (b : ℕ). set m (w / 32) (bit_or (get_or m (w / 32) 0) b)) (shl_exact {a = 1} 1 (t % 32) 32 (lit< tt) (let h = shift-lt t in omega arith) ∙ one-mul (2 ^ (t % 32)))
    ∙ ap (λ (i : ℕ). set m (i / 32) (bit_or (get_or m (i / 32) 0) (2 ^ (t % 32)))) e

-- without a mark
pub zeros-word : (n i : ℕ) → get_or (zeros n) i 0 ≡ 0
zeros-word zero i = refl
zeros-word (suc n) zero = refl
zeros-word (suc n) (suc i) = zeros-word n i

pub zeros-at : (n t : ℕ) → is_marked (zeros n) t ≡ false
zeros-at n t = word_none (zeros n) t (zeros-word n (t / 32))

-- no term from k up to i is marked, as the 32 of a word that is 0
abbrev pub Bare : List ℕ → ℕ → ℕ → Type 0
Bare m k i = (t : ℕ) → k ≤ t → t < i → is_marked m t ≡ false

pub bare-word : (m : List ℕ) (i : ℕ) → 0 < i → i % 32 ≡ 0 → get_or m (i / 32 - 1) 0 ≡ 0 → (32 ≤ i) × Bare m (i - 32) i
bare-word m i h e z = (omega arith, λ t a b. let q : t / 32 ≡ i / 32 - 1 = omega arith in word_none m t (ap (λ (w : ℕ). get_or m w 0) q ∙ z))

-- one term marked
pub with-marked : (m : List ℕ) (t : ℕ) → t / 32 < length m → Marked (with_mark m t) t
unfolding is_marked with_mark
with-marked m t h =
    ap (λ (w : ℕ). ltb 0 (bit w (t % 32))) (get_or-set_same m (t / 32) (bit_or (get_or m (t / 32) 0) (2 ^ (t % 32))) 0 h)
    ∙ ap (ltb 0) (bit-or (get_or m (t / 32) 0) (2 ^ (t % 32)) (t % 32) ∙ ap (max (bit (get_or m (t / 32) 0) (t % 32))) (bit-own (t % 32)))
    ∙ lt-ltb 0 (max (bit (get_or m (t / 32) 0) (t % 32)) 1) (le-max_right (bit (get_or m (t / 32) 0) (t % 32)) 1)

-- and the others as they were
word-other : (m : List ℕ) (i j k : ℕ) → (j ≡ k → ⊥) → ltb 0 (bit (get_or (set m i (bit_or (get_or m i 0) (2 ^ j))) i 0) k) ≡ ltb 0 (bit (get_or m i 0) k)
word-other m i j k ne = go (ltb i (length m)) refl
  where
    go : (b : Bool) → ltb i (length m) ≡ b → ltb 0 (bit (get_or (set m i (bit_or (get_or m i 0) (2 ^ j))) i 0) k) ≡ ltb 0 (bit (get_or m i 0) k)
    go true e =
        ap (λ (w : ℕ). ltb 0 (bit w k)) (get_or-set_same m i (bit_or (get_or m i 0) (2 ^ j)) 0 (ltb-true i (length m) e))
        ∙ ap (ltb 0) (bit-or (get_or m i 0) (2 ^ j) k ∙ ap (max (bit (get_or m i 0) k)) (bit-other j k ne) ∙ max-zero (bit (get_or m i 0) k))
    go false e = ap (λ (l : List ℕ). ltb 0 (bit (get_or l i 0) k)) (set_out m i (bit_or (get_or m i 0) (2 ^ j)) (ltb-false i (length m) e))

with-other : (m : List ℕ) (x t : ℕ) → (t ≡ x → ⊥) → is_marked (with_mark m x) t ≡ is_marked m t
unfolding is_marked with_mark
with-other m x t ne = go (eqb (t / 32) (x / 32)) refl
  where
    next : List ℕ
    next = set m (x / 32) (bit_or (get_or m (x / 32) 0) (2 ^ (x % 32)))

    go : (b : Bool) → eqb (t / 32) (x / 32) ≡ b → ltb 0 (bit (get_or next (t / 32) 0) (t % 32)) ≡ ltb 0 (bit (get_or m (t / 32) 0) (t % 32))
    go false e = ap (λ (w : ℕ). ltb 0 (bit w (t % 32))) (get_or-set_other m (x / 32) (t / 32) (bit_or (get_or m (x / 32) 0) (2 ^ (x % 32))) 0 (eqb-false (t / 32) (x / 32) e))
    go true e =
        let q : t / 32 ≡ x / 32 = eqb-true (t / 32) (x / 32) e in
        let d : x % 32 ≡ t % 32 → ⊥ = λ r. ne (sym (div-add-mod' t 32) ∙ ap₂ (λ (a b : ℕ). a * 32 + b) q (sym r) ∙ div-add-mod' x 32) in
        subst⁻¹ (λ (i : ℕ). ltb 0 (bit (get_or next i 0) (t % 32)) ≡ ltb 0 (bit (get_or m i 0) (t % 32))) q (word-other m (x / 32) (x % 32) (t % 32) d)

pub with-keeps : (m : List ℕ) (x t : ℕ) → Marked m t → Marked (with_mark m x) t
with-keeps m x t h = go (eqb t x) refl
  where
    go : (b : Bool) → eqb t x ≡ b → Marked (with_mark m x) t
    go true e = subst (λ (y : ℕ). Marked (with_mark m y) t) (eqb-true t x e) (with-marked m t (marked-inside m t h))
    go false e = with-other m x t (eqb-false t x e) ∙ h

pub with_cases : (m : List ℕ) (x t : ℕ) → Marked (with_mark m x) t → (t ≡ x) ⊎ Marked m t
with_cases m x t h = go (eqb t x) refl
  where
    go : (b : Bool) → eqb t x ≡ b → (t ≡ x) ⊎ Marked m t
    go true e = inl (eqb-true t x e)
    go false e = inr (sym (with-other m x t (eqb-false t x e)) ∙ h)
