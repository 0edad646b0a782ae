-- Laws of the words of bytes.
use mathlib.Core.Path.{◌≡◌, sym, ap, subst, ◌∙◌}
use mathlib.Core.List.{List, [], ◌∷◌, ◌++◌}
use Prim.Native.Nat.{ℕ, ◌+◌, ◌*◌, ◌/◌, ◌≤◌, ◌<◌}
use native.Mathlib.Omega.{arith}
use native.Mathlib.Numerals.{add-one}
use lib.ListN.{length, get_or, set, drop, length-drop}
use lib.Seq.{paste, paste-suc, drop-cons}
use Rattle.model.specs.Host.{words_of}

pub words-least : (bs : List ℕ) → 4 * length (words_of bs) ≤ length bs
unfolding words_of
words-least [] = omega arith
words-least (a ∷ []) = omega arith
words-least (a ∷ b ∷ []) = omega arith
words-least (a ∷ b ∷ c ∷ []) = omega arith
words-least (a ∷ b ∷ c ∷ d ∷ bs) = omega (arith, words-least bs)

pub words-most : (bs : List ℕ) → length bs < 4 * length (words_of bs) + 4
unfolding words_of
words-most [] = omega arith
words-most (a ∷ []) = omega arith
words-most (a ∷ b ∷ []) = omega arith
words-most (a ∷ b ∷ c ∷ []) = omega arith
words-most (a ∷ b ∷ c ∷ d ∷ bs) = omega (arith, words-most bs)

pub words_count : (bs : List ℕ) → length bs / 4 ≡ length (words_of bs)
words_count bs = omega (arith, words-least bs, words-most bs)

-- a copy to the front, one word on
pub paste-front : (d s : List ℕ) (i : ℕ) → i < length d → i < length s → set (paste d 0 s i) i (get_or s i 0) ≡ paste d 0 s (i + 1)
paste-front d s i h l =
    let z : 0 + i ≡ i = omega arith in
    subst (λ (k : ℕ). set (paste d 0 s i) k (get_or s i 0) ≡ paste d 0 s (i + 1)) z (rw add-one (paste-suc d 0 s i 0 (omega arith) l))

-- four bytes are one word
words-next : (us four vs : List ℕ) → us ≡ four ++ vs → length four ≡ 4
    → words_of us ≡ (get_or four 0 0 + get_or four 1 0 * 256 + get_or four 2 0 * 65536 + get_or four 3 0 * 16777216) ∷ words_of vs
unfolding words_of
words-next us [] vs e h = absurd (omega arith)
words-next us (a ∷ []) vs e h = absurd (omega arith)
words-next us (a ∷ b ∷ []) vs e h = absurd (omega arith)
words-next us (a ∷ b ∷ c ∷ []) vs e h = absurd (omega arith)
words-next us (a ∷ b ∷ c ∷ d ∷ []) vs e h = rw e (ap (λ (w : ℕ). w ∷ words_of vs) (omega arith))
words-next us (a ∷ b ∷ c ∷ d ∷ x ∷ four) vs e h = absurd (omega arith)

-- the word k of bytes, where the words from k on are those of us
module _ (bs us four vs : List ℕ) (k w : ℕ) (r : drop k (words_of bs) ≡ words_of us) (e : us ≡ four ++ vs) (h : length four ≡ 4)
    (q : w ≡ get_or four 0 0 + get_or four 1 0 * 256 + get_or four 2 0 * 65536 + get_or four 3 0 * 16777216) where
  here : drop k (words_of bs) ≡ w ∷ words_of vs
  here = r ∙ words-next us four vs e h ∙ ap (λ (x : ℕ). x ∷ words_of vs) (sym q)

  inside : k < length (words_of bs)
  inside = omega (arith, simp length-drop at (ap length here))

  pub next-rest : drop (k + 1) (words_of bs) ≡ words_of vs
  next-rest = let d = drop-cons (words_of bs) k 0 inside in let f = here in rw add-one (cc)

  pub next-word : (d : List ℕ) → k < length d → set (paste d 0 (words_of bs) k) k w ≡ paste d 0 (words_of bs) (k + 1)
  next-word d l =
      let c = drop-cons (words_of bs) k 0 inside in
      let f = here in
      let g : get_or (words_of bs) k 0 ≡ w = cc in
      rw (← g) (paste-front d (words_of bs) k l inside)
