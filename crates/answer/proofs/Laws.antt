-- Laws of the answer's words.
use mathlib.Core.Path.{◌≡◌, refl, sym, ap, ◌∙◌}
use mathlib.Core.List.{List, [], ◌∷◌, ◌++◌, append-nil}
use Prim.Native.Nat.{ℕ, zero, suc, ◌+◌, ◌≤◌, ◌<◌}
use native.Mathlib.Omega.{arith}
use native.Mathlib.Nat.{not-suc-le-zero}
use lib.ListN.{length, get_or, take, length-take, drop_of_length-le, get_or-eq_default}
use Rattle.model.specs.Answer.{padded, refusal_words}
use Rattle.cells.specs.Table.{put}
use Rattle.outcome.specs.Does.{refusal_of}
use Rattle.outcome.specs.declared.Refusal.{Refusal}
use Rattle.answer.specs.Answers.{passed_words}

-- word i of the first n
pub first-at : (n : ℕ) (xs : List ℕ) (i : ℕ) → i < n → get_or xs i 0 ≡ get_or (take n xs) i 0
first-at zero xs i h = absurd (not-suc-le-zero h)
first-at (suc n) [] i h = refl
first-at (suc n) (x ∷ xs) zero h = refl
first-at (suc n) (x ∷ xs) (suc i) h = first-at n xs i (omega arith)

pub first_past : (n : ℕ) (xs : List ℕ) (i : ℕ) → n ≤ i → 0 ≡ get_or (take n xs) i 0
first_past n xs i h = sym (get_or-eq_default (take n xs) 0 {n = i} (simp length-take (omega arith)))

-- words written over as many
put_all : (d s : List ℕ) → length d ≡ length s → put d 0 s ≡ s
unfolding put
put_all d s h = ap (λ (l : List ℕ). s ++ l) (drop_of_length-le d {i = 0 + length s} (omega arith)) ∙ append-nil s

-- the first six words
six : (xs : List ℕ) → padded 6 xs ≡ get_or xs 0 0 ∷ get_or xs 1 0 ∷ get_or xs 2 0 ∷ get_or xs 3 0 ∷ get_or xs 4 0 ∷ get_or xs 5 0 ∷ []
six [] = refl
six (a ∷ []) = refl
six (a ∷ b ∷ []) = refl
six (a ∷ b ∷ c ∷ []) = refl
six (a ∷ b ∷ c ∷ d ∷ []) = refl
six (a ∷ b ∷ c ∷ d ∷ e ∷ []) = refl
six (a ∷ b ∷ c ∷ d ∷ e ∷ f ∷ xs) = refl

module _ (old : List ℕ) {new : List ℕ} (eight : length old ≡ 8) where
  pub wrote-refusal : (r : Refusal) (t : ℕ) {a b c d e f : ℕ}
      → a ≡ get_or (refusal_of r).fields 0 0 → b ≡ get_or (refusal_of r).fields 1 0 → c ≡ get_or (refusal_of r).fields 2 0
      → d ≡ get_or (refusal_of r).fields 3 0 → e ≡ get_or (refusal_of r).fields 4 0 → f ≡ get_or (refusal_of r).fields 5 0
      → new ≡ put old 0 (r.number ∷ t ∷ a ∷ b ∷ c ∷ d ∷ e ∷ f ∷ []) → (new ≡ refusal_words (refusal_of r) t) × (r.number ≡ get_or new 0 0)
  wrote-refusal r t a b c d e f w =
      let words : new ≡ refusal_words (refusal_of r) t =
      w ∙ put_all old _ eight
      ∙ (λ i. r.number ∷ t ∷ a i ∷ b i ∷ c i ∷ d i ∷ e i ∷ f i ∷ [])
      ∙ ap (λ (l : List ℕ). r.number ∷ t ∷ l) (sym (six (refusal_of r).fields)) in
      (words, sym (ap (λ (l : List ℕ). get_or l 0 0) words))

  pub wrote-passed : (t lhs rhs h : ℕ) → new ≡ put old 0 (passed_words t lhs rhs h) → (new ≡ passed_words t lhs rhs h) × (0 ≡ get_or new 0 0)
  wrote-passed t lhs rhs h w =
      let words : new ≡ passed_words t lhs rhs h = w ∙ put_all old (passed_words t lhs rhs h) eight in
      (words, sym (ap (λ (l : List ℕ). get_or l 0 0) words))
