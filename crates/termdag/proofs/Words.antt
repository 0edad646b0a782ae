-- The words of a store: the arrays are the terms' words, written over what was lent.
use mathlib.Core.Path.{◌≡◌, refl, sym, ap, ap₂, ◌∙◌}
use mathlib.Core.List.{List, [], ◌∷◌, ◌++◌, map, map-append, append_assoc, append-nil}
use Prim.Native.Nat.{ℕ, zero, suc, ◌+◌, ◌-◌, ◌≤◌, ◌<◌}
use native.Mathlib.Omega.{arith}
use lib.ListN.{length, get_or, take, drop, take-append-drop}
use lib.Seq.{take-suc, take-add, length-take-le}
use Rattle.model.specs.Cell.{Cell, tabulate, start_of, words_at, cell_at, cells_of}
use Rattle.model.specs.Term.{Term, term_kind, cell_of}
use Rattle.model.specs.Answer.{over, term_ends, term_pool, Arrays, stored}
use Rattle.cells.specs.Table.{Formed, total}
use Rattle.cells.specs.declared.Fill.{Fill as TableFill}
use Rattle.index.specs.declared.Fill.{Fill}
use Rattle.cells.proofs.Laws.{rising, within, words-length}
use Rattle.cells.proofs.Appending.{held-total}
use Rattle.termdag.specs.Store.{terms_in, Stored}
use Rattle.termdag.proofs.Loading.{first}

-- the kinds, ends and pool of cells
kind_of : Cell → ℕ
kind_of c = c.kind

ends_from : ℕ → List Cell → List ℕ
ends_from a [] = []
ends_from a (c ∷ cs) = (a + length c.words) ∷ ends_from (a + length c.words) cs

pool_of : List Cell → List ℕ
pool_of [] = []
pool_of (c ∷ cs) = c.words ++ pool_of cs

ends_snoc : (a : ℕ) (cs : List Cell) (c : Cell) → ends_from a (cs ++ (c ∷ [])) ≡ ends_from a cs ++ ((a + total cs + length c.words) ∷ [])
unfolding ends_from total
ends_snoc a [] c = ap (λ (n : ℕ). (n + length c.words) ∷ []) (omega arith)
ends_snoc a (x ∷ cs) c =
    let e : a + length x.words + total cs + length c.words ≡ a + (length x.words + total cs) + length c.words = omega arith in
    ap (λ (l : List ℕ). (a + length x.words) ∷ l) (ends_snoc (a + length x.words) cs c ∙ ap (λ (n : ℕ). ends_from (a + length x.words) cs ++ (n ∷ [])) e)

pool-snoc : (cs : List Cell) (c : Cell) → pool_of (cs ++ (c ∷ [])) ≡ pool_of cs ++ c.words
unfolding pool_of
pool-snoc [] c = append-nil c.words
pool-snoc (x ∷ cs) c = ap (λ (l : List ℕ). x.words ++ l) (pool-snoc cs c) ∙ sym (append_assoc x.words (pool_of cs) c.words)

-- those of the first n cells are the first of each array
module _ {K E P : List ℕ} {f : TableFill} (F : Formed K E P f) where
  kinds-of : (n : ℕ) → n ≤ f.cells → take n K ≡ map kind_of (tabulate n (cell_at K E P))
  unfolding tabulate kind_of
  kinds-of zero h = refl
  kinds-of (suc n) h =
      take-suc K n 0 (omega (arith, F.kinds)) ∙ ap (λ (l : List ℕ). l ++ (get_or K n 0 ∷ [])) (kinds-of n (omega arith))
      ∙ sym (map-append kind_of (tabulate n (cell_at K E P)) (cell_at K E P n ∷ []))

  -- where cell n ends
  end_of : (n : ℕ) → n < f.cells → get_or E n 0 ≡ 0 + total (tabulate n (cell_at K E P)) + length (words_at E P n)
  unfolding cells_of
  end_of n h = omega (arith, held-total (first F n (omega arith)), words-length E P n (rising F n h) (within F n h), rising F n h)

  ends_of_lem : (n : ℕ) → n ≤ f.cells → take n E ≡ ends_from 0 (tabulate n (cell_at K E P))
  unfolding tabulate ends_from
  ends_of_lem zero h = refl
  ends_of_lem (suc n) h =
      take-suc E n 0 (omega (arith, F.kinds, F.even))
      ∙ ap₂ (λ (l : List ℕ) (e : ℕ). l ++ (e ∷ [])) (ends_of_lem n (omega arith)) (end_of n h)
      ∙ sym (ends_snoc 0 (tabulate n (cell_at K E P)) (cell_at K E P n))

  pool-of : (n : ℕ) → n ≤ f.cells → take (start_of E n) P ≡ pool_of (tabulate n (cell_at K E P))
  unfolding tabulate pool_of start_of words_at
  pool-of zero h = refl
  pool-of (suc n) h =
      let e : get_or E n 0 ≡ start_of E n + (get_or E n 0 - start_of E n) = omega (arith, rising F n h) in
      ap (λ (m : ℕ). take m P) e ∙ take-add (start_of E n) (get_or E n 0 - start_of E n) P
      ∙ ap (λ (l : List ℕ). l ++ words_at E P n) (pool-of n (omega arith))
      ∙ sym (pool-snoc (tabulate n (cell_at K E P)) (cell_at K E P n))

-- those of terms' cells are the terms'
kinds-terms : (s : List Term) → map kind_of (map cell_of s) ≡ map term_kind s
unfolding kind_of
kinds-terms [] = refl
kinds-terms (t ∷ s) = ap (λ (l : List ℕ). term_kind t ∷ l) (kinds-terms s)

ends-terms : (a : ℕ) (s : List Term) → ends_from a (map cell_of s) ≡ term_ends a s
unfolding ends_from
ends-terms a [] = refl
ends-terms a (t ∷ s) = ap (λ (l : List ℕ). (a + length (cell_of t).words) ∷ l) (ends-terms (a + length (cell_of t).words) s)

pool-terms : (s : List Term) → pool_of (map cell_of s) ≡ term_pool s
unfolding pool_of
pool-terms [] = refl
pool-terms (t ∷ s) = ap (λ (l : List ℕ). (cell_of t).words ++ l) (pool-terms s)

over-lent : (n : ℕ) (l l₀ new : List ℕ) → n ≤ length l → take n l ≡ new → drop n l ≡ drop n l₀ → l ≡ over new l₀
over-lent n l l₀ new h e d =
    let m : n ≡ length new = sym (length-take-le n l h) ∙ ap length e in
    sym (take-append-drop n l) ∙ (λ i. e i ++ d i) ∙ ap (λ (k : ℕ). new ++ drop k l₀) m

-- a store whose arrays past the fill are as they were lent holds its terms, over what was lent
pub store_words : {K E P : List ℕ} {f : Fill} (lent : Arrays) → Stored K E P f
    → drop f.cells K ≡ drop f.cells lent.kinds → drop f.cells E ≡ drop f.cells lent.ends → drop f.words P ≡ drop f.words lent.pool
    → record { kinds = K; ends = E; pool = P } ≡ stored (terms_in K E P f) lent
unfolding cells_of
store_words {K} {E} {P} {f} lent S k e p =
    let F = S.formed in
    let n = f.cells in
    let s = terms_in K E P f in
    let cs = sym S.terms in
    let a = over-lent n K lent.kinds (map term_kind s) F.kinds (kinds-of F n (omega arith) ∙ ap (map kind_of) cs ∙ kinds-terms s) k in
    let b = over-lent n E lent.ends (term_ends 0 s) (omega (arith, F.kinds, F.even)) (ends_of_lem F n (omega arith) ∙ ap (ends_from 0) cs ∙ ends-terms 0 s) e in
    let c = over-lent f.words P lent.pool (term_pool s) F.pool (ap (λ (m : ℕ). take m P) (sym F.top) ∙ pool-of F n (omega arith) ∙ ap pool_of cs ∙ pool-terms s) p in
    λ i. record { kinds = a i; ends = b i; pool = c i }
