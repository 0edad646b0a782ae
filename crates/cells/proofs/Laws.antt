-- Laws of tables: reading a cell, comparing words, looking a cell up.
use Rattle.std.specs.Prelude as prelude
use Rattle.std.specs.Prelude.{Some, None}
use mathlib.Core.Path.{◌≡◌, refl, sym, ap, ◌∙◌}
use mathlib.Core.Logic.{⊎_elim, ◌⊎◌, inl, inr}
use mathlib.Core.Bool.{Bool, true, false, ◌&&◌}
use mathlib.Core.List.{List, [], ◌∷◌, ◌++◌}
use Prim.Native.Nat.{ℕ, zero, suc, ◌+◌, ◌-◌, ◌≤◌, ◌<◌}
use native.Mathlib.Nat.{le_trans, le_of_suc-le-suc, not-suc-le-zero, eq-or-lt_of_le}
use native.Mathlib.Numerals.{add-one}
use native.Mathlib.Omega.{arith}
use lib.Dec.{eqb}
use borrow.Author.Tests.{eq-eqb, ne_eqb, eqb-true}
use lib.ListN.{length, get_or, take, drop, length-take, length-drop, drop_of_length-le, get_or-append}
use lib.Seq.{drop-cons, get_or_at, take-length}
use Rattle.model.specs.Cell.{Cell, no_cell, same_words, same_cell, tabulate, start_of, words_at, cell_at, cells_of}
use Rattle.model.proofs.Tests.{and-false, and_left, and_right, words-eq}
use Rattle.model.proofs.Valid.{length-tabulate, cell_same}
use Rattle.cells.specs.Table.{Formed, find_from, find_cell, Once}
use Rattle.cells.specs.declared.Fill.{Fill}

-- a part up to the end
pub to_end : (n : ℕ) (ws : List ℕ) → take (length ws - n) (drop n ws) ≡ drop n ws
to_end n ws = rw (← length-drop n ws) (take-length (drop n ws))

-- tabulated lists
module _ {A : Type 0} where
  pub get_d_tabulate : (n : ℕ) (f : ℕ → A) (i : ℕ) (d : A) → i < n → get_or (tabulate n f) i d ≡ f i
  unfolding tabulate
  get_d_tabulate zero f i d h = absurd (not-suc-le-zero h)
  get_d_tabulate (suc n) f i d h =
      ⊎_elim
      (λ e. get_or_at (tabulate n f) (f n) [] d i (length-tabulate n f ∙ sym e) ∙ ap f (sym e))
      (λ l. get_or-append (tabulate n f) (f n ∷ []) d i (rw (length-tabulate n f) l) ∙ get_d_tabulate n f i d l)
      (eq-or-lt_of_le (le_of_suc-le-suc h))

  -- two are equal by their entries
  pub tabulate-ext : (n : ℕ) (f g : ℕ → A) → ((i : ℕ) → i < n → f i ≡ g i) → tabulate n f ≡ tabulate n g
  unfolding tabulate
  tabulate-ext zero f g h = refl
  tabulate-ext (suc n) f g h = rw (tabulate-ext n f g (λ i l. h i (omega arith)), h n (omega arith))

  pub tabulate-more : (n : ℕ) (f : ℕ → A) → tabulate (n + 1) f ≡ tabulate n f ++ (f n ∷ [])
  unfolding tabulate
  tabulate-more n f = rw add-one

pub start-pos : (E : List ℕ) (i : ℕ) → (i ≡ 0 → ⊥) → start_of E i ≡ get_or E (i - 1) 0
unfolding start_of
start-pos E zero h = absurd (h refl)
start-pos E (suc i) h = let e : i ≡ suc i - 1 = omega arith in ap (λ (k : ℕ). get_or E k 0) e

pub words-length : (E P : List ℕ) (i : ℕ) → start_of E i ≤ get_or E i 0 → get_or E i 0 ≤ length P → length (words_at E P i) ≡ get_or E i 0 - start_of E i
unfolding words_at
words-length E P i h l = simp (length-take, length-drop) (omega arith)

pub cells-length : (K E P : List ℕ) (n : ℕ) → length (cells_of K E P n) ≡ n
unfolding cells_of
cells-length K E P n = length-tabulate n (cell_at K E P)

pub cell-at : (K E P : List ℕ) (n i : ℕ) → i < n → get_or (cells_of K E P n) i no_cell ≡ cell_at K E P i
unfolding cells_of
cell-at K E P n i h = get_d_tabulate n (cell_at K E P) i no_cell h

-- what a formed table says of cell i
module _ {K E P : List ℕ} {f : Fill} (F : Formed K E P f) (i : ℕ) (h : i < f.cells) where
  pub rising : start_of E i ≤ get_or E i 0
  rising = F.rises i h

  pub within : get_or E i 0 ≤ length P
  within = le_trans (F.below i h) F.pool

  pub cell-words : (get_or (cells_of K E P f.cells) i no_cell).words ≡ words_at E P i
  cell-words = ap (λ (x : Cell). x.words) (cell-at K E P f.cells i h)

-- two runs of words
pub same_step : (a b : List ℕ) (k : ℕ) → k < length a → k < length b
    → same_words (drop k a) (drop k b) ≡ (eqb (get_or a k 0) (get_or b k 0) && same_words (drop (k + 1) a) (drop (k + 1) b))
same_step a b k h l = rw (drop-cons a k 0, drop-cons b k 0, add-one)

pub same_end : (a b : List ℕ) (k : ℕ) → length a ≤ k → length b ≤ k → same_words (drop k a) (drop k b) ≡ true
same_end a b k h l = rw (drop_of_length-le a h, drop_of_length-le b l)

pub same_length : (a b : List ℕ) → (length a ≡ length b → ⊥) → same_words a b ≡ false
same_length [] [] h = absurd (h refl)
same_length [] (y ∷ b) h = refl
same_length (x ∷ a) [] h = refl
same_length (x ∷ a) (y ∷ b) h = ap (λ (t : Bool). eqb x y && t) (same_length a b (λ e. h (ap suc e))) ∙ and-false (eqb x y)

module _ (a b : List ℕ) (k : ℕ) (h : k < length a) (l : k < length b) where
  pub same-no : (get_or a k 0 ≡ get_or b k 0 → ⊥) → same_words (drop k a) (drop k b) ≡ false
  same-no d = rw (same_step a b k h l, ne_eqb (get_or a k 0) (get_or b k 0) d)

  pub same-yes : get_or a k 0 ≡ get_or b k 0 → same_words (drop k a) (drop k b) ≡ same_words (drop (k + 1) a) (drop (k + 1) b)
  same-yes e = rw (same_step a b k h l, eq-eqb (get_or a k 0) (get_or b k 0) e)

-- a cell of the table against a kind and words
module _ (K E P : List ℕ) (n i : ℕ) (h : i < n) (k : ℕ) (ws : List ℕ) where
  pub kind-no : (get_or K i 0 ≡ k → ⊥) → same_cell (get_or (cells_of K E P n) i no_cell) (record { kind = k; words = ws }) ≡ false
  kind-no d = rw (cell-at K E P n i h, ne_eqb (get_or K i 0) k d)

  pub kind-yes : get_or K i 0 ≡ k → same_cell (get_or (cells_of K E P n) i no_cell) (record { kind = k; words = ws }) ≡ same_words (get_or (cells_of K E P n) i no_cell).words ws
  kind-yes e = rw (cell-at K E P n i h, eq-eqb (get_or K i 0) k e)

-- the cells of fewer are the first of more
pub cells-fewer : (K E P : List ℕ) (m n i : ℕ) → m ≤ n → i < m → get_or (cells_of K E P m) i no_cell ≡ get_or (cells_of K E P n) i no_cell
cells-fewer K E P m n i h l = cell-at K E P m i l ∙ sym (cell-at K E P n i (omega arith))

-- the test of equality decides it
pub same-cell-eq : (a b : Cell) → same_cell a b ≡ true → a ≡ b
same-cell-eq a b e =
    λ i. record {
      kind = eqb-true a.kind b.kind (and_left (eqb a.kind b.kind) (same_words a.words b.words) e) i;
      words = words-eq a.words b.words (and_right (eqb a.kind b.kind) (same_words a.words b.words) e) i;
    }

-- a number that was found is below the length, and the cell's own
Hit : (k : ℕ) (cs : List Cell) (c : Cell) (i : ℕ) → Type 0
Hit k cs c i = (k ≤ i) × (i < k + length cs) × (get_or cs (i - k) no_cell ≡ c)

hit : (cs : List Cell) (c : Cell) (k i : ℕ) → find_from k cs c ≡ Some i → Hit k cs c i
unfolding find_from Hit
hit [] c k i e = let z : ◌≡◌ {A = ℕ} 0 1 = cc in absurd (omega arith)
hit (x ∷ cs) c k i e = go (same_cell x c) refl (λ q. hit cs c (k + 1) i q) e
  where
    go : (t : Bool) → same_cell x c ≡ t → (find_from (k + 1) cs c ≡ Some i → Hit (k + 1) cs c i)
        → elim t [ true ↦ Some k | false ↦ find_from (k + 1) cs c ] ≡ Some i → Hit k (x ∷ cs) c i
    go true s ih q =
        let r : k ≡ i = cc in
        let d : i - k ≡ 0 = omega arith in
        (omega arith, omega arith, rw d (same-cell-eq x c s))
    go false s ih q =
        let h = ih q in
        let d : i - k ≡ suc (i - (k + 1)) = omega arith in
        (omega arith, omega arith, rw d h.2)

pub found_at : (cs : List Cell) (c : Cell) (i : ℕ) → find_cell cs c ≡ Some i → (i < length cs) × (get_or cs i no_cell ≡ c)
unfolding Hit
found_at cs c i e =
    let h = hit cs c 0 i e in
    let d : i - 0 ≡ i = omega arith in
    (omega arith, rw d at h.2)

-- where an equal cell stands one is found, and where no two are equal it is that one
SomeFound : (k : ℕ) (cs : List Cell) (c : Cell) → Type 0
SomeFound k cs c = (i : ℕ) × (find_from k cs c ≡ Some i)

some-found : (cs : List Cell) (c : Cell) (k n : ℕ) → n < length cs → same_cell (get_or cs n no_cell) c ≡ true → SomeFound k cs c
unfolding find_from SomeFound
some-found [] c k n h e = absurd (not-suc-le-zero h)
some-found (x ∷ cs) c k n h e = go (same_cell x c) refl (λ m l q. some-found cs c (k + 1) m l q) n h e
  where
    go : (t : Bool) → same_cell x c ≡ t → ((m : ℕ) → m < length cs → same_cell (get_or cs m no_cell) c ≡ true → SomeFound (k + 1) cs c)
        → (n : ℕ) → n < suc (length cs) → same_cell (get_or (x ∷ cs) n no_cell) c ≡ true → (i : ℕ) × (elim t [ true ↦ Some k | false ↦ find_from (k + 1) cs c ] ≡ Some i)
    go true s ih n h e = (k, refl)
    go false s ih zero h e = let z : false ≡ true = sym s ∙ e in (k, cc)
    go false s ih (suc n) h e = ih n (le_of_suc-le-suc h) e

pub once-found : (cs : List Cell) (c : Cell) (n : ℕ) → Once cs → n < length cs → same_cell (get_or cs n no_cell) c ≡ true → find_cell cs c ≡ Some n
unfolding SomeFound
once-found cs c n once h e =
    let (i, q) = some-found cs c 0 n h e in
    let g = found_at cs c i q in
    q ∙ ap Some (once.one i n g.0 h (g.1 ∙ sym (same-cell-eq (get_or cs n no_cell) c e)))

-- where none is found, none is equal
pub never-found : (cs : List Cell) (c : Cell) (i : ℕ) → find_cell cs c ≡ None → i < length cs → get_or cs i no_cell ≡ c → ⊥
unfolding SomeFound
never-found cs c i e h q =
    let (n, g) = some-found cs c 0 i h (ap (λ (x : Cell). same_cell x c) q ∙ cell_same c) in
    let z : ◌≡◌ {A = prelude.Option ℕ} None (Some n) = sym e ∙ g in
    let y : ◌≡◌ {A = ℕ} 0 1 = cc in
    omega arith

-- a cell of a longer list: one of the first, or the last
abbrev pub LastCases : (cs : List Cell) (c : Cell) (i : ℕ) → Type 0
LastCases cs c i = ((i < length cs) × (get_or (cs ++ (c ∷ [])) i no_cell ≡ get_or cs i no_cell)) ⊎ ((i ≡ length cs) × (get_or (cs ++ (c ∷ [])) i no_cell ≡ c))

pub last-cases : (cs : List Cell) (c : Cell) (i : ℕ) → i < length (cs ++ (c ∷ [])) → LastCases cs c i
last-cases [] c zero h = inr (refl, refl)
last-cases [] c (suc i) h = absurd (not-suc-le-zero (le_of_suc-le-suc h))
last-cases (x ∷ cs) c zero h = inl (omega arith, refl)
last-cases (x ∷ cs) c (suc i) h = go (last-cases cs c i (le_of_suc-le-suc h))
  where
    go : LastCases cs c i → LastCases (x ∷ cs) c (suc i)
    go (inl (l, q)) = inl (omega arith, q)
    go (inr (l, q)) = inr (omega arith, q)
