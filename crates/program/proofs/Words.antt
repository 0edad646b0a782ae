-- Laws of a job's words: where its sizes, kinds, ends and pool stand, and the cells of its tables.
use mathlib.Core.Path.{◌≡◌, refl, sym, ap, subst, ◌∙◌}
use mathlib.Core.List.{List}
use Prim.Native.Nat.{ℕ, zero, suc, ◌+◌, ◌-◌, ◌≤◌, ◌<◌, ◌/◌}
use native.Mathlib.Omega.{arith}
use denote.Enum.Declared.{tag_of}
use lib.Dec.{lit<}
use lib.ListN.{length, get_or, take, drop}
use lib.Seq.{get_or-take, get_or-drop}
use Rattle.model.specs.Cell.{Cell, no_cell, start_of, words_at, cells_of}
use Rattle.model.specs.Layout.{sizes_of, cell_count, kinds_of, ends_of, pool_of}
use Rattle.model.specs.Decode.{word}
use Rattle.cells.proofs.Laws.{cells-length, cell-at, rising, within, cell-words}
use Rattle.cells.specs.Table.{Formed}
use Rattle.cells.specs.declared.Fill.{Fill}
use Rattle.decode.specs.View.{cell}
use Rattle.index.specs.declared.Fill.{Fill as IndexedFill}
use Rattle.termdag.specs.Store.{Loadable, Loaded}
use Rattle.load.specs.Held.{cell_number}
use Rattle.load.proofs.TableLaws.{table-cell, place_inside, number-count}
use Rattle.program.specs.declared.job.Table.{Table}
use Rattle.program.specs.contracts.job.Table.{the_type}
use Rattle.program.specs.Ready.{Held, number_of, fill_for, cells_for, cell_for, table_for, count_for}

-- the number of a table
pub number-below : (t : Table) → number_of t < 10
number-below Table.Terms = lit< tt
number-below Table.Expressions = lit< tt
number-below Table.Facts = lit< tt
number-below Table.Actions = lit< tt
number-below Table.Functions = lit< tt
number-below Table.Primitives = lit< tt
number-below Table.Rows = lit< tt
number-below Table.Normalisers = lit< tt
number-below Table.Rules = lit< tt
number-below Table.Proofs = lit< tt

pub number-is : (t : Table) → tag_of the_type t ≡ number_of t
number-is Table.Terms = refl
number-is Table.Expressions = refl
number-is Table.Facts = refl
number-is Table.Actions = refl
number-is Table.Functions = refl
number-is Table.Primitives = refl
number-is Table.Rows = refl
number-is Table.Normalisers = refl
number-is Table.Rules = refl
number-is Table.Proofs = refl

-- the sizes among the first twelve words
module _ (J : List ℕ) where
  pub size-globals : get_or J 4 0 ≡ (sizes_of J).globals
  unfolding sizes_of
  size-globals = refl

  pub size-pool : get_or J 11 0 ≡ (sizes_of J).pool
  unfolding sizes_of
  size-pool = refl

  pub size-before : (k : ℕ) → k < 4 → get_or J k 0 ≡ count_for J k
  unfolding sizes_of
  size-before zero h = refl
  size-before (suc zero) h = refl
  size-before (suc (suc zero)) h = refl
  size-before (suc (suc (suc zero))) h = refl
  size-before (suc (suc (suc (suc k)))) h = absurd (omega arith)

  pub size-after : (k : ℕ) → 4 ≤ k → k < 10 → get_or J (k + 1) 0 ≡ count_for J k
  unfolding sizes_of
  size-after zero l h = absurd (omega arith)
  size-after (suc zero) l h = absurd (omega arith)
  size-after (suc (suc zero)) l h = absurd (omega arith)
  size-after (suc (suc (suc zero))) l h = absurd (omega arith)
  size-after (suc (suc (suc (suc zero)))) l h = refl
  size-after (suc (suc (suc (suc (suc zero))))) l h = refl
  size-after (suc (suc (suc (suc (suc (suc zero)))))) l h = refl
  size-after (suc (suc (suc (suc (suc (suc (suc zero))))))) l h = refl
  size-after (suc (suc (suc (suc (suc (suc (suc (suc zero)))))))) l h = refl
  size-after (suc (suc (suc (suc (suc (suc (suc (suc (suc zero))))))))) l h = refl
  size-after (suc (suc (suc (suc (suc (suc (suc (suc (suc (suc k)))))))))) l h = absurd (omega arith)

-- how much the arrays hold
pub fill_is : {J : List ℕ} → Held J → {w : ℕ} → w ≡ (sizes_of J).pool → ◌≡◌ {A = Fill} (record { cells = (length J - 12 - w) / 2; words = w }) (fill_for J)
fill_is {J} H {w} e = let n : (length J - 12 - w) / 2 ≡ cell_count (sizes_of J) = omega (arith, H.long) in λ i. record { cells = n i; words = e i }

-- the cells, with the parts that the code has
module _ (J : List ℕ) {K E P : List ℕ} {f : Fill} (k : K ≡ kinds_of J) (e : E ≡ ends_of J) (p : P ≡ pool_of J) (g : f ≡ fill_for J) where
  pub formed-part : Held J → Formed K E P f
  formed-part H = subst (λ (x : (List ℕ × List ℕ × List ℕ) × Fill). Formed x.0.0 x.0.1 x.0.2 x.1) (λ i. ((sym k i, sym e i, sym p i), sym g i)) H.formed

  pub cell-part : (i : ℕ) → (get_or (cells_of K E P f.cells) i no_cell).words ≡ (cell_for J i).words
  cell-part i = λ j. (get_or (cells_of (k j) (e j) (p j) (g j).cells) i no_cell).words

  module _ {n : ℕ} (c : n ≡ count_for J 0) {S T U : List ℕ} where
    pub loadable_part : Loadable (kinds_of J) (ends_of J) (pool_of J) (fill_for J) (count_for J 0) S T U → Loadable K E P f n S T U
    loadable_part L = subst (λ (x : (List ℕ × List ℕ × List ℕ) × Fill × ℕ). Loadable x.0.0 x.0.1 x.0.2 x.1 x.2 S T U) (λ i. ((sym k i, sym e i, sym p i), sym g i, sym c i)) L

    pub loaded-part : {m : ℕ} {S' T' U' : List ℕ} {h : IndexedFill} → Loaded K E P n m S T U S' T' U' h → Loaded (kinds_of J) (ends_of J) (pool_of J) (count_for J 0) m S T U S' T' U' h
    loaded-part {m} {S'} {T'} {U'} {h} L = subst (λ (x : (List ℕ × List ℕ × List ℕ) × ℕ). Loaded x.0.0 x.0.1 x.0.2 x.1 m S T U S' T' U' h) (λ i. ((k i, e i, p i), c i)) L

-- where the words of the first of some cells start
pub span-first : (J : List ℕ) {E : List ℕ} → E ≡ ends_of J → (first : ℕ) {from : ℕ} → from ≡ start_of E first → from ≡ start_of (ends_of J) (first + 0)
span-first J e first s = let z : first ≡ first + 0 = omega arith in s ∙ (λ j. start_of (e j) (z j))

-- a cell by where its words start and where they end
module _ {J : List ℕ} (H : Held J) where
  pub first-end : {E : List ℕ} → E ≡ ends_of J → (k : ℕ) → k < 10 → {first : ℕ} → first ≡ cell_number (sizes_of J) k → first ≤ length E
  first-end e k h f = omega (arith, number-count (sizes_of J) k h, f, ap length e, H.formed.even, H.formed.kinds)

  module _ (i : ℕ) (h : i < cell_count (sizes_of J)) where
    pub has_end : {E : List ℕ} → E ≡ ends_of J → i < length E
    has_end e = omega (arith, ap length e, H.formed.even, H.formed.kinds)

    module _ {E : List ℕ} (e : E ≡ ends_of J) {from to : ℕ} (s : from ≡ start_of (ends_of J) i) (t : to ≡ get_or E i 0) where
      end_is : to ≡ get_or (ends_of J) i 0
      end_is = t ∙ ap (λ (xs : List ℕ). get_or xs i 0) e

      pub span-within : {P : List ℕ} → P ≡ pool_of J → (from ≤ to) × (to ≤ length P)
      span-within p = (omega (arith, s, end_is, rising H.formed i h), omega (arith, end_is, within H.formed i h, ap length p))

      pub span-words : {P : List ℕ} → P ≡ pool_of J → take (to - from) (drop from P) ≡ (cell_for J i).words
      unfolding words_at
      span-words p = rw (s, end_is, p) (sym (cell-words H.formed i h))

      -- the end of one cell is the start of the next
      pub span-next : {n : ℕ} → n ≡ suc i → to ≡ start_of (ends_of J) n
      unfolding start_of
      span-next n = rw n end_is

-- the kind of a cell
kind-read : (J : List ℕ) (i : ℕ) → i < cell_count (sizes_of J) → get_or J (12 + i) 0 ≡ (cell_for J i).kind
unfolding kinds_of
kind-read J i h = sym (get_or-take (cell_count (sizes_of J)) (drop 12 J) i 0 h ∙ get_or-drop 12 J i 0) ∙ ap (λ (c : Cell). c.kind) (sym (cell-at (kinds_of J) (ends_of J) (pool_of J) (cell_count (sizes_of J)) i h))

-- the cells of a table
module _ (J : List ℕ) (k : ℕ) (h : k < 10) (i : ℕ) (l : i < count_for J k) where
  -- cell i of table k lies among all cells
  pub inside : cell_number (sizes_of J) k + i < cell_count (sizes_of J)
  inside = place_inside (sizes_of J) k i h l

  pub inside-from : {first : ℕ} → first ≡ cell_number (sizes_of J) k → first + i < cell_count (sizes_of J)
  inside-from e = omega (arith, e, inside)

  pub cell_in : {first : ℕ} → first ≡ cell_number (sizes_of J) k → cell_for J (first + i) ≡ get_or (table_for J k) i no_cell
  cell_in e = ap (λ (n : ℕ). cell_for J (n + i)) e ∙ sym (table-cell (sizes_of J) (cells_for J) (cells-length (kinds_of J) (ends_of J) (pool_of J) (cell_count (sizes_of J))) k h i l)

  pub words-in : {first : ℕ} {us : List ℕ} → first ≡ cell_number (sizes_of J) k → us ≡ (cell_for J (first + i)).words → us ≡ (get_or (table_for J k) i no_cell).words
  words-in e w = w ∙ ap (λ (c : Cell). c.words) (cell_in e)

  -- the name of a cell, among the first of its table
  pub name_in : {first n x : ℕ} {us : List ℕ} → i < n → first ≡ cell_number (sizes_of J) k → us ≡ (cell_for J (first + i)).words → x ≡ get_or us 0 0 → x ≡ word (get_or (take n (table_for J k)) i no_cell) 0
  name_in {n = n} m e w x = x ∙ ap (λ (us : List ℕ). get_or us 0 0) (words-in e w) ∙ ap (λ (c : Cell). word c 0) (sym (get_or-take n (table_for J k) i no_cell m))

  pub kind-in : {first : ℕ} → first ≡ cell_number (sizes_of J) k → get_or J (12 + (first + i)) 0 ≡ (get_or (table_for J k) i no_cell).kind
  kind-in {first} e = kind-read J (first + i) (omega (arith, inside)) ∙ ap (λ (c : Cell). c.kind) (cell_in e)

-- a cell by its kind and its words
pub cell-read : {k : ℕ} {us : List ℕ} (c : Cell) → k ≡ c.kind → us ≡ c.words → cell k us ≡ c
cell-read c k w = λ i. record { kind = k i; words = w i }
