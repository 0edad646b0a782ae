-- An index of cells: slots that list the cells of a table by their numbers, each met from the slot that its mix gives.
use Rattle.std.specs.Prelude.{◌≡◌, Some, None, ℕ, ◌+◌, ◌<◌, ◌≤◌, Bool, List, [], ◌∷◌, ◌++◌, length, replicate, ◌≢◌, slice_index_or, slice_set}
use Rattle.index.specs.declared.Store.{Store}
use Rattle.model.specs.Cell.{Cell, no_cell, same_cell, tabulate, cells_of}
use Rattle.cells.specs.Table.{Formed, find_cell, Once, Ran, Result}
use Rattle.cells.specs.declared.Fill.{Fill as TableFill}
use Rattle.cells.specs.declared.Added.{Added as TableAdded}
use Rattle.index.specs.Mixing.{slot_of}
use Rattle.index.specs.Slots.{Free, Listed, round_from, comparisons}
use Rattle.index.specs.declared.Fill.{Fill}
use Rattle.index.specs.declared.Added.{Added}
use Rattle.index.specs.declared.Probe.{Probe}
use Rattle.index.specs.declared.Tally.{Tally}

-- The own slot of cell i among n, by the multiplier x.
abbrev pub home_of : ℕ → ℕ → List Cell → ℕ → ℕ
home_of x n cs i = slot_of x n (slice_index_or cs i no_cell)

-- The index lists each of the cells once and nothing else, where a look-up meets it.
abbrev pub Lists : ℕ → List ℕ → List Cell → Type 0
Lists x I cs = Listed I (home_of x (length I) cs) (length cs)

-- Cell i equals c.
abbrev pub hits : List Cell → Cell → ℕ → Bool
hits cs c i = same_cell (slice_index_or cs i no_cell) c

-- How many cells a look-up of c compares.
abbrev pub look_count : ℕ → List ℕ → List Cell → Cell → ℕ
look_count x I cs c = comparisons (hits cs c) (round_from I (slot_of x (length I) c))

-- The contract of a look-up: it finds what comparing with every cell would, else the slot at which the cell is to be listed.
pub record Looked (x : ℕ) (I : List ℕ) (cs : List Cell) (c : Cell) (p : Probe) : Type 0 where
  pub found : p.found ≡ find_cell cs c
  pub compared : p.compared ≡ look_count x I cs c
  pub free : p.found ≡ None → Free I (slot_of x (length I) c) p.slot

-- How much of the table is in use.
abbrev pub table_fill : Fill → TableFill
table_fill f = record { cells = f.cells; words = f.words }

abbrev pub table_added : Added → TableAdded
table_added a = record { number = a.number; fill = table_fill a.fill }

-- A table with its index, which has more slots than there can be cells.
pub record Ready (K E P I : List ℕ) (f : Fill) : Type 0 where
  pub formed : Formed K E P (table_fill f)
  pub once : Once (cells_of K E P f.cells)
  pub lists : Lists f.multiplier I (cells_of K E P f.cells)
  pub room : length K < length I

-- The same, of a store.
abbrev pub ReadyIn : Store → Fill → Type 0
ReadyIn s f = Ready s.kinds.now s.ends.now s.pool.now s.index.now f

-- The contract of adding a cell by the index: what adding by comparing with every cell gives, and the index lists the cells after.
pub record Kept (K E P I : List ℕ) (f : Fill) (K' E' P' I' : List ℕ) (a : Added) (r : Result) : Type 0 where
  pub ran : Ran K E P (table_fill f) K' E' P' (table_added a) r
  pub lists : Lists a.fill.multiplier I' (cells_of K' E' P' a.fill.cells)
  pub len_i : length I' ≡ length I

-- The same, of a store.
abbrev pub KeptIn : Store → Fill → Store → Added → Result → Type 0
KeptIn s f s' a r = Kept s.kinds.now s.ends.now s.pool.now s.index.now f s'.kinds.now s'.ends.now s'.pool.now s'.index.now a r

-- The index after the cells have been listed one by one, and how many comparisons that took.
pub data Built : ℕ → List Cell → List ℕ → ℕ → Type 0 where
  no_cells : {x : ℕ} (n : ℕ) → Built x [] (replicate n 0) 0
  one_more : {x : ℕ} {cs : List Cell} {I : List ℕ} {t a : ℕ} (c : Cell) → Built x cs I t → Free I (slot_of x (length I) c) a → Built x (cs ++ (c ∷ [])) (slice_set I a (length cs + 1)) (t + look_count x I cs c)

-- The contract of listing cell i behind those before it, unless one of them is equal: the look-up, and the index after. The cells are f 0, f 1, ..
pub record Enlisted (x : ℕ) (f : ℕ → Cell) (i : ℕ) (I I' : List ℕ) (p : Probe) : Type 0 where
  pub looked : Looked x I (tabulate i f) (f i) p
  pub same : (p.found ≢ None) → I' ≡ I
  pub more : p.found ≡ None → I' ≡ slice_set I p.slot (i + 1)

-- The contract of listing the first m cells up to one that equals an earlier one.
pub record Filled (x : ℕ) (f : ℕ → Cell) (m : ℕ) (I' : List ℕ) (r : Tally) : Type 0 where
  pub low : r.listed ≤ m
  pub once : Once (tabulate r.listed f)
  pub lists : Lists x I' (tabulate r.listed f)
  -- the comparisons before the last look-up, if that found one
  pub before : ℕ
  pub built : Built x (tabulate r.listed f) I' before
  pub whole : r.listed ≡ m → r.compared ≡ before
  pub again : r.listed < m → (j : ℕ) × (find_cell (tabulate r.listed f) (f r.listed) ≡ Some j)
  pub cost : r.listed < m → r.compared ≡ before + look_count x I' (tabulate r.listed f) (f r.listed)
