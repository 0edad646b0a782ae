-- A table of cells in three word arrays: when it is well formed, and what looking a cell up and adding one do to its list of cells.
use Rattle.std.specs.Prelude.{◌≡◌, Option, Some, None, Bool, true, false, ◌&&◌, List, [], ◌∷◌, ◌++◌, ℕ, ◌+◌, ◌≤◌, ◌<◌, ◌^◌, ltb, leb, length, get_or, take, drop}
use Rattle.model.specs.Cell.{Cell, no_cell, same_cell, start_of, cells_of}
use Rattle.cells.specs.declared.Fill.{Fill}
use Rattle.cells.specs.declared.Added.{Added}

-- The arrays hold as many cells, in as many pool words, as the fill says.
pub record Formed (K E P : List ℕ) (f : Fill) : Type 0 where
  pub kinds : f.cells ≤ length K
  pub even : length E ≡ length K
  pub pool : f.words ≤ length P
  pub small : length P < 2 ^ 32
  pub few : length K < 2 ^ 32
  pub top : start_of E f.cells ≡ f.words
  pub rises : (i : ℕ) → i < f.cells → start_of E i ≤ get_or E i 0
  pub below : (i : ℕ) → i < f.cells → get_or E i 0 ≤ f.words

-- The first cell that equals c, where the list's first has the number k.
unfoldable pub find_from : ℕ → List Cell → Cell → Option ℕ
find_from k [] c = None
find_from k (x ∷ cs) c = elim (same_cell x c) [ true ↦ Some k | false ↦ find_from (k + 1) cs c ]

abbrev pub find_cell : List Cell → Cell → Option ℕ
find_cell cs c = find_from 0 cs c

-- No two cells are equal.
pub record Once (cs : List Cell) : Type 0 where
  pub one : (i j : ℕ) → i < length cs → j < length cs → get_or cs i no_cell ≡ get_or cs j no_cell → i ≡ j

-- A list with s written over it from the index at.
unfoldable pub put : List ℕ → ℕ → List ℕ → List ℕ
put d at s = take at d ++ (s ++ drop (at + length s) d)

-- The words of all the cells.
unfoldable pub total : List Cell → ℕ
total [] = 0
total (c ∷ cs) = length c.words + total cs

-- A table: its cells, and how many cells and words its arrays have room for.
pub record Table : Type 0 where
  pub cells : List Cell
  pub cell_room : ℕ
  pub word_room : ℕ

abbrev pub table_of : List ℕ → List ℕ → List ℕ → Fill → Table
table_of kinds ends pool f = record { cells = cells_of kinds ends pool f.cells; cell_room = length kinds; word_room = length pool }

-- What adding a cell gives: its number, or none where there was no room; and the cells after.
pub record Result : Type 0 where
  pub number : Option ℕ
  pub cells : List Cell

abbrev pub has_room : Table → Cell → Bool
has_room t c = ltb (length t.cells) t.cell_room && leb (total t.cells + length c.words) t.word_room

abbrev pub append_if : Bool → Cell → Table → Result
append_if true c t = record { number = Some (length t.cells); cells = t.cells ++ (c ∷ []) }
append_if false c t = record { number = None; cells = t.cells }

-- The cell behind the others, if there is room.
unfoldable pub append_cell : Cell → Table → Result
append_cell c t = append_if (has_room t c) c t

abbrev pub add_found : Option ℕ → Cell → Table → Result
add_found (Some i) c t = record { number = Some i; cells = t.cells }
add_found None c t = append_cell c t

-- The number of an equal cell, else of the cell appended.
unfoldable pub add_cell : Cell → Table → Result
add_cell c t = add_found (find_cell t.cells c) c t

-- The contract of every function that adds cells: the answer a is what the definition says, and past the fill the arrays are as they were.
pub record Ran (K E P : List ℕ) (f : Fill) (K' E' P' : List ℕ) (a : Added) (x : Result) : Type 0 where
  pub number : a.number ≡ x.number
  pub formed : Formed K' E' P' a.fill
  pub cells : cells_of K' E' P' a.fill.cells ≡ x.cells
  pub len_k : length K' ≡ length K
  pub len_e : length E' ≡ length E
  pub len_p : length P' ≡ length P
  pub more_cells : f.cells ≤ a.fill.cells
  pub more_words : f.words ≤ a.fill.words
  pub kinds : drop a.fill.cells K' ≡ drop a.fill.cells K
  pub ends : drop a.fill.cells E' ≡ drop a.fill.cells E
  pub pool : drop a.fill.words P' ≡ drop a.fill.words P
