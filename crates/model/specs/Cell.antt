-- Cells: the unit of every table of a job and of the store, kept in two parallel arrays and a pool.
use Rattle.std.specs.Prelude.{List, [], ◌∷◌, ◌++◌, Bool, true, false, ◌&&◌, ℕ, zero, suc, ◌-◌, eqb, get_or, take, drop}

-- A cell: its kind and its words of the pool.
pub record Cell : Type 0 where
  pub kind : ℕ
  pub words : List ℕ

-- What a look-up past the end of a table gives; no admitted job leads there.
abbrev pub no_cell : Cell
no_cell = record { kind = 0; words = [] }

-- Equality of lists of words, as a test.
abbrev pub same_words : List ℕ → List ℕ → Bool
same_words [] [] = true
same_words [] (y ∷ ys) = false
same_words (x ∷ xs) [] = false
same_words (x ∷ xs) (y ∷ ys) = eqb x y && same_words xs ys

-- Cells are equal when their kinds and words are.
abbrev pub same_cell : Cell → Cell → Bool
same_cell a b = eqb a.kind b.kind && same_words a.words b.words

module _ {A : Type 0} where
  -- f 0, f 1, .., f (n - 1)
  unfoldable pub tabulate : ℕ → (ℕ → A) → List A
  tabulate zero f = []
  tabulate (suc n) f = tabulate n f ++ (f n ∷ [])

-- Where the words of cell i start in the pool: at the end of the cell before it.
unfoldable pub start_of : List ℕ → ℕ → ℕ
start_of ends zero = 0
start_of ends (suc i) = get_or ends i 0

-- The pool words that cell i owns.
unfoldable pub words_at : List ℕ → List ℕ → ℕ → List ℕ
words_at ends pool i = take (get_or ends i 0 - start_of ends i) (drop (start_of ends i) pool)

-- Cell i of three arrays.
abbrev pub cell_at : List ℕ → List ℕ → List ℕ → ℕ → Cell
cell_at kinds ends pool i = record { kind = get_or kinds i 0; words = words_at ends pool i }

-- The first n cells of three arrays.
unfoldable pub cells_of : List ℕ → List ℕ → List ℕ → ℕ → List Cell
cells_of kinds ends pool n = tabulate n (cell_at kinds ends pool)
