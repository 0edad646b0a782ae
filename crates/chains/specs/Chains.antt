-- Chains of a table's cells by their keys: of each slot the first cell, of each cell the next one of its slot.
use Rattle.std.specs.Prelude as prelude
use Rattle.std.specs.Prelude.{Some, None}
use Rattle.std.specs.Prelude.{◌≡◌, ◌⊎◌, Bool, true, false, cond, ◌&&◌, List, [], ℕ, suc, ◌+◌, ◌≤◌, ◌<◌, eqb, ltb, length, get_or, set, drop}
use Rattle.model.specs.Cell.{no_cell, same_words, cells_of}
use Rattle.cells.specs.Table.{Formed}
use Rattle.cells.specs.declared.Fill.{Fill}
use Rattle.chains.specs.declared.Keys.{Keys}
use Rattle.index.specs.Mixing.{golden, stirred, slot_of}

-- A key is a cell's first word and, of a row, its arguments.
abbrev pub key_arguments : Bool → List ℕ → List ℕ
key_arguments rows ws = cond rows (drop 2 ws) []

-- Words have the key of the head h and the arguments us.
abbrev pub has_key : Bool → List ℕ → ℕ → List ℕ → Bool
has_key rows ws h us = eqb (get_or ws 0 0) h && same_words (key_arguments rows ws) us

-- The slot of a key among n, by the multiplier x.
abbrev pub key_slot : ℕ → ℕ → ℕ → List ℕ → ℕ
key_slot x n h us = slot_of x n (record { kind = stirred x 0 h golden; words = us })

-- The words of cell i of a table whose first cell has that number.
abbrev pub words_from : List ℕ → List ℕ → List ℕ → Fill → ℕ → ℕ → List ℕ
words_from K E P f first i = (get_or (cells_of K E P f.cells) (first + i) no_cell).words

-- The slot of cell i, by the cells' words.
abbrev pub slot_at : ℕ → ℕ → Bool → (ℕ → List ℕ) → ℕ → ℕ
slot_at x n rows ws i = key_slot x n (get_or (ws i) 0 0) (key_arguments rows (ws i))

-- Cell i has the key of cell j.
abbrev pub same_key : Bool → (ℕ → List ℕ) → ℕ → ℕ → Bool
same_key rows ws i j = has_key rows (ws i) (get_or (ws j) 0 0) (key_arguments rows (ws j))

-- e is the first number from i on whose slot is s; n where none below n has it.
pub record Next (slot : ℕ → ℕ) (n s i e : ℕ) : Type 0 where
  pub least : i ≤ e
  pub most : e ≤ n
  pub is : e < n → slot e ≡ s
  pub before : (j : ℕ) → i ≤ j → j < e → slot j ≡ s → ⊥

-- The words of T from b on chain the numbers from m on, below n: a word for each of n slots, then one for each number.
pub record Chained (slot : ℕ → ℕ) (n b m : ℕ) (T : List ℕ) : Type 0 where
  pub long : b + (n + n) ≤ length T
  pub slots : (s : ℕ) → s < n → Next slot n s m (get_or T (b + s) 0)
  pub numbers : (i : ℕ) → m ≤ i → i < n → Next slot n (slot i) (suc i) (get_or T (b + n + i) 0)

-- The words of cell i of those to be chained.
abbrev pub words_of : Keys → ℕ → List ℕ
words_of k = words_from k.cells.kinds.now k.cells.ends.now k.cells.pool.now k.cells.fill k.first

-- The table that has them is well formed.
abbrev pub FormedCells : Keys → Type 0
FormedCells k = Formed k.cells.kinds.now k.cells.ends.now k.cells.pool.now k.cells.fill

-- They are chained in the words of T from b on.
abbrev pub ChainedBy : Keys → ℕ → List ℕ → Type 0
ChainedBy k b T = Chained (slot_at k.multiplier k.count k.rows (words_of k)) k.count b 0 T

-- T' differs from T in the k words from b on, if at all.
pub record Within (b k : ℕ) (T T' : List ℕ) : Type 0 where
  pub even : length T' ≡ length T
  pub same : (i : ℕ) → (i < b) ⊎ (b + k ≤ i) → get_or T' i 0 ≡ get_or T i 0

-- n slots from b on are empty, and hold n, the number past the last.
pub record Emptied (b n : ℕ) (T T' : List ℕ) : Type 0 where
  pub within : Within b n T T'
  pub each : (s : ℕ) → s < n → get_or T' (b + s) 0 ≡ n

-- T' is T with number i before those of the slot s.
pub record Linked (b n s i : ℕ) (T T' : List ℕ) : Type 0 where
  pub is : T' ≡ set (set T (b + n + i) (get_or T (b + s) 0)) (b + s) i

-- r is the first number below n that hits.
pub record FirstHit (hit : ℕ → Bool) (n : ℕ) (r : prelude.Option ℕ) : Type 0 where
  pub there : (i : ℕ) → r ≡ Some i → (i < n) × (hit i ≡ true)
  pub before : (i j : ℕ) → r ≡ Some i → j < i → hit j ≡ false
  pub none : r ≡ None → (j : ℕ) → j < n → hit j ≡ false

-- What was found stands before place i.
abbrev pub found_before : prelude.Option ℕ → ℕ → Bool
found_before (Some j) i = ltb j i
found_before None i = false

-- The first r of n numbers differ, by a test of two, from those before them; the next one, if there is one, does not.
pub record Differ (same : ℕ → ℕ → Bool) (n r : ℕ) : Type 0 where
  pub low : r ≤ n
  pub differ : (i j : ℕ) → i < r → j < i → same j i ≡ false
  pub again : r < n → (j : ℕ) × (j < r) × FirstHit (λ i. same i r) n (Some j)
