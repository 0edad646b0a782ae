-- A job's sizes and arrays as the code holds them.
use Rattle.std.specs.Prelude.{Result, Ok, Err, ⊤}
use Rattle.std.specs.Prelude as prelude
use Rattle.std.specs.Prelude.{Some, None}
use Rattle.std.specs.Prelude.{◌≡◌, Bool, true, false, not, ◌||◌, List, [], ◌∷◌, map, ℕ, zero, suc, ◌+◌, ◌*◌, ◌≤◌, ◌<◌, ◌^◌, eqb, ltb, length, get_or, take, drop}
use Rattle.std.proofs.Math.Option.{Option, none, some}
use Rattle.model.specs.Cell.{Cell, no_cell, same_cell, cell_at, cells_of}
use Rattle.model.specs.Term.{read_term}
use Rattle.model.specs.Check.{Refusal}
use Rattle.model.specs.Layout.{Sizes, cell_count, Tables, tables_in}
use Rattle.model.specs.Load.{Lent, any, ends_rise, no_room, wrong_slots, refused_if, first_refusal, first_failing, same_row, same_head, passed, fit_tests, refer_tests, valid_tests, once_tests}
use Rattle.load.specs.declared.sizes.Sizes.{Sizes as SizesHeld}
use Rattle.load.specs.declared.tables.Cells.{Cells}
use Rattle.load.specs.declared.tables.Test.{Test}
use Rattle.load.specs.declared.Rejection.{Rejection}
use Rattle.cells.specs.declared.Table.{Table}
use Rattle.cells.specs.Table.{Formed, Once}
use Rattle.cells.specs.declared.Fill.{Fill}
use Rattle.index.specs.Listing.{Filled}

-- The definitions' sizes.
abbrev pub sizes_in : SizesHeld → Sizes
sizes_in z = record {
  terms = z.terms;
  expressions = z.expressions;
  facts = z.facts;
  actions = z.actions;
  globals = z.globals;
  functions = z.functions;
  primitives = z.primitives;
  rows = z.rows;
  normalisers = z.normalisers;
  rules = z.rules;
  proofs = z.proofs;
  pool = z.pool;
}

-- Each size is a word.
pub record Words (z : SizesHeld) : Type 0 where
  pub terms : z.terms < 2 ^ 32
  pub expressions : z.expressions < 2 ^ 32
  pub facts : z.facts < 2 ^ 32
  pub actions : z.actions < 2 ^ 32
  pub functions : z.functions < 2 ^ 32
  pub primitives : z.primitives < 2 ^ 32
  pub rows : z.rows < 2 ^ 32
  pub normalisers : z.normalisers < 2 ^ 32
  pub rules : z.rules < 2 ^ 32
  pub proofs : z.proofs < 2 ^ 32
  pub pool : z.pool < 2 ^ 32

-- The number of cells of each table.
abbrev pub counts_of : Sizes → List ℕ
counts_of z =
    z.terms ∷ z.expressions ∷ z.facts ∷ z.actions ∷ z.functions ∷ z.primitives ∷ z.rows ∷ z.normalisers ∷ z.rules ∷ z.proofs ∷ []

-- The limits of the sizes.
pub record Limits (z : Sizes) : Type 0 where
  pub terms : z.terms ≤ 16384
  pub expressions : z.expressions ≤ 4096
  pub facts : z.facts ≤ 4096
  pub actions : z.actions ≤ 4096
  pub globals : z.globals ≤ 256
  pub first : z.globals ≤ z.actions
  pub functions : z.functions ≤ 4096
  pub primitives : z.primitives ≤ 4096
  pub rows : z.rows ≤ 4096
  pub normalisers : z.normalisers ≤ 4096
  pub rules : z.rules ≤ 4096
  pub proofs : z.proofs ≤ 4096
  pub pool : z.pool ≤ 131072

-- How much the arrays of a job with these sizes hold.
abbrev pub fill_of : SizesHeld → Fill
fill_of z = record { cells = cell_count (sizes_in z); words = z.pool }

-- Three arrays that hold the cells of a job with these sizes.
pub record Held (K E P : List ℕ) (z : SizesHeld) : Type 0 where
  pub formed : Formed K E P (fill_of z)
  pub limits : Limits (sizes_in z)

-- The tables that they hold.
abbrev pub tables_for : List ℕ → List ℕ → List ℕ → SizesHeld → Tables
tables_for K E P z = tables_in (sizes_in z) (cells_of K E P (cell_count (sizes_in z)))

-- The first n cells are terms, no two equal.
pub record Distinct (K E P : List ℕ) (z : SizesHeld) (n : ℕ) : Type 0 where
  pub few : n ≤ z.terms
  pub once : Once (cells_of K E P n)

-- The index was filled with the terms, up to one that equals an earlier one: it lists n of them.
pub record Fills (x : ℕ) (K E P : List ℕ) (z : SizesHeld) (I : List ℕ) (n : ℕ) : Type 0 where
  pub compared : ℕ
  pub filled : Filled x (cell_at K E P) z.terms I (record { listed = n; compared = compared })

-- The sum of the first n numbers.
abbrev pub sum_of : ℕ → List ℕ → ℕ
sum_of zero xs = 0
sum_of (suc n) [] = 0
sum_of (suc n) (x ∷ xs) = x + sum_of n xs

-- The number, over all tables, of the first cell of a table.
abbrev pub cell_number : Sizes → ℕ → ℕ
cell_number z table = sum_of table (counts_of z)

-- The operand count of each kind: of facts (2), functions (4), primitives (5) and normalisers.
abbrev pub fixed_counts : ℕ → List ℕ
fixed_counts table = get_or ((2 ∷ []) ∷ (2 ∷ []) ∷ (2 ∷ 1 ∷ []) ∷ (2 ∷ []) ∷ (1 ∷ 2 ∷ []) ∷ (1 ∷ 1 ∷ 1 ∷ 1 ∷ 1 ∷ 1 ∷ 1 ∷ 1 ∷ 1 ∷ []) ∷ []) table (2 ∷ [])

-- When two cells of a table are the same: terms, rows (6), and normalisers.
abbrev pub alike_by : ℕ → Cell → Cell → Bool
alike_by table = get_or (same_cell ∷ same_head ∷ same_head ∷ same_head ∷ same_head ∷ same_head ∷ same_row ∷ []) table same_head

-- Of the cells from `first` on, none before place i is the same as that at place i.
abbrev pub first_among : (Cell → Cell → Bool) → List Cell → ℕ → ℕ → Bool
first_among same cells first i = not (any (λ e. same e (get_or cells (first + i) no_cell)) (take i (drop first cells)))

-- The number of the first mark that is set, where the list's first has the number i.
unfoldable pub first_found : ℕ → List Bool → prelude.Option ℕ
first_found i [] = None
first_found i (true ∷ ms) = Some i
first_found i (false ∷ ms) = first_found (suc i) ms

-- The tests of the tables for 6, 7, 8 and 9.
abbrev pub tests_for : ℕ → Sizes → Tables → List (ℕ → Cell → Bool)
tests_for round z t = get_or (fit_tests t ∷ refer_tests z ∷ valid_tests t ∷ []) round (once_tests t)

-- Cell number i of the job.
abbrev pub cell_held : List ℕ → List ℕ → List ℕ → SizesHeld → ℕ → Cell
cell_held K E P z i = get_or (cells_of K E P (cell_count (sizes_in z))) i no_cell

-- Place i of table k, whose first cell has the number n.
pub record Place (z : SizesHeld) (k n i : ℕ) : Type 0 where
  pub table : k < 10
  pub first : n ≡ cell_number (sizes_in z) k
  pub inside : i < get_or (counts_of (sizes_in z)) k 0

-- The first n cells of table k pass their test.
pub record Passing (K E P : List ℕ) (z : SizesHeld) (round k n : ℕ) : Type 0 where
  pub few : n ≤ get_or (counts_of (sizes_in z)) k 0
  pub pass : (i : ℕ) → i < n → true ≡ get_or (tests_for round (sizes_in z) (tables_for K E P z)) k passed i (cell_held K E P z (cell_number (sizes_in z) k + i))

-- The first n terms pass 6 and 7.
pub record Sound (K E P : List ℕ) (z : SizesHeld) (n : ℕ) : Type 0 where
  pub fit : Passing K E P z 0 0 n
  pub refer : Passing K E P z 1 0 n

-- The refusal that an answer stands for.
abbrev pub rejection_of : Rejection → Refusal
rejection_of (Rejection.Host n) = record { number = n; fields = [] }
rejection_of (Rejection.Writer n cell) = record { number = n; fields = cell ∷ [] }

abbrev pub refusal_of : Result ⊤ Rejection → Option Refusal
refusal_of (Ok u) = none
refusal_of (Err e) = some (rejection_of e)

-- The tests for 6 to 9, in their order.
abbrev pub writer_tests : Sizes → Tables → List (Unit {0} → Option Refusal)
writer_tests z t =
    (λ _. first_failing 6 (tests_for 0 z t) t) ∷
    (λ _. first_failing 7 (tests_for 1 z t) t) ∷
    (λ _. first_failing 8 (tests_for 2 z t) t) ∷
    (λ _. first_failing 9 (tests_for 3 z t) t) ∷ []

-- 10, where the terms take so many words.
abbrev pub room_lacks : Sizes → ℕ → Lent → Bool
room_lacks z words l =
    ltb l.kinds z.terms || ltb l.pool words || ltb 65536 l.kinds || ltb 1048576 l.pool ||
    not (eqb l.kinds l.ends) || ltb l.scratch (2 * (l.kinds + z.proofs))

-- Three arrays as long as the sizes say.
pub record Cut (K E P : List ℕ) (z : SizesHeld) : Type 0 where
  pub kinds : length K ≡ cell_count (sizes_in z)
  pub ends : length E ≡ cell_count (sizes_in z)
  pub pool : length P ≡ z.pool
  pub limits : Limits (sizes_in z)

-- The tests for 5 to 10 and 12, in their order.
abbrev pub cell_tests : List ℕ → Sizes → Tables → Lent → List (Unit {0} → Option Refusal)
cell_tests E z t lent =
    (λ _. refused_if (not (ends_rise 0 E z.pool)) 5) ∷
    (λ _. first_failing 6 (tests_for 0 z t) t) ∷
    (λ _. first_failing 7 (tests_for 1 z t) t) ∷
    (λ _. first_failing 8 (tests_for 2 z t) t) ∷
    (λ _. first_failing 9 (tests_for 3 z t) t) ∷
    (λ _. refused_if (no_room z (map read_term t.terms) lent) 10) ∷
    (λ _. refused_if (wrong_slots lent) 12) ∷ []

-- The first refusal of these.
unfoldable pub cell_refusal : List ℕ → Sizes → Tables → Lent → Option Refusal
cell_refusal E z t lent = first_refusal (cell_tests E z t lent)

-- The same of the cells that are lent as one value.
abbrev pub HeldCells : Cells → Type 0
HeldCells c = Held c.kinds.now c.ends.now c.pool.now c.sizes

abbrev pub table_held : Cells → Table
table_held c = record { kinds = c.kinds; ends = c.ends; pool = c.pool; fill = fill_of c.sizes }

abbrev pub tables_of : Cells → Tables
tables_of c = tables_for c.kinds.now c.ends.now c.pool.now c.sizes

abbrev pub cell_of : Cells → ℕ → Cell
cell_of c i = cell_held c.kinds.now c.ends.now c.pool.now c.sizes i

abbrev pub DistinctCells : Cells → ℕ → Type 0
DistinctCells c n = Distinct c.kinds.now c.ends.now c.pool.now c.sizes n

abbrev pub PassingCells : Cells → ℕ → ℕ → ℕ → Type 0
PassingCells c round k n = Passing c.kinds.now c.ends.now c.pool.now c.sizes round k n

abbrev pub SoundCells : Cells → ℕ → Type 0
SoundCells c n = Sound c.kinds.now c.ends.now c.pool.now c.sizes n

-- The place of a test among those for 6, 7, 8 and 9.
abbrev pub round_of : Test → ℕ
round_of Test.Shape = 0
round_of Test.References = 1
round_of Test.Validators = 2
round_of Test.Once = 3
