-- A job's words, by document 01: twelve sizes, the cells' kinds, their ends, and the pool. Each table is a run of cells.
use Rattle.std.specs.Prelude.{ℕ, ◌+◌, List, [], ◌∷◌, get_or, take, drop}
use Rattle.model.specs.Cell.{Cell, cells_of}

-- The number of sizes.
abbrev pub size_words : ℕ
size_words = 12

-- The twelve sizes, in their order.
pub record Sizes : Type 0 where
  pub terms : ℕ
  pub expressions : ℕ
  pub facts : ℕ
  pub actions : ℕ
  pub globals : ℕ
  pub functions : ℕ
  pub primitives : ℕ
  pub rows : ℕ
  pub normalisers : ℕ
  pub rules : ℕ
  pub proofs : ℕ
  pub pool : ℕ

unfoldable pub sizes_of : List ℕ → Sizes
sizes_of ws = record {
  terms = get_or ws 0 0;
  expressions = get_or ws 1 0;
  facts = get_or ws 2 0;
  actions = get_or ws 3 0;
  globals = get_or ws 4 0;
  functions = get_or ws 5 0;
  primitives = get_or ws 6 0;
  rows = get_or ws 7 0;
  normalisers = get_or ws 8 0;
  rules = get_or ws 9 0;
  proofs = get_or ws 10 0;
  pool = get_or ws 11 0;
}

-- The number of the first cell of each table, over all tables.
abbrev pub first_expression : Sizes → ℕ
first_expression z = z.terms

abbrev pub first_fact : Sizes → ℕ
first_fact z = first_expression z + z.expressions

abbrev pub first_action : Sizes → ℕ
first_action z = first_fact z + z.facts

abbrev pub first_function : Sizes → ℕ
first_function z = first_action z + z.actions

abbrev pub first_primitive : Sizes → ℕ
first_primitive z = first_function z + z.functions

abbrev pub first_row : Sizes → ℕ
first_row z = first_primitive z + z.primitives

abbrev pub first_normaliser : Sizes → ℕ
first_normaliser z = first_row z + z.rows

abbrev pub first_rule : Sizes → ℕ
first_rule z = first_normaliser z + z.normalisers

abbrev pub first_proof : Sizes → ℕ
first_proof z = first_rule z + z.rules

-- The number of cells: the global actions have none of their own.
abbrev pub cell_count : Sizes → ℕ
cell_count z = first_proof z + z.proofs

-- The kinds of all cells, their ends, and the pool.
unfoldable pub kinds_of : List ℕ → List ℕ
kinds_of ws = take (cell_count (sizes_of ws)) (drop size_words ws)

unfoldable pub ends_of : List ℕ → List ℕ
ends_of ws = take (cell_count (sizes_of ws)) (drop (size_words + cell_count (sizes_of ws)) ws)

unfoldable pub pool_of : List ℕ → List ℕ
pool_of ws = drop (size_words + cell_count (sizes_of ws) + cell_count (sizes_of ws)) ws

-- The ten tables of cells.
pub record Tables : Type 0 where
  pub terms : List Cell
  pub expressions : List Cell
  pub facts : List Cell
  pub actions : List Cell
  pub functions : List Cell
  pub primitives : List Cell
  pub rows : List Cell
  pub normalisers : List Cell
  pub rules : List Cell
  pub proofs : List Cell

-- The ten tables, in their order.
abbrev pub table_list : Tables → List (List Cell)
table_list t =
    t.terms ∷ t.expressions ∷ t.facts ∷ t.actions ∷ t.functions ∷ t.primitives ∷ t.rows ∷ t.normalisers ∷ t.rules ∷ t.proofs ∷ []

-- So many cells from a number on.
abbrev pub part : List Cell → ℕ → ℕ → List Cell
part cells from count = take count (drop from cells)

abbrev pub tables_in : Sizes → List Cell → Tables
tables_in z cells = record {
  terms = part cells 0 z.terms;
  expressions = part cells (first_expression z) z.expressions;
  facts = part cells (first_fact z) z.facts;
  actions = part cells (first_action z) z.actions;
  functions = part cells (first_function z) z.functions;
  primitives = part cells (first_primitive z) z.primitives;
  rows = part cells (first_row z) z.rows;
  normalisers = part cells (first_normaliser z) z.normalisers;
  rules = part cells (first_rule z) z.rules;
  proofs = part cells (first_proof z) z.proofs;
}

-- The tables of a job's words.
unfoldable pub tables_of : List ℕ → Tables
tables_of ws = tables_in (sizes_of ws) (cells_of (kinds_of ws) (ends_of ws) (pool_of ws) (cell_count (sizes_of ws)))
