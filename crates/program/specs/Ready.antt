-- An admitted job, the program that it says, and the answers of look-ups. A job is given by its words.
use Rattle.std.specs.Prelude as prelude
use Rattle.std.specs.Prelude.{Some, None}
use Rattle.std.specs.Prelude.{◌≡◌, List, [], map, ℕ, ◌+◌, ◌<◌, eqb, length, get_or}
use Rattle.std.proofs.Math.Option.{Option, none, some}
use Rattle.model.specs.Cell.{Cell, no_cell, cells_of}
use Rattle.model.specs.Layout.{sizes_of, kinds_of, ends_of, pool_of, cell_count, Tables, table_list, tables_in}
use Rattle.model.specs.Program.{Expr, Rule, Program}
use Rattle.model.specs.Decode.{word, read_program}
use Rattle.model.specs.Walk.{rule_of}
use Rattle.model.specs.Load.{Admitted}
use Rattle.decode.specs.View as view
use Rattle.cells.specs.Table.{Formed}
use Rattle.cells.specs.declared.Fill.{Fill}
use Rattle.load.specs.Held.{Limits, counts_of, first_found}
use Rattle.program.specs.declared.job.Table.{Table}

-- The cells of a job, cell i, and the tables.
abbrev pub cells_for : List ℕ → List Cell
cells_for J = cells_of (kinds_of J) (ends_of J) (pool_of J) (cell_count (sizes_of J))

abbrev pub cell_for : List ℕ → ℕ → Cell
cell_for J i = get_or (cells_for J) i no_cell

abbrev pub tables_for : List ℕ → Tables
tables_for J = tables_in (sizes_of J) (cells_for J)

-- The number of a table, in the order of the tables.
abbrev pub number_of : Table → ℕ
number_of Table.Terms = 0
number_of Table.Expressions = 1
number_of Table.Facts = 2
number_of Table.Actions = 3
number_of Table.Functions = 4
number_of Table.Primitives = 5
number_of Table.Rows = 6
number_of Table.Normalisers = 7
number_of Table.Rules = 8
number_of Table.Proofs = 9

-- The cells of table k, in the order of the tables, and how many they are.
abbrev pub table_for : List ℕ → ℕ → List Cell
table_for J k = get_or (table_list (tables_for J)) k []

abbrev pub count_for : List ℕ → ℕ → ℕ
count_for J k = get_or (counts_of (sizes_of J)) k 0

-- How much the job's arrays hold.
abbrev pub fill_for : List ℕ → Fill
fill_for J = record { cells = cell_count (sizes_of J); words = (sizes_of J).pool }

-- A job as long as its sizes say, whose cells lie in its pool.
pub record Held (J : List ℕ) : Type 0 where
  pub long : length J ≡ 12 + cell_count (sizes_of J) + cell_count (sizes_of J) + (sizes_of J).pool
  pub formed : Formed (kinds_of J) (ends_of J) (pool_of J) (fill_for J)
  pub limits : Limits (sizes_of J)

-- A job that is admitted.
pub record Ready (J : List ℕ) : Type 0 where
  pub held : Held J
  pub admitted : Admitted (sizes_of J) (tables_for J)

-- The program of the job.
abbrev pub program_for : List ℕ → Program
program_for J = read_program (sizes_of J).globals (tables_for J)

-- What a look-up past the last rule gives, where no place found leads.
abbrev pub no_rule : Rule
no_rule = record { name = 0; facts = []; actions = [] }

-- Rule r of the job.
abbrev pub rule_for : List ℕ → ℕ → Rule
rule_for J r = get_or (program_for J).rules r no_rule

-- What a look-up gives.
abbrev pub option_of : prelude.Option ℕ → Option ℕ
option_of (Some x) = some x
option_of None = none

-- The place of the first cell whose name, its first word, is x.
abbrev pub first_named : List Cell → ℕ → prelude.Option ℕ
first_named cs x = first_found 0 (map (λ c. eqb (word c 0) x) cs)

-- r is the place, below n, of the first cell of that name.
pub record FindsCell (cs : List Cell) (n x : ℕ) (r : prelude.Option ℕ) : Type 0 where
  pub is : r ≡ first_named cs x
  pub within : (i : ℕ) → r ≡ Some i → i < n

-- The rule at a place.
abbrev pub rule_at : List Rule → prelude.Option ℕ → Option Rule
rule_at rs (Some i) = some (get_or rs i no_rule)
rule_at rs None = none

-- r is the place, below n, of the first rule of that name.
pub record FindsRule (rs : List Rule) (n x : ℕ) (r : prelude.Option ℕ) : Type 0 where
  pub is : rule_at rs r ≡ rule_of rs x
  pub within : (i : ℕ) → r ≡ Some i → i < n

-- r is the merge o, by the number of its expression, below n.
pub record Merges (expr : ℕ → Expr) (n : ℕ) (r : prelude.Option ℕ) (o : Option Expr) : Type 0 where
  pub is : view.merge_of expr r ≡ o
  pub within : (e : ℕ) → r ≡ Some e → e < n
