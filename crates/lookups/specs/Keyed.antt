-- The chains of an admitted job's rows, normalisers, rules and functions, in the words of one table. It has the words on expressions first, then the multiplier of the chains.
use Rattle.std.specs.Prelude.{◌≡◌, ℕ, ◌≤◌, Bool, true, false, List, get_or}
use Rattle.model.specs.Layout.{sizes_of, kinds_of, ends_of, pool_of}
use Rattle.chains.specs.Chains.{words_from, slot_at, Chained}
use Rattle.chains.specs.declared.Keys.{Keys}
use Rattle.load.specs.Held.{cell_number}
use Rattle.program.specs.declared.job.Table.{Table}
use Rattle.program.specs.Ready.{number_of, count_for, fill_for}

-- The words of cell i of table k.
abbrev pub words_in : List ℕ → ℕ → ℕ → List ℕ
words_in J k i = words_from (kinds_of J) (ends_of J) (pool_of J) (fill_for J) (cell_number (sizes_of J) k) i

-- The cells of table k to be chained, as rows or not by r, with the multiplier x.
pub record KeysOf (J : List ℕ) (k : ℕ) (r : Bool) (x : ℕ) (keys : Keys) : Type 0 where
  pub kinds : keys.cells.kinds.now ≡ kinds_of J
  pub ends : keys.cells.ends.now ≡ ends_of J
  pub pool : keys.cells.pool.now ≡ pool_of J
  pub fill : keys.cells.fill ≡ fill_for J
  pub first : keys.first ≡ cell_number (sizes_of J) k
  pub count : keys.count ≡ count_for J k
  pub rows : keys.rows ≡ r
  pub multiplier : keys.multiplier ≡ x

-- Table k is chained from word b of N on, unless its cells are few.
pub record ChainedTable (J N : List ℕ) (k : ℕ) (rows : Bool) (b : ℕ) : Type 0 where
  pub chained : 64 ≤ count_for J k → Chained (slot_at (get_or N 4096 0) (count_for J k) rows (words_in J k)) (count_for J k) b 0 N

-- The four tables are.
pub record Keyed (J N : List ℕ) : Type 0 where
  pub rows : ChainedTable J N (number_of Table.Rows) true 4097
  pub normalisers : ChainedTable J N (number_of Table.Normalisers) false 12289
  pub rules : ChainedTable J N (number_of Table.Rules) false 20481
  pub functions : ChainedTable J N (number_of Table.Functions) false 28673
