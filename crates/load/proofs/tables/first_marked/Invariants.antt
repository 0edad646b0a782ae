use mathlib.Core.Path.{◌≡◌}
use Rattle.load.specs.Held.{round_of, sizes_in, tables_for, tests_for, first_found, cell_number}
use Rattle.model.specs.Layout.{table_list}
use lib.ListN.{drop}
use Rattle.model.specs.Load.{marks}
use Rattle.load.proofs.tables.first_marked.Given as goal

abbrev pub invariant-loop-table : goal.invariant-loop-table
invariant-loop-table l = (l.first ≡ cell_number (sizes_in l.cells.sizes) l.table) × (first_found 0 (marks (tests_for (round_of l.test) (sizes_in l.cells.sizes) (tables_for l.cells.kinds.now l.cells.ends.now l.cells.pool.now l.cells.sizes)) (table_list (tables_for l.cells.kinds.now l.cells.ends.now l.cells.pool.now l.cells.sizes))) ≡ first_found l.first (marks (drop l.table (tests_for (round_of l.test) (sizes_in l.cells.sizes) (tables_for l.cells.kinds.now l.cells.ends.now l.cells.pool.now l.cells.sizes))) (drop l.table (table_list (tables_for l.cells.kinds.now l.cells.ends.now l.cells.pool.now l.cells.sizes)))))
