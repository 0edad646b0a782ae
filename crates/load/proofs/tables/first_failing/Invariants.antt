use mathlib.Core.Path.{◌≡◌}
use Rattle.load.specs.Held.{round_of, sizes_in, tables_for, tests_for, first_found}
use Rattle.model.specs.Layout.{table_list}
use Prim.Native.Nat.{◌+◌}
use lib.ListN.{get_or, drop}
use mathlib.Core.List.{[]}
use Rattle.model.specs.Load.{passed, fails_from}
use Rattle.load.proofs.tables.first_failing.Given as goal

abbrev pub invariant-loop-i : goal.invariant-loop-i
invariant-loop-i l = (first_found l.span.first (fails_from 0 (get_or (tests_for (round_of l.test) (sizes_in l.cells.sizes) (tables_for l.cells.kinds.now l.cells.ends.now l.cells.pool.now l.cells.sizes)) l.span.table passed) (get_or (table_list (tables_for l.cells.kinds.now l.cells.ends.now l.cells.pool.now l.cells.sizes)) l.span.table [])) ≡ first_found (l.span.first + l.i) (fails_from l.i (get_or (tests_for (round_of l.test) (sizes_in l.cells.sizes) (tables_for l.cells.kinds.now l.cells.ends.now l.cells.pool.now l.cells.sizes)) l.span.table passed) (drop l.i (get_or (table_list (tables_for l.cells.kinds.now l.cells.ends.now l.cells.pool.now l.cells.sizes)) l.span.table []))))
