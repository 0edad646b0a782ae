use mathlib.Core.Path.{◌≡◌}
use Rattle.load.specs.Held.{alike_by}
use Rattle.model.specs.Cell.{no_cell, cells_of}
use Prim.Native.Nat.{◌+◌}
use lib.ListN.{get_or, take, drop}
use Rattle.model.specs.Load.{any}
use Rattle.load.proofs.tables.is_first.Given as goal

abbrev pub invariant-loop-j : goal.invariant-loop-j
invariant-loop-j l = (any (λ e. alike_by l.span.table e (get_or (cells_of l.t.kinds.now l.t.ends.now l.t.pool.now l.t.fill.cells) (l.span.first + l.i) no_cell)) (take l.i (drop l.span.first (cells_of l.t.kinds.now l.t.ends.now l.t.pool.now l.t.fill.cells))) ≡ any (λ e. alike_by l.span.table e (get_or (cells_of l.t.kinds.now l.t.ends.now l.t.pool.now l.t.fill.cells) (l.span.first + l.i) no_cell)) (drop l.j (take l.i (drop l.span.first (cells_of l.t.kinds.now l.t.ends.now l.t.pool.now l.t.fill.cells)))))
