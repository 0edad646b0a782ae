use Rattle.load.proofs.TableLaws.{primitive-held, primitive-out}
use native.Mathlib.Omega.{arith}
use mathlib.Core.Path.{sym, ap}
use Rattle.load.specs.Held.{sizes_in}
use Rattle.model.specs.Cell.{Cell, cells_of}
use Rattle.model.specs.Layout.{cell_count}
use Rattle.cells.proofs.Laws.{cell-at}
use Prim.Native.Nat.{◌+◌, ◌<◌}
use Rattle.load.proofs.tables.looks_up.Goals as goal

pub returns-then-z-p : goal.returns-then-z-p
returns-then-z-p c = let a = c.args in primitive-out (sizes_in a.cells.now.sizes) (cells_of a.cells.now.kinds.now a.cells.now.ends.now a.cells.now.pool.now (cell_count (sizes_in a.cells.now.sizes))) a.p (omega arith)

pub returns : goal.returns
returns c = let a = c.args in
    let z = a.cells.now.sizes in
    let n = cell_count (sizes_in z) in
    let i = z.terms + z.expressions + z.facts + z.actions + z.functions + a.p in
    let h : i < n = omega arith in
    primitive-held (sizes_in z) (cells_of a.cells.now.kinds.now a.cells.now.ends.now a.cells.now.pool.now n) a.p _ (omega arith) (sym (ap (λ (x : Cell). x.kind) (cell-at a.cells.now.kinds.now a.cells.now.ends.now a.cells.now.pool.now n i h)))
