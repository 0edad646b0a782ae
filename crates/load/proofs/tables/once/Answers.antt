use Rattle.load.proofs.TableLaws.{first-in, once-first, once-other}
use native.Mathlib.Omega.{arith}
use mathlib.Core.Path.{◌≡◌, sym, ◌∙◌}
use mathlib.Core.Logic.{◌⊎◌, inl, inr}
use Prim.Native.Nat.{◌≤◌, ◌<◌}
use Rattle.model.specs.Cell.{cells_of}
use Rattle.model.specs.Layout.{cell_count}
use Rattle.load.specs.Held.{sizes_in, alike_by, tables_of, cell_of}
use Rattle.load.proofs.tables.once.Goals as goal

pub returns-in-0 : goal.returns-in-0
returns-in-0 c = let a = c.args in
    let p = c.requires.place in
    let k = a.span.table in
    let which : (k ≡ 0) ⊎ ((6 ≤ k) × (k < 8)) = grind arith in
    c.is_first.ensures ∙ first-in (sizes_in a.cells.now.sizes) (cells_of a.cells.now.kinds.now a.cells.now.ends.now a.cells.now.pool.now (cell_count (sizes_in a.cells.now.sizes))) (alike_by k) k a.span.first a.i p.table p.first p.inside
    ∙ sym (once-first (tables_of a.cells.now) k a.i (cell_of a.cells.now _) which)

pub returns-in_default : goal.returns-in_default
returns-in_default c = let a = c.args in once-other (tables_of a.cells.now) a.span.table a.i (cell_of a.cells.now _) (λ e. omega arith) (λ e. omega arith) (λ e. omega arith) (λ e. omega arith)

pub returns-in_default-2 : goal.returns-in_default-2
returns-in_default-2 c = let a = c.args in once-other (tables_of a.cells.now) a.span.table a.i (cell_of a.cells.now _) (λ e. omega arith) (λ e. omega arith) (λ e. omega arith) (λ e. omega arith)
