use Rattle.load.proofs.TableLaws.{formed-table, set_other, set_out, exprs_length, set-held}
use native.Mathlib.Omega.{arith}
use mathlib.Core.Path.{◌≡◌, sym, ap, ◌∙◌}
use lib.ListN.{get_or, drop}
use Prim.Native.Nat.{ℕ, ◌+◌, ◌≤◌}
use Rattle.cells.proofs.Laws.{cells-length, cell-at}
use Rattle.cells.specs.declared.Table.{Table}
use Rattle.load.specs.Held.{sizes_in, tables_for}
use Rattle.model.specs.Cell.{Cell, no_cell, cells_of}
use Rattle.model.specs.Layout.{cell_count}
use Rattle.load.proofs.tables.set_fits.Goals as goal

pub returns-then-kind-ne2 : goal.returns-then-kind-ne2
returns-then-kind-ne2 c = let a = c.args in set_other (tables_for a.cells.now.kinds.now a.cells.now.ends.now a.cells.now.pool.now a.cells.now.sizes).expressions a.ws.now a.kind c.if-kind-ne2.true

pub returns-then-cells-e : goal.returns-then-cells-e
returns-then-cells-e c = let s = c in
    let a = s.args in
    let cs = cells_of a.cells.now.kinds.now a.cells.now.ends.now a.cells.now.pool.now (cell_count (sizes_in a.cells.now.sizes)) in
    let e : c.wide-e.result ≡ get_or a.ws.now 0 0 = c.wide-e.ensures ∙ c.at.ensures in
    let h : a.cells.now.sizes.expressions ≤ get_or a.ws.now 0 0 = omega arith in
    rw c.if-kind-ne2.false (set_out (tables_for a.cells.now.kinds.now a.cells.now.ends.now a.cells.now.pool.now a.cells.now.sizes).expressions a.ws.now a.cells.now.sizes.expressions (exprs_length (sizes_in a.cells.now.sizes) cs (cells-length a.cells.now.kinds.now a.cells.now.ends.now a.cells.now.pool.now (cell_count (sizes_in a.cells.now.sizes)))) h)

pub words-requires : goal.words-requires
words-requires c = let s = c in
    record { formed = formed-table c.table.ensures s.requires; i_lt_cells = omega (arith, ap (λ (x : Table). x.fill.cells) c.table.ensures) }

pub returns : goal.returns
returns c = let s = c in
    let a = s.args in
    let K = a.cells.now.kinds.now in
    let E = a.cells.now.ends.now in
    let P = a.cells.now.pool.now in
    let n = cell_count (sizes_in a.cells.now.sizes) in
    let cs = cells_of K E P n in
    let i = a.cells.now.sizes.terms + c.wide-e.result in
    let e : c.wide-e.result ≡ get_or a.ws.now 0 0 = c.wide-e.ensures ∙ c.at.ensures in
    let w : c.words.result.now ≡ (get_or cs i no_cell).words = c.words.ensures ∙ ap (λ (x : Table). (get_or (cells_of x.kinds.now x.ends.now x.pool.now x.fill.cells) i no_cell).words) c.table.ensures in
    rw c.if-kind-ne2.false (set-held (sizes_in a.cells.now.sizes) cs (get_or K i 0) i c.rest-arguments.result.now a.ws.now (cells-length K E P n) (ap (λ (x : ℕ). a.cells.now.sizes.terms + x) e) (omega arith)
    (sym (ap (λ (x : Cell). x.kind) (cell-at K E P n i (omega arith)))) (c.rest-arguments.ensures ∙ ap (drop 1) w))
