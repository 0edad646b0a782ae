use Rattle.load.proofs.TableLaws.{formed-table, held-cell, earlier-yes, earlier-no, earlier-end}
use native.Mathlib.Omega.{arith}
use mathlib.Core.Path.{◌≡◌, sym, ap, ap₂, ◌∙◌}
use Rattle.load.specs.Held.{sizes_in, alike_by, first_among}
use Rattle.model.specs.Cell.{Cell, no_cell, cells_of}
use Rattle.model.specs.Layout.{cell_count}
use Rattle.cells.proofs.Laws.{cells-length}
use Rattle.cells.specs.declared.Table.{Table}
use Prim.Native.Nat.{◌+◌}
use lib.ListN.{length, get_or}
use mathlib.Core.Bool.{Bool, not}
use Rattle.load.proofs.tables.is_first.Goals as goal

pub table-t-requires : goal.table-t-requires
table-t-requires c = c.requires.held.limits

pub words-own-requires : goal.words-own-requires
words-own-requires c = record { formed = formed-table c.table-t.ensures c.requires.held; i_lt_cells = omega (arith, ap (λ (x : Table). x.fill.cells) c.table-t.ensures) }

pub words-requires : goal.words-requires
words-requires c = record { formed = formed-table c.table-t.ensures c.requires.held; i_lt_cells = omega (arith, ap (λ (x : Table). x.fill.cells) c.table-t.ensures) }

pub returns-then-alike : goal.returns-then-alike
returns-then-alike c = let s = c in
    let a = s.args in
    let K = c.table-t.result.kinds.now in
    let E = c.table-t.result.ends.now in
    let P = c.table-t.result.pool.now in
    let f = c.table-t.result.fill in
    let cs = cells_of K E P f.cells in
    let l = c.loop-j in
    let fc : f.cells ≡ cell_count (sizes_in a.cells.now.sizes) = ap (λ (x : Table). x.fill.cells) c.table-t.ensures in
    let long : length cs ≡ f.cells = cells-length K E P f.cells in
    let this = held-cell K E P f.cells (a.span.first + a.i) c.words-own.result.now (omega arith) c.words-own.ensures in
    let other = held-cell K E P f.cells (a.span.first + l.j) c.words.result.now (omega arith) c.words.ensures in
    let e = sym (ap₂ (alike_by a.span.table) other this) ∙ sym c.alike.ensures in
    let same : Cell → Bool = λ x. alike_by a.span.table x (get_or cs (a.span.first + a.i) no_cell) in
    earlier-yes same cs a.span.first a.i l.j (omega arith) (omega arith) (e ∙ c.if-alike.true) ∙ ap not (sym l.invariant)
    ∙ ap (λ (x : Table). first_among (alike_by a.span.table) (cells_of x.kinds.now x.ends.now x.pool.now x.fill.cells) a.span.first a.i) c.table-t.ensures

pub loop-j-preserved : goal.loop-j-preserved
loop-j-preserved c = let s = c in
    let a = s.args in
    let K = c.table-t.result.kinds.now in
    let E = c.table-t.result.ends.now in
    let P = c.table-t.result.pool.now in
    let f = c.table-t.result.fill in
    let cs = cells_of K E P f.cells in
    let l = c.loop-j in
    let fc : f.cells ≡ cell_count (sizes_in a.cells.now.sizes) = ap (λ (x : Table). x.fill.cells) c.table-t.ensures in
    let long : length cs ≡ f.cells = cells-length K E P f.cells in
    let this = held-cell K E P f.cells (a.span.first + a.i) c.words-own.result.now (omega arith) c.words-own.ensures in
    let other = held-cell K E P f.cells (a.span.first + l.j) c.words.result.now (omega arith) c.words.ensures in
    let e = sym (ap₂ (alike_by a.span.table) other this) ∙ sym c.alike.ensures in
    let same : Cell → Bool = λ x. alike_by a.span.table x (get_or cs (a.span.first + a.i) no_cell) in
    l.invariant ∙ earlier-no same cs a.span.first a.i l.j (omega arith) (omega arith) (e ∙ c.if-alike.false)

pub returns : goal.returns
returns c = let a = c.args in
    let K = c.table-t.result.kinds.now in
    let E = c.table-t.result.ends.now in
    let P = c.table-t.result.pool.now in
    let f = c.table-t.result.fill in
    let cs = cells_of K E P f.cells in
    let l = c.loop-j in
    let same : Cell → Bool = λ x. alike_by a.span.table x (get_or cs (a.span.first + a.i) no_cell) in
    earlier-end same cs a.span.first a.i l.j (omega arith) ∙ ap not (sym l.invariant)
    ∙ ap (λ (x : Table). first_among (alike_by a.span.table) (cells_of x.kinds.now x.ends.now x.pool.now x.fill.cells) a.span.first a.i) c.table-t.ensures
