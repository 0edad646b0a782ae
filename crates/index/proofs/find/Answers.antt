use Rattle.std.proofs.Common.{◌≡◌, ℕ, ◌-◌, ◌<◌, length, get_or, sym, refl, ap, ◌∙◌, arith}
use Rattle.model.specs.Cell.{Cell, no_cell, same_cell, cells_of}
use Rattle.cells.proofs.Laws.{cells-length, cells-fewer}
use Rattle.index.specs.Listing.{hits}
use Rattle.index.proofs.Probing.{passed_none}
use Rattle.index.proofs.Indexing.{start-within, slot-in, entry-low, looked-none, looked-more, looked-hit, looked-all}
use Rattle.index.proofs.find.Goals as goal

pub loop-compared-init : goal.loop-compared-init
loop-compared-init c = let s = c in
    let a = s.args in
    let I = a.index.now in
    let K = a.kinds.now in
    let E = a.ends.now in
    let P = a.pool.now in
    let cs = cells_of K E P a.m in
    let k : Cell = record { kind = a.kind; words = a.ws.now } in
    let some : 0 < length I = omega arith in
    passed_none I (hits cs k) c.home-first.result (start-within a.x I cs k c.home-first.result c.home-first.ensures some)

pub onward-slot-requires : goal.onward-slot-requires
onward-slot-requires c = let s = c in
    let a = s.args in
    let I = a.index.now in
    let K = a.kinds.now in
    let E = a.ends.now in
    let P = a.pool.now in
    let cs = cells_of K E P a.m in
    let k : Cell = record { kind = a.kind; words = a.ws.now } in
    let some : 0 < length I = omega arith in
    record { s_lt_n = start-within a.x I cs k c.home-first.result c.home-first.ensures some; k_le_n = omega arith }

pub offset_bounds-index-slot : goal.offset_bounds-index-slot
offset_bounds-index-slot c = let s = c in
    let a = s.args in
    let I = a.index.now in
    let K = a.kinds.now in
    let E = a.ends.now in
    let P = a.pool.now in
    let cs = cells_of K E P a.m in
    let k : Cell = record { kind = a.kind; words = a.ws.now } in
    let some : 0 < length I = omega arith in
    omega (arith, slot-in a.x I cs k c.home-first.result c.home-first.ensures some c.loop-compared.invariant (omega arith) s.requires.lists c.onward-slot.result (get_or I c.onward-slot.result 0) c.onward-slot.ensures refl)

pub bounds-index-slot : goal.bounds-index-slot
bounds-index-slot c = let s = c in
    let a = s.args in
    let I = a.index.now in
    let K = a.kinds.now in
    let E = a.ends.now in
    let P = a.pool.now in
    let cs = cells_of K E P a.m in
    let k : Cell = record { kind = a.kind; words = a.ws.now } in
    let some : 0 < length I = omega arith in
    slot-in a.x I cs k c.home-first.result c.home-first.ensures some c.loop-compared.invariant (omega arith) s.requires.lists c.onward-slot.result (get_or I c.onward-slot.result 0) c.onward-slot.ensures refl

pub returns-then-entry-eq0 : goal.returns-then-entry-eq0
returns-then-entry-eq0 c = let s = c in
    let a = s.args in
    let I = a.index.now in
    let K = a.kinds.now in
    let E = a.ends.now in
    let P = a.pool.now in
    let cs = cells_of K E P a.m in
    let k : Cell = record { kind = a.kind; words = a.ws.now } in
    let some : 0 < length I = omega arith in
    looked-none a.x I cs k c.home-first.result c.home-first.ensures some c.loop-compared.invariant (omega arith) s.requires.lists c.onward-slot.result (get_or I c.onward-slot.result 0) c.onward-slot.ensures refl c.if-entry-eq0.true

pub same-requires : goal.same-requires
same-requires c = let s = c in
    let a = s.args in
    let I = a.index.now in
    let K = a.kinds.now in
    let E = a.ends.now in
    let P = a.pool.now in
    let cs = cells_of K E P a.m in
    let k : Cell = record { kind = a.kind; words = a.ws.now } in
    let some : 0 < length I = omega arith in
    record { formed = s.requires.formed; i_lt_cells = omega (arith, c.wide.ensures, entry-low a.x I cs k c.home-first.result c.home-first.ensures some c.loop-compared.invariant (omega arith) s.requires.lists c.onward-slot.result (get_or I c.onward-slot.result 0) c.onward-slot.ensures refl, cells-length K E P a.m) }

pub returns-then-same : goal.returns-then-same
returns-then-same c = let s = c in
    let a = s.args in
    let I = a.index.now in
    let K = a.kinds.now in
    let E = a.ends.now in
    let P = a.pool.now in
    let cs = cells_of K E P a.m in
    let k : Cell = record { kind = a.kind; words = a.ws.now } in
    let some : 0 < length I = omega arith in
    let low : get_or I c.onward-slot.result 0 - 1 < a.m = omega (arith, entry-low a.x I cs k c.home-first.result c.home-first.ensures some c.loop-compared.invariant (omega arith) s.requires.lists c.onward-slot.result (get_or I c.onward-slot.result 0) c.onward-slot.ensures refl, cells-length K E P a.m) in
    let e : hits cs k (get_or I c.onward-slot.result 0 - 1) ≡ c.same.result = ap (λ (y : Cell). same_cell y k) (cells-fewer K E P a.m a.fill.cells (get_or I c.onward-slot.result 0 - 1) s.requires.m_le_cells low) ∙ ap (λ (n : ℕ). same_cell (get_or (cells_of K E P a.fill.cells) (n - 1) no_cell) k) (sym c.wide.ensures) ∙ sym c.same.ensures in
    looked-hit a.x I cs k c.home-first.result c.home-first.ensures some c.loop-compared.invariant (omega arith) s.requires.lists c.onward-slot.result (get_or I c.onward-slot.result 0) c.onward-slot.ensures refl s.requires.once c.if-entry-eq0.false (e ∙ c.if-same.true)

pub loop-compared-preserved : goal.loop-compared-preserved
loop-compared-preserved c = let s = c in
    let a = s.args in
    let I = a.index.now in
    let K = a.kinds.now in
    let E = a.ends.now in
    let P = a.pool.now in
    let cs = cells_of K E P a.m in
    let k : Cell = record { kind = a.kind; words = a.ws.now } in
    let some : 0 < length I = omega arith in
    let low : get_or I c.onward-slot.result 0 - 1 < a.m = omega (arith, entry-low a.x I cs k c.home-first.result c.home-first.ensures some c.loop-compared.invariant (omega arith) s.requires.lists c.onward-slot.result (get_or I c.onward-slot.result 0) c.onward-slot.ensures refl, cells-length K E P a.m) in
    let e : hits cs k (get_or I c.onward-slot.result 0 - 1) ≡ c.same.result = ap (λ (y : Cell). same_cell y k) (cells-fewer K E P a.m a.fill.cells (get_or I c.onward-slot.result 0 - 1) s.requires.m_le_cells low) ∙ ap (λ (n : ℕ). same_cell (get_or (cells_of K E P a.fill.cells) (n - 1) no_cell) k) (sym c.wide.ensures) ∙ sym c.same.ensures in
    looked-more a.x I cs k c.home-first.result c.home-first.ensures some c.loop-compared.invariant (omega arith) s.requires.lists c.onward-slot.result (get_or I c.onward-slot.result 0) c.onward-slot.ensures refl c.if-entry-eq0.false (e ∙ c.if-same.false)

pub returns : goal.returns
returns c = let s = c in
    let a = s.args in
    let I = a.index.now in
    let K = a.kinds.now in
    let E = a.ends.now in
    let P = a.pool.now in
    let cs = cells_of K E P a.m in
    let k : Cell = record { kind = a.kind; words = a.ws.now } in
    let some : 0 < length I = omega arith in
    absurd (looked-all a.x I cs k c.home-first.result c.home-first.ensures some c.loop-compared.invariant (omega arith) s.requires.lists (omega (arith, cells-length K E P a.m)))
