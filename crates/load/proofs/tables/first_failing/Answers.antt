use Rattle.load.proofs.TableLaws.{table-length, table-cell, found-yes, found-no, found-end, found-past, place_inside}
use native.Mathlib.Omega.{arith}
use mathlib.Core.Path.{◌≡◌, sym, ap, ◌∙◌}
use Rattle.load.specs.Held.{round_of, sizes_in, tables_for, tests_for, counts_of}
use Rattle.model.specs.Cell.{no_cell, cells_of}
use Rattle.model.specs.Layout.{cell_count, table_list}
use Prim.Native.Nat.{ℕ, ◌+◌}
use lib.ListN.{get_or, length}
use mathlib.Core.List.{[]}
use Rattle.cells.proofs.Laws.{cells-length}
use Rattle.model.specs.Load.{passed}
use Rattle.load.proofs.tables.first_failing.Goals as goal

pub loop-i-init : goal.loop-i-init
loop-i-init c = let s = c in
    let a = s.args in
    let K = a.cells.now.kinds.now in
    let E = a.cells.now.ends.now in
    let P = a.cells.now.pool.now in
    let z = sizes_in a.cells.now.sizes in
    let n = cell_count z in
    let cs = cells_of K E P n in
    let t = get_or (table_list (tables_for K E P a.cells.now.sizes)) a.span.table [] in
    let f = get_or (tests_for (round_of a.test) z (tables_for K E P a.cells.now.sizes)) a.span.table passed in
    let long : length cs ≡ n = cells-length K E P n in
    let size : length t ≡ get_or (counts_of z) a.span.table 0 = table-length z cs long a.span.table s.requires.table_bound in
    found-past f t a.span.first c.passed_first-passed.result (omega (arith, c.passed_first-passed.ensures.few)) (λ i h. c.passed_first-passed.ensures.pass i h ∙ ap (f i) (sym (table-cell z cs long a.span.table s.requires.table_bound i (omega (arith, c.passed_first-passed.ensures.few)))))

pub passes-requires : goal.passes-requires
passes-requires c = let s = c in record { held = s.requires.held; place = record { table = s.requires.table_bound; first = s.requires.first_value; inside = omega (arith, s.requires.count_value) } }

pub overflow_add-result : goal.overflow_add-result
overflow_add-result c = let s = c in omega (arith, place_inside (sizes_in s.args.cells.now.sizes) s.args.span.table c.loop-i.i s.requires.table_bound (omega (arith, s.requires.count_value)), s.requires.first_value)

pub returns-then-not-passes : goal.returns-then-not-passes
returns-then-not-passes c = let s = c in
    let a = s.args in
    let z = sizes_in a.cells.now.sizes in
    let n = cell_count z in
    let cs = cells_of a.cells.now.kinds.now a.cells.now.ends.now a.cells.now.pool.now n in
    let t = get_or (table_list (tables_for a.cells.now.kinds.now a.cells.now.ends.now a.cells.now.pool.now a.cells.now.sizes)) a.span.table [] in
    let f = get_or (tests_for (round_of a.test) z (tables_for a.cells.now.kinds.now a.cells.now.ends.now a.cells.now.pool.now a.cells.now.sizes)) a.span.table passed in
    let l = c.loop-i in
    let long : length cs ≡ n = cells-length a.cells.now.kinds.now a.cells.now.ends.now a.cells.now.pool.now n in
    let size : length t ≡ a.span.count = table-length z cs long a.span.table s.requires.table_bound ∙ sym s.requires.count_value in
    let same : get_or t l.i no_cell ≡ get_or cs (a.span.first + l.i) no_cell = table-cell z cs long a.span.table s.requires.table_bound l.i (omega (arith, s.requires.count_value)) ∙ ap (λ (k : ℕ). get_or cs (k + l.i) no_cell) (sym s.requires.first_value) in
    let e = ap (f l.i) same ∙ sym c.passes.ensures in
    found-yes f t a.span.first l.i (omega arith) (e ∙ c.if-not-passes.true) ∙ sym l.invariant

pub loop-i-preserved : goal.loop-i-preserved
loop-i-preserved c = let s = c in
    let a = s.args in
    let z = sizes_in a.cells.now.sizes in
    let n = cell_count z in
    let cs = cells_of a.cells.now.kinds.now a.cells.now.ends.now a.cells.now.pool.now n in
    let t = get_or (table_list (tables_for a.cells.now.kinds.now a.cells.now.ends.now a.cells.now.pool.now a.cells.now.sizes)) a.span.table [] in
    let f = get_or (tests_for (round_of a.test) z (tables_for a.cells.now.kinds.now a.cells.now.ends.now a.cells.now.pool.now a.cells.now.sizes)) a.span.table passed in
    let l = c.loop-i in
    let long : length cs ≡ n = cells-length a.cells.now.kinds.now a.cells.now.ends.now a.cells.now.pool.now n in
    let size : length t ≡ a.span.count = table-length z cs long a.span.table s.requires.table_bound ∙ sym s.requires.count_value in
    let same : get_or t l.i no_cell ≡ get_or cs (a.span.first + l.i) no_cell = table-cell z cs long a.span.table s.requires.table_bound l.i (omega (arith, s.requires.count_value)) ∙ ap (λ (k : ℕ). get_or cs (k + l.i) no_cell) (sym s.requires.first_value) in
    let e = ap (f l.i) same ∙ sym c.passes.ensures in
    l.invariant ∙ found-no f t a.span.first l.i (omega arith) (e ∙ c.if-not-passes.false)

pub returns : goal.returns
returns c = let s = c in
    let a = s.args in
    let z = sizes_in a.cells.now.sizes in
    let n = cell_count z in
    let cs = cells_of a.cells.now.kinds.now a.cells.now.ends.now a.cells.now.pool.now n in
    let t = get_or (table_list (tables_for a.cells.now.kinds.now a.cells.now.ends.now a.cells.now.pool.now a.cells.now.sizes)) a.span.table [] in
    let f = get_or (tests_for (round_of a.test) z (tables_for a.cells.now.kinds.now a.cells.now.ends.now a.cells.now.pool.now a.cells.now.sizes)) a.span.table passed in
    let l = c.loop-i in
    let long : length cs ≡ n = cells-length a.cells.now.kinds.now a.cells.now.ends.now a.cells.now.pool.now n in
    let size : length t ≡ a.span.count = table-length z cs long a.span.table s.requires.table_bound ∙ sym s.requires.count_value in
    found-end f t a.span.first l.i (omega arith) ∙ sym l.invariant
