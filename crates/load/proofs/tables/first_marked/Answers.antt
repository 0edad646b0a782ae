use Rattle.load.proofs.TableLaws.{tables-yes, tables-no, tables_end, tests-ten, number-next, number-count, table-length}
use native.Mathlib.Omega.{arith}
use mathlib.Core.Path.{◌≡◌, refl, sym, ap, ◌∙◌}
use Rattle.load.specs.Held.{round_of, sizes_in, tables_for, tests_for, first_found, counts_of}
use Rattle.model.specs.Cell.{cells_of}
use Rattle.model.specs.Layout.{cell_count, table_list}
use Prim.Native.Nat.{ℕ, ◌+◌, ◌<◌}
use lib.ListN.{get_or, length, drop}
use mathlib.Core.List.{List, []}
use Rattle.cells.proofs.Laws.{cells-length}
use Rattle.model.specs.Load.{marks}
use Rattle.load.proofs.tables.first_marked.Goals as goal

pub loop-table-init : goal.loop-table-init
loop-table-init c = (refl, refl)

pub first_failing-f-requires : goal.first_failing-f-requires
first_failing-f-requires c = let s = c in
    let a = s.args in
    let z = sizes_in a.cells.now.sizes in
    let t = tables_for a.cells.now.kinds.now a.cells.now.ends.now a.cells.now.pool.now a.cells.now.sizes in
    let fs = tests_for (round_of a.test) z t in
    let l = c.loop-table in
    let k = l.table in
    let ns : get_or c.counts-ns.result k 0 ≡ get_or (counts_of z) k 0 = ap (λ (xs : List ℕ). get_or xs k 0) c.counts-ns.ensures in
    let ten : length fs ≡ 10 = tests-ten (round_of a.test) z t in
    record { held = s.requires.held; table_bound = omega arith; first_value = l.invariant.0; count_value = ns; distinct = s.requires.distinct; sound = s.requires.sound }

pub returns-in-Some : goal.returns-in-Some
returns-in-Some c = let s = c in
    let a = s.args in
    let z = sizes_in a.cells.now.sizes in
    let t = tables_for a.cells.now.kinds.now a.cells.now.ends.now a.cells.now.pool.now a.cells.now.sizes in
    let fs = tests_for (round_of a.test) z t in
    let l = c.loop-table in
    let k = l.table in
    let ns : get_or c.counts-ns.result k 0 ≡ get_or (counts_of z) k 0 = ap (λ (xs : List ℕ). get_or xs k 0) c.counts-ns.ensures in
    let ten : length fs ≡ 10 = tests-ten (round_of a.test) z t in
    c.in-Some.is ∙ sym (l.invariant.1 ∙ tables-yes fs (table_list t) k l.first (omega arith) (omega arith) c.in-Some.field-0 (sym c.first_failing-f.ensures ∙ c.in-Some.is))

pub overflow_add-first : goal.overflow_add-first
overflow_add-first c = let s = c in
    let a = s.args in
    let z = sizes_in a.cells.now.sizes in
    let t = tables_for a.cells.now.kinds.now a.cells.now.ends.now a.cells.now.pool.now a.cells.now.sizes in
    let fs = tests_for (round_of a.test) z t in
    let l = c.loop-table in
    let k = l.table in
    let ns : get_or c.counts-ns.result k 0 ≡ get_or (counts_of z) k 0 = ap (λ (xs : List ℕ). get_or xs k 0) c.counts-ns.ensures in
    let ten : length fs ≡ 10 = tests-ten (round_of a.test) z t in
    omega (arith, number-count z k (omega arith), l.invariant.0)

pub loop-table-preserved : goal.loop-table-preserved
loop-table-preserved c = let s = c in
    let a = s.args in
    let z = sizes_in a.cells.now.sizes in
    let t = tables_for a.cells.now.kinds.now a.cells.now.ends.now a.cells.now.pool.now a.cells.now.sizes in
    let fs = tests_for (round_of a.test) z t in
    let l = c.loop-table in
    let k = l.table in
    let ns : get_or c.counts-ns.result k 0 ≡ get_or (counts_of z) k 0 = ap (λ (xs : List ℕ). get_or xs k 0) c.counts-ns.ensures in
    let ten : length fs ≡ 10 = tests-ten (round_of a.test) z t in
    let n = cell_count z in
    let cs = cells_of a.cells.now.kinds.now a.cells.now.ends.now a.cells.now.pool.now n in
    let long : length cs ≡ n = cells-length a.cells.now.kinds.now a.cells.now.ends.now a.cells.now.pool.now n in
    let h : k < 10 = omega arith in
    let more : length (get_or (table_list t) k []) ≡ get_or c.counts-ns.result k 0 = table-length z cs long k h ∙ sym ns in (
      omega (arith, number-next z k h, l.invariant.0),
      l.invariant.1 ∙ tables-no fs (table_list t) k l.first (omega arith) (omega arith) (sym c.first_failing-f.ensures ∙ c.in_default.is)
          ∙ ap (λ (x : ℕ). first_found (l.first + x) (marks (drop (k + 1) fs) (drop (k + 1) (table_list t)))) more,
    )

pub returns : goal.returns
returns c = let a = c.args in
    let z = sizes_in a.cells.now.sizes in
    let t = tables_for a.cells.now.kinds.now a.cells.now.ends.now a.cells.now.pool.now a.cells.now.sizes in
    let l = c.loop-table in
    let e : l.table ≡ 10 = omega arith in
    tables_end (round_of a.test) z t l.first ∙ sym (l.invariant.1 ∙ ap (λ (k : ℕ). first_found l.first (marks (drop k (tests_for (round_of a.test) z t)) (drop k (table_list t)))) e)
