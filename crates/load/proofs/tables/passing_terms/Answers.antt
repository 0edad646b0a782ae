use native.Mathlib.Omega.{arith}
use mathlib.Core.Path.{◌≡◌, ap, ◌∙◌, subst}
use Prim.Native.Nat.{ℕ, ◌+◌, ◌<◌}
use lib.ListN.{get_or}
use Rattle.model.specs.Cell.{Cell, no_cell, cells_of}
use Rattle.model.specs.Layout.{cell_count}
use Rattle.model.specs.Load.{term_fits, term_refers}
use Rattle.model.specs.Term.{read_term}
use Rattle.cells.specs.declared.Table.{Table}
use Rattle.load.specs.Held.{sizes_in, Sound}
use Rattle.load.proofs.TableLaws.{formed-table, table-held, number-count, none_pass, more-pass}
use Rattle.load.proofs.tables.passing_terms.Goals as goal

pub loop-i-init : goal.loop-i-init
loop-i-init c = record { fit = none_pass; refer = none_pass }

pub words-requires : goal.words-requires
words-requires c = record { formed = formed-table c.table-t.ensures c.requires; i_lt_cells = omega (arith, ap (λ (x : Table). x.fill.cells) c.table-t.ensures, number-count (sizes_in c.args.cells.now.sizes) 0 (omega arith)) }

pub returns-then-not-term_passes : goal.returns-then-not-term_passes
returns-then-not-term_passes c = c.loop-i.invariant

pub loop-i-preserved : goal.loop-i-preserved
loop-i-preserved c = let s = c in
    let a = s.args in
    let K = a.cells.now.kinds.now in
    let E = a.cells.now.ends.now in
    let P = a.cells.now.pool.now in
    let n = cell_count (sizes_in a.cells.now.sizes) in
    let i = c.loop-i.i in
    let h : i < n = omega (arith, number-count (sizes_in a.cells.now.sizes) 0 (omega arith)) in
    let this = table-held a.cells.now c.table-t.ensures h c.words.ensures in
    let e : i ≡ 0 + i = omega arith in
    let here = this ∙ ap (λ (j : ℕ). get_or (cells_of K E P n) j no_cell) e in
    let S = c.loop-i.invariant in
    let two = c.term_passes.ensures c.if-not-term_passes.false in
    record { fit = more-pass (omega arith) S.fit (two.0 ∙ ap term_fits here); refer = more-pass (omega arith) S.refer (two.1 ∙ ap (λ (x : Cell). term_refers i (read_term x)) here) }

pub returns : goal.returns
returns c = let a = c.args in
    let e : c.loop-i.i ≡ a.cells.now.sizes.terms = omega arith in
    subst (λ (k : ℕ). Sound a.cells.now.kinds.now a.cells.now.ends.now a.cells.now.pool.now a.cells.now.sizes k) e c.loop-i.invariant
