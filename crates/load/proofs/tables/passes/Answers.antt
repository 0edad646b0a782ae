use Rattle.load.proofs.TableLaws.{place_inside, table-held}
use native.Mathlib.Omega.{arith}
use mathlib.Core.Path.{ap, ◌∙◌}
use Rattle.load.specs.Held.{sizes_in, tables_of}
use Rattle.model.specs.Cell.{Cell}
use Rattle.model.specs.Layout.{cell_count}
use Prim.Native.Nat.{◌+◌, ◌<◌}
use lib.ListN.{get_or}
use Rattle.model.specs.Load.{passed, fit_tests, refer_tests, valid_tests}
use Rattle.load.proofs.tables.passes.Goals as goal

pub once-requires-clause-ws_value : goal.once-requires-clause-ws_value
once-requires-clause-ws_value c =
    let a = c.args in
    let h : a.span.first + a.i < cell_count (sizes_in a.cells.now.sizes) = omega (arith, place_inside (sizes_in a.cells.now.sizes) a.span.table a.i c.requires.place.table c.requires.place.inside, c.requires.place.first) in
    let this = table-held a.cells.now c.table.ensures h c.words-ws.ensures in
    this

pub returns-in-Shape : goal.returns-in-Shape
returns-in-Shape c =
    let a = c.args in
    let h : a.span.first + a.i < cell_count (sizes_in a.cells.now.sizes) = omega (arith, place_inside (sizes_in a.cells.now.sizes) a.span.table a.i c.requires.place.table c.requires.place.inside, c.requires.place.first) in
    let this = table-held a.cells.now c.table.ensures h c.words-ws.ensures in
    let t = tables_of a.cells.now in
    rw c.in-Shape.is (c.fits.ensures a.i ∙ ap (λ (x : Cell). get_or (fit_tests t) a.span.table passed a.i x) this)

pub returns-in-References : goal.returns-in-References
returns-in-References c =
    let a = c.args in
    let h : a.span.first + a.i < cell_count (sizes_in a.cells.now.sizes) = omega (arith, place_inside (sizes_in a.cells.now.sizes) a.span.table a.i c.requires.place.table c.requires.place.inside, c.requires.place.first) in
    let this = table-held a.cells.now c.table.ensures h c.words-ws.ensures in
    rw c.in-References.is (c.refers.ensures ∙ ap (λ (x : Cell). get_or (refer_tests (sizes_in a.cells.now.sizes)) a.span.table passed a.i x) this)

pub returns-in-Validators : goal.returns-in-Validators
returns-in-Validators c =
    let a = c.args in
    let h : a.span.first + a.i < cell_count (sizes_in a.cells.now.sizes) = omega (arith, place_inside (sizes_in a.cells.now.sizes) a.span.table a.i c.requires.place.table c.requires.place.inside, c.requires.place.first) in
    let this = table-held a.cells.now c.table.ensures h c.words-ws.ensures in
    let t = tables_of a.cells.now in
    rw c.in-Validators.is (c.valid.ensures a.i _ ∙ ap (λ (x : Cell). get_or (valid_tests t) a.span.table passed a.i x) this)
