use mathlib.Core.Path.{sym, ap, ◌∙◌}
use mathlib.Core.Option.{some}
use Prim.Native.Nat.{◌<◌}
use native.Mathlib.Omega.{arith}
use lib.Dec.{lit<}
use lib.ListN.{get_or}
use Rattle.model.specs.Cell.{no_cell}
use Rattle.model.specs.Layout.{sizes_of}
use Rattle.model.specs.Program.{Row}
use Rattle.model.specs.Evaluate.{row_value}
use Rattle.program.specs.Ready.{tables_for}
use Rattle.program.proofs.Words.{inside, words-in}
use Rattle.program.proofs.Laws.{table-long, rows-read, row_words}
use Rattle.lookups.proofs.Laws.{look-yes, look-no, look-end, row-looks, row-test}
use Rattle.lookups.proofs.scan_rows.Goals as goal

pub loop-i-init : goal.loop-i-init
loop-i-init c = let a = c.args in
    ap (λ rs. row_value rs a.p a.args.now) (rows-read (sizes_of a.job.now).globals (tables_for a.job.now))

pub overflow_add-start : goal.overflow_add-start
overflow_add-start c = omega (arith, inside c.args.job.now 6 (lit< tt) c.loop-i.i (omega (arith, c.size-count.ensures)), c.first-start.ensures, c.requires.held.long)

pub cell_words-ws-requires : goal.cell_words-ws-requires
cell_words-ws-requires c = record { held = c.requires.held; i_bound = omega (arith, inside c.args.job.now 6 (lit< tt) c.loop-i.i (omega (arith, c.size-count.ensures)), c.first-start.ensures) }

pub read_row-row-requires : goal.read_row-row-requires
read_row-row-requires c = let h : c.loop-i.i < (sizes_of c.args.job.now).rows = omega (arith, c.size-count.ensures) in
    row_words c.requires c.loop-i.i (words-in c.args.job.now 6 (lit< tt) c.loop-i.i h c.first-start.ensures c.cell_words-ws.ensures) h

pub row_arguments-requires : goal.row_arguments-requires
row_arguments-requires c = let h : c.loop-i.i < (sizes_of c.args.job.now).rows = omega (arith, c.size-count.ensures) in
    row_words c.requires c.loop-i.i (words-in c.args.job.now 6 (lit< tt) c.loop-i.i h c.first-start.ensures c.cell_words-ws.ensures) h

pub returns-then-row-p : goal.returns-then-row-p
returns-then-row-p c = let a = c.args in
    let J = a.job.now in
    let t = (tables_for J).rows in
    let long = table-long J 6 (lit< tt) in
    let l = c.loop-i in
    let words = words-in J 6 (lit< tt) l.i (omega (arith, c.size-count.ensures)) c.first-start.ensures c.cell_words-ws.ensures in
    let test = row-test (get_or t l.i no_cell) c.read_row-row.result a.p a.args.now words c.read_row-row.ensures c.row_arguments.ensures c.same_words-same.ensures in
    ap (λ (r : Row). some r.result) c.read_row-row.ensures ∙ ap (λ us. some (get_or us 1 0)) words
    ∙ look-yes (row-looks a.p a.args.now) t l.i (omega (arith, c.size-count.ensures)) (test ∙ c.if-row-p.true) ∙ sym l.invariant

pub loop-i-preserved : goal.loop-i-preserved
loop-i-preserved c = let a = c.args in
    let J = a.job.now in
    let t = (tables_for J).rows in
    let long = table-long J 6 (lit< tt) in
    let l = c.loop-i in
    let words = words-in J 6 (lit< tt) l.i (omega (arith, c.size-count.ensures)) c.first-start.ensures c.cell_words-ws.ensures in
    let test = row-test (get_or t l.i no_cell) c.read_row-row.result a.p a.args.now words c.read_row-row.ensures c.row_arguments.ensures c.same_words-same.ensures in
    l.invariant ∙ look-no (row-looks a.p a.args.now) t l.i (omega (arith, c.size-count.ensures)) (test ∙ c.if-row-p.false)

pub returns : goal.returns
returns c = let a = c.args in
    let J = a.job.now in
    let long = table-long J 6 (lit< tt) in
    let l = c.loop-i in
    look-end (row-looks a.p a.args.now) (tables_for J).rows l.i (omega (arith, c.size-count.ensures)) ∙ sym l.invariant
