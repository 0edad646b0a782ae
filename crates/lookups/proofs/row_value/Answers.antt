use mathlib.Core.Path.{sym, ap, ◌∙◌}
use mathlib.Core.Option.{some}
use native.Mathlib.Omega.{arith}
use lib.ListN.{get_or}
use Rattle.model.specs.Layout.{sizes_of}
use Rattle.model.specs.Program.{Row}
use Rattle.model.specs.Evaluate.{row_value}
use Rattle.program.specs.Ready.{tables_for}
use Rattle.program.proofs.Laws.{rows-read, row_words}
use Rattle.lookups.proofs.Laws.{look-found, look-nothing, row-looks}
use Rattle.lookups.proofs.Keys.{row_first}
use Rattle.lookups.proofs.row_value.Goals as goal

pub returns-then-size-lt-FEW : goal.returns-then-size-lt-FEW
returns-then-size-lt-FEW c = c.scan_rows.ensures

pub find_key-place-requires : goal.find_key-place-requires
find_key-place-requires c = record { held = c.requires.ready.held; start_bound = omega arith; chained_table = c.requires.keyed.rows; bound = omega (arith, c.if-size-lt-FEW.false, c.size.ensures) }

pub returns-in_default : goal.returns-in_default
returns-in_default c = let a = c.args in
    let J = a.job.now in
    sym (ap (λ rs. row_value rs a.p a.args.now) (rows-read (sizes_of J).globals (tables_for J)) ∙ look-nothing (row-looks a.p a.args.now) (tables_for J).rows (sym (row_first J a.p a.args.now c.find_key-place.ensures) ∙ c.in_default.is))

pub words_at-requires : goal.words_at-requires
words_at-requires c = record { held = c.requires.ready.held; i_bound = (c.find_key-place.ensures.there c.in-Some.i c.in-Some.is).0 }

pub read_row-row-requires : goal.read_row-row-requires
read_row-row-requires c = let i = c.in-Some.i in row_words c.requires.ready i c.words_at.ensures (c.find_key-place.ensures.there i c.in-Some.is).0

pub returns : goal.returns
returns c = let a = c.args in
    let J = a.job.now in
    ap (λ (r : Row). some r.result) c.read_row-row.ensures ∙ ap (λ us. some (get_or us 1 0)) c.words_at.ensures
    ∙ sym (ap (λ rs. row_value rs a.p a.args.now) (rows-read (sizes_of J).globals (tables_for J)) ∙ look-found (row-looks a.p a.args.now) (tables_for J).rows c.in-Some.i (sym (row_first J a.p a.args.now c.find_key-place.ensures) ∙ c.in-Some.is))
