use mathlib.Core.Path.{sym, ap, ◌∙◌}
use mathlib.Core.Option.{none, some}
use Rattle.program.specs.Ready.{program_for, option_of}
use Rattle.lookups.proofs.Laws.{normal-without, normal-by, normal-looks}
use Rattle.lookups.proofs.normalize_app.Goals as goal

pub returns-in_default : goal.returns-in_default
returns-in_default c = let a = c.args in
    let prog = program_for a.job.now in
    λ room s. normal-without room prog a.t a.head a.args.now s (ap option_of (sym c.in_default.is) ∙ c.normaliser_of-normaliser.ensures)

pub returns-in_default-value : goal.returns-in_default-value
returns-in_default-value c = let a = c.args in
    let prog = program_for a.job.now in
    λ room s. normal-by room prog a.t a.head a.args.now s c.in-Some.p none
    (ap option_of (sym c.in-Some.is) ∙ c.normaliser_of-normaliser.ensures) (normal-looks c.requires.ready a.head _ (ap option_of (sym c.in-Some.is) ∙ c.normaliser_of-normaliser.ensures)) (ap option_of (sym c.in_default-value.is) ∙ c.row_value-value.ensures)

pub returns : goal.returns
returns c = let a = c.args in
    let prog = program_for a.job.now in
    λ room s. normal-by room prog a.t a.head a.args.now s c.in-Some.p (some c.in-Some-value.r)
    (ap option_of (sym c.in-Some.is) ∙ c.normaliser_of-normaliser.ensures) (normal-looks c.requires.ready a.head _ (ap option_of (sym c.in-Some.is) ∙ c.normaliser_of-normaliser.ensures)) (ap option_of (sym c.in-Some-value.is) ∙ c.row_value-value.ensures)
