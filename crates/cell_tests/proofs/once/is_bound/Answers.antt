use mathlib.Core.Path.{◌∙◌}
use Rattle.cell_tests.proofs.Laws.{bound-next}
use Rattle.cell_tests.proofs.once.is_bound.Goals as goal

pub loop-pair-preserved : goal.loop-pair-preserved
loop-pair-preserved c = let I = c.loop-pair.invariant in
    let s = c.in-Some.ensures.steps in
    (s.0 ∙ I.0, I.1 ∙ bound-next c.args.name _ c.in-Some.pair.now _ s.1.0 (s.1.1 ∙ I.0) c.if-name-pair.false)
