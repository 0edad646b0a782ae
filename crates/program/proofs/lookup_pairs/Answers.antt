use mathlib.Core.Path.{◌∙◌}
use Rattle.program.proofs.Laws.{pair-no}
use Rattle.program.proofs.lookup_pairs.Goals as goal

pub loop-pair-preserved : goal.loop-pair-preserved
loop-pair-preserved c = let I = c.loop-pair.invariant in
    let s = c.in-Some.ensures.steps in
    (s.0 ∙ I.0, I.1 ∙ pair-no _ c.in-Some.pair.now _ c.args.name s.1.0 (s.1.1 ∙ I.0) c.if-pair-name.false)
