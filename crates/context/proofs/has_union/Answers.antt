use mathlib.Core.Path.{◌∙◌}
use Rattle.decode.specs.View.{proposition_of}
use Rattle.context.proofs.Unions.{union-no}
use Rattle.context.proofs.has_union.Goals as goal

pub loop-pair-preserved : goal.loop-pair-preserved
loop-pair-preserved c = let I = c.loop-pair.invariant in
    let s = c.in-Some.ensures.steps in
    (s.0 ∙ I.0, I.1 ∙ union-no _ c.in-Some.pair.now _ (proposition_of c.args.q) s.1.0 (s.1.1 ∙ I.0) c.if-q-b.either c.if-q-a-2.either)
