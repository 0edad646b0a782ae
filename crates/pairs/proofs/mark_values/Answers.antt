use native.Mathlib.Omega.{arith}
use mathlib.Core.Path.{◌∙◌, ap}
use Rattle.pairs.specs.Marking.{mark_values}
use Rattle.pairs.proofs.Laws.{marked-none, marked_step}
use Rattle.pairs.proofs.mark_values.Goals as goal

pub loop-k-init : goal.loop-k-init
loop-k-init c = marked-none _ _

pub loop-k-preserved : goal.loop-k-preserved
loop-k-preserved c = marked_step c.loop-k.invariant c.mark_value.ensures

pub shape_of-marks : goal.shape_of-marks
shape_of-marks c = c.loop-k.invariant.long

pub returns : goal.returns
returns c = let a = c.args in
    c.loop-k.invariant.is ∙ ap (λ i. mark_values a.memo.now i a.marks.now) (omega arith)
