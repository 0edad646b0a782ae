use native.Mathlib.Omega.{arith}
use lib.ListN.{length-take}
use Rattle.replay.proofs.checks_with.Goals as goal

pub slice_bounds-checks_as-end-2 : goal.slice_bounds-checks_as-end-2
slice_bounds-checks_as-end-2 c = simp length-take (omega arith)

pub slice_bounds-checks_as-end-4 : goal.slice_bounds-checks_as-end-4
slice_bounds-checks_as-end-4 c = simp length-take (omega arith)

pub slice_bounds-checks_as-end-6 : goal.slice_bounds-checks_as-end-6
slice_bounds-checks_as-end-6 c = simp length-take (omega arith)

pub slice_bounds-checks_as-end-8 : goal.slice_bounds-checks_as-end-8
slice_bounds-checks_as-end-8 c = simp length-take (omega arith)
