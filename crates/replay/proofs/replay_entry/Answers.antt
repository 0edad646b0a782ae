use native.Mathlib.Omega.{arith}
use lib.ListN.{length-take}
use Rattle.replay.proofs.replay_entry.Goals as goal

pub slice_bounds-checks_with-end : goal.slice_bounds-checks_with-end
slice_bounds-checks_with-end c = simp length-take (omega arith)
