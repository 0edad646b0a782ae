use lib.ListN.{length}
use mathlib.Core.Path.{◌≡◌}
use Rattle.bounds.proofs.set_largest.Given as goal

abbrev pub invariant-loop-i : goal.invariant-loop-i
invariant-loop-i l = length l.job ≡ length l.initial.job
