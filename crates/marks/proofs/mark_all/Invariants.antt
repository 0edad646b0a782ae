use mathlib.Core.Path.{◌≡◌}
use lib.ListN.{length, drop}
use Rattle.marks.specs.Marks.{mark_all}
use Rattle.marks.proofs.mark_all.Given as goal

abbrev pub invariant-loop-x : goal.invariant-loop-x
invariant-loop-x l = (mark_all l.xs l.initial.marks ≡ mark_all (drop l.x-index l.xs) l.marks) × (length l.marks ≡ length l.initial.marks)
