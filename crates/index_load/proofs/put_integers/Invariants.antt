use mathlib.Core.Path.{◌≡◌}
use lib.ListN.{length}
use Rattle.cells.specs.Table.{Formed}
use Rattle.index_load.proofs.put_integers.Given as goal

abbrev pub invariant-loop-i : goal.invariant-loop-i
invariant-loop-i l = Formed l.kinds l.ends l.pool l.f × (length l.kinds ≡ length l.initial.kinds) × (length l.ends ≡ length l.initial.ends) × (length l.pool ≡ length l.initial.pool)
