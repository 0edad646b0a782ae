use mathlib.Core.Path.{◌≡◌}
use lib.ListN.{drop}
use Rattle.model.specs.Load.{ends_rise}
use Rattle.load.proofs.ends_rise.Given as goal

abbrev pub invariant-loop-end : goal.invariant-loop-end
invariant-loop-end l = ends_rise 0 l.ends l.pool ≡ ends_rise l.start (drop l.end-index l.ends) l.pool
