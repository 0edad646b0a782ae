use mathlib.Core.Path.{◌≡◌}
use lib.ListN.{drop}
use Rattle.model.specs.Load.{below}
use Rattle.cell_tests.proofs.words.all_below.Given as goal

abbrev pub invariant-loop-w : goal.invariant-loop-w
invariant-loop-w l = below l.n l.ws ≡ below l.n (drop l.w-index l.ws)
