use Rattle.std.proofs.Common.{◌≡◌, length}
use Rattle.model.specs.Decode.{read_bindings}
use Rattle.model.specs.Load.{binds_once}
use Rattle.cell_tests.proofs.once.binds_once.Given as goal

abbrev pub invariant-loop-left : goal.invariant-loop-left
invariant-loop-left l = binds_once (read_bindings l.ws) ≡ binds_once (read_bindings l.left)

abbrev pub decreases-loop-left : goal.decreases-loop-left
decreases-loop-left l = length l.left
