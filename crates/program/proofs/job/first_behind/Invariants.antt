use mathlib.Core.Path.{◌≡◌}
use Prim.Native.Nat.{◌≤◌}
use Rattle.model.specs.Layout.{sizes_of}
use Rattle.load.specs.Held.{cell_number}
use Rattle.program.specs.Ready.{number_of}
use Rattle.program.proofs.job.first_behind.Given as goal

abbrev pub invariant-loop-k : goal.invariant-loop-k
invariant-loop-k l = (number_of l.fn.table ≤ l.k) × (l.left ≡ cell_number (sizes_of l.job) l.k)
