use Prim.Native.Nat.{◌+◌, ◌*◌}
use mathlib.Core.Bool.{not}
use mathlib.Core.Path.{ap}
use native.Mathlib.Omega.{arith}
use borrow.Author.Tests.{lt-ltb, le-ltb}
use lib.ListN.{length}
use lib.Dec.{eqb}
use Rattle.model.specs.Layout.{Sizes, cell_count}
use Rattle.load.proofs.sizes.wrong_length.Goals as goal

pub returns-then-len-lt12 : goal.returns-then-len-lt12
returns-then-len-lt12 c = rw (lt-ltb (length c.args.job.now) 12 (omega arith))

pub returns : goal.returns
returns c = let job = c.args.job.now in
    rw (le-ltb (length job) 12 (omega arith), c.cell_count-cells.ensures)
    (ap (λ (z : Sizes). not (eqb (length job) (12 + 2 * cell_count z + z.pool))) c.read_sizes-z.ensures.is)
