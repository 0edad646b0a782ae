use mathlib.Core.Path.{◌≡◌, ap, ◌∙◌}
use Prim.Native.Nat.{ℕ, ◌+◌, ◌-◌, ◌≤◌, ◌<◌}
use native.Mathlib.Omega.{arith}
use lib.ListN.{get_or}
use Rattle.model.specs.Layout.{Sizes, sizes_of}
use Rattle.cells.specs.declared.Fill.{Fill}
use Rattle.load.specs.Held.{counts_of, cell_number}
use Rattle.load.proofs.TableLaws.{number-next}
use Rattle.program.specs.Ready.{number_of}
use Rattle.program.proofs.Words.{number-below, number-is}
use Rattle.program.proofs.job.first_behind.Goals as goal

back : (z : Sizes) (k : ℕ) → 0 < k → k ≤ 10 → cell_number z (k - 1) + get_or (counts_of z) (k - 1) 0 ≡ cell_number z k
back z k h l = let e : k - 1 + 1 ≡ k = omega arith in number-next z (k - 1) (omega arith) ∙ ap (cell_number z) e

pub loop-k-init : goal.loop-k-init
loop-k-init c = (omega (arith, number-below c.args.table), omega (arith, ap (λ (f : Fill). f.cells) c.fill-f.ensures))

pub overflow_sub-left : goal.overflow_sub-left
overflow_sub-left c = omega (arith, back (sizes_of c.args.job.now) c.loop-k.k (omega arith) (omega arith), c.loop-k.invariant.1, c.count_at-left.ensures)

pub loop-k-preserved : goal.loop-k-preserved
loop-k-preserved c = (omega (arith, number-is c.args.table), omega (arith, back (sizes_of c.args.job.now) c.loop-k.k (omega arith) (omega arith), c.loop-k.invariant.1, c.count_at-left.ensures))

pub returns : goal.returns
returns c = let e : c.loop-k.k ≡ number_of c.args.table = omega (arith, number-is c.args.table) in rw (c.loop-k.invariant.1, e)
