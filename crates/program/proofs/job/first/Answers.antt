use mathlib.Core.Path.{◌≡◌}
use native.Mathlib.Omega.{arith}
use Rattle.model.specs.Layout.{sizes_of}
use Rattle.load.proofs.TableLaws.{number-count, number-next}
use Rattle.program.specs.Ready.{number_of}
use Rattle.program.proofs.Words.{number-below, number-is}
use Rattle.program.proofs.job.first.Goals as goal

pub overflow_add-sum : goal.overflow_add-sum
overflow_add-sum c = omega (arith, number-count (sizes_of c.args.job.now) c.loop-k.k (omega (arith, number-is c.args.table, number-below c.args.table)), c.requires.long)

pub loop-k-preserved : goal.loop-k-preserved
loop-k-preserved c = omega (arith, number-next (sizes_of c.args.job.now) c.loop-k.k (omega (arith, number-is c.args.table, number-below c.args.table)), c.loop-k.invariant, c.count_at-sum.ensures)

pub returns : goal.returns
returns c = let e : c.loop-k.k ≡ number_of c.args.table = omega (arith, number-is c.args.table) in rw (c.loop-k.invariant, e)
