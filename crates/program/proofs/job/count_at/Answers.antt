use mathlib.Core.Path.{◌∙◌}
use native.Mathlib.Omega.{arith}
use Rattle.program.proofs.Words.{size-before, size-after}
use Rattle.program.proofs.job.count_at.Goals as goal

pub returns-then-k-lt4 : goal.returns-then-k-lt4
returns-then-k-lt4 c = c.wide.ensures ∙ size-before c.args.job.now c.args.k (omega arith)

pub returns : goal.returns
returns c = c.wide-2.ensures ∙ size-after c.args.job.now c.args.k (omega arith) (omega arith)
