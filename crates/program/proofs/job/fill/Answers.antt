use mathlib.Core.Path.{◌∙◌}
use native.Mathlib.Omega.{arith}
use Rattle.program.proofs.Words.{size-pool, fill_is}
use Rattle.program.proofs.job.fill.Goals as goal

pub overflow_sub-result-2 : goal.overflow_sub-result-2
overflow_sub-result-2 c = omega (arith, c.wide-words.ensures ∙ size-pool c.args.job.now)

pub returns : goal.returns
returns c = fill_is c.requires (c.wide-words.ensures ∙ size-pool c.args.job.now)
