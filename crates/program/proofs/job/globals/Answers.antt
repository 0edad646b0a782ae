use mathlib.Core.Path.{◌∙◌}
use Rattle.program.proofs.Words.{size-globals}
use Rattle.program.proofs.job.globals.Goals as goal

pub returns : goal.returns
returns c = c.wide.ensures ∙ size-globals c.args.job.now
