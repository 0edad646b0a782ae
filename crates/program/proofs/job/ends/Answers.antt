use Rattle.load.proofs.Loading.{ends-cut}
use Rattle.program.proofs.job.ends.Goals as goal

pub returns : goal.returns
returns c = ends-cut c.args.job.now c.args.count c.requires.count_value
