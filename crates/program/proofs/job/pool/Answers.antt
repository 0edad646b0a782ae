use Rattle.load.proofs.Loading.{pool-cut}
use Rattle.program.proofs.job.pool.Goals as goal

pub returns : goal.returns
returns c = pool-cut c.args.job.now c.args.count c.requires.count_value
