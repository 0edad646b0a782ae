use Rattle.load.proofs.Loading.{kinds-cut}
use Rattle.program.proofs.job.kinds.Goals as goal

pub returns : goal.returns
returns c = kinds-cut c.args.job.now c.args.count c.requires.count_value
