use native.Mathlib.Omega.{arith}
use Rattle.program.specs.Ready.{number_of}
use Rattle.program.proofs.Words.{number-below, inside, kind-in}
use Rattle.program.proofs.job.kind_at.Goals as goal

pub overflow_add-k : goal.overflow_add-k
overflow_add-k c = omega (arith, inside c.args.job.now (number_of c.args.table) (number-below c.args.table) c.args.i c.requires.i_bound, c.nearest_first.ensures, c.requires.held.long)

pub overflow_add-result : goal.overflow_add-result
overflow_add-result c = omega (arith, inside c.args.job.now (number_of c.args.table) (number-below c.args.table) c.args.i c.requires.i_bound, c.nearest_first.ensures, c.requires.held.long)

pub offset_bounds-job-k : goal.offset_bounds-job-k
offset_bounds-job-k c = omega (arith, inside c.args.job.now (number_of c.args.table) (number-below c.args.table) c.args.i c.requires.i_bound, c.nearest_first.ensures, c.requires.held.long)

pub bounds-job-k : goal.bounds-job-k
bounds-job-k c = omega (arith, inside c.args.job.now (number_of c.args.table) (number-below c.args.table) c.args.i c.requires.i_bound, c.nearest_first.ensures, c.requires.held.long)

pub returns : goal.returns
returns c = kind-in c.args.job.now (number_of c.args.table) (number-below c.args.table) c.args.i c.requires.i_bound c.nearest_first.ensures
