use Rattle.program.specs.Ready.{program_for}
use Rattle.decode.specs.View.{proposition_of}
use Rattle.termdag.specs.Store.{terms_in}
use Rattle.steps.proofs.PlainLaws.{normal-tested}
use Rattle.steps.proofs.normalize_step.Goals as goal

pub returns : goal.returns
returns c = let a = c.args in λ room. normal-tested room (program_for a.job.now) a.p (proposition_of a.q) (proposition_of a.a) (terms_in a.store.now.kinds.now a.store.now.ends.now a.store.now.pool.now a.fill) (c.normalize_container-n.ensures room) c.flag.ensures c.check_that.ensures
