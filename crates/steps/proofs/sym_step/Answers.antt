use Rattle.decode.specs.View.{proposition_of}
use Rattle.steps.proofs.PlainLaws.{sym-tested}
use Rattle.steps.proofs.sym_step.Goals as goal

pub returns : goal.returns
returns c = let a = c.args in λ s. sym-tested a.p (proposition_of a.q) (proposition_of a.a) c.check_that.ensures s
