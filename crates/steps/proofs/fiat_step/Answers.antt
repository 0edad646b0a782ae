use Rattle.decode.specs.View.{proposition_of}
use Rattle.termdag.specs.Store.{terms_in}
use Rattle.steps.proofs.PlainLaws.{fiat-tested}
use Rattle.steps.proofs.fiat_step.Goals as goal

pub returns : goal.returns
returns c = let a = c.args in λ ps g. fiat-tested ps a.p (proposition_of a.q) (terms_in a.store.now.kinds.now a.store.now.ends.now a.store.now.pool.now a.fill) c.is_literal-literal.ensures (c.is_global_pair-global.ensures ps g) c.check_that.ensures
