use Rattle.decode.specs.View.{proposition_of}
use Rattle.termdag.specs.Store.{terms_in}
use Rattle.merges.proofs.AddViewLaws.{view-tested}
use Rattle.merges.proofs.view_claimed.Goals as goal

pub returns : goal.returns
returns c = let a = c.args in λ s. view-tested (terms_in a.store.now.kinds.now a.store.now.ends.now a.store.now.pool.now a.fill) a.fill.cells a.marks.now a.p (proposition_of a.q) a.view s c.is_claimed-covered.ensures c.check_that.ensures
