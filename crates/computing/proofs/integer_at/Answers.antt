use native.Mathlib.Omega.{arith}
use Rattle.termdag.specs.Store.{terms_in}
use Rattle.termdag.proofs.Laws.{terms-length}
use mathlib.Core.Path.{◌∙◌}
use Rattle.computing.proofs.Laws.{no-term, term-is}
use Rattle.computing.proofs.integer_at.Goals as goal

pub returns-then-count-t : goal.returns-then-count-t
returns-then-count-t c = let a = c.args in no-term (terms_in a.store.now.kinds.now a.store.now.ends.now a.store.now.pool.now a.fill) a.t (omega (arith, terms-length a.store.now.kinds.now a.store.now.ends.now a.store.now.pool.now a.fill))

pub returns-in-Lit : goal.returns-in-Lit
returns-in-Lit c = let a = c.args in c.integer_of.ensures ∙ term-is (terms_in a.store.now.kinds.now a.store.now.ends.now a.store.now.pool.now a.fill) a.t c.get.result _ _ c.get.ensures c.in-Lit.is

pub returns-in-Var : goal.returns-in-Var
returns-in-Var c = let a = c.args in term-is (terms_in a.store.now.kinds.now a.store.now.ends.now a.store.now.pool.now a.fill) a.t c.get.result _ _ c.get.ensures c.in-Var.is

pub returns-in-App : goal.returns-in-App
returns-in-App c = let a = c.args in term-is (terms_in a.store.now.kinds.now a.store.now.ends.now a.store.now.pool.now a.fill) a.t c.get.result _ _ c.get.ensures c.in-App.is
