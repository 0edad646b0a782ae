use native.Mathlib.Omega.{arith}
use Rattle.decode.specs.View.{proposition_of}
use Rattle.termdag.specs.Store.{terms_in}
use Rattle.merges.proofs.AddLaws.{children-at}
use Rattle.merges.proofs.ViewLaws.{not-reflexive, old-no-app, new-no-app, views-read}
use Rattle.merges.proofs.read_views.Goals as goal

pub returns-then-first-ne0 : goal.returns-then-first-ne0
returns-then-first-ne0 c = let a = c.args in let pre = c.requires in not-reflexive a.p (proposition_of a.a) (proposition_of a.b) (terms_in a.store.now.kinds.now a.store.now.ends.now a.store.now.pool.now a.fill) c.both_reflexive-first.result c.both_reflexive-first.ensures c.if-first-ne0.true c.refused_views.ensures

pub returns-in_default : goal.returns-in_default
returns-in_default c = let a = c.args in let pre = c.requires in old-no-app a.p (proposition_of a.a) (proposition_of a.b) (terms_in a.store.now.kinds.now a.store.now.ends.now a.store.now.pool.now a.fill) c.both_reflexive-first.result c.both_reflexive-first.ensures c.if-first-ne0.false _ c.app_head-y.result c.app_head-x.ensures c.app_head-y.ensures c.in_default.is c.refused_views-in_default.ensures

pub returns-in_default-y : goal.returns-in_default-y
returns-in_default-y c = let a = c.args in let pre = c.requires in new-no-app a.p (proposition_of a.a) (proposition_of a.b) (terms_in a.store.now.kinds.now a.store.now.ends.now a.store.now.pool.now a.fill) c.both_reflexive-first.result c.both_reflexive-first.ensures c.if-first-ne0.false _ _ c.app_head-x.ensures c.app_head-y.ensures c.in-Some.is c.in_default-y.is c.refused_views-in_default-y.ensures

pub children-ys-requires : goal.children-ys-requires
children-ys-requires c = let a = c.args in let pre = c.requires in let h = pre.rhs_lt_cells_2 in record { stored = pre.stored; t_lt_cells = omega arith }

pub returns : goal.returns
returns c = let a = c.args in let pre = c.requires in views-read a.p (proposition_of a.a) (proposition_of a.b) (terms_in a.store.now.kinds.now a.store.now.ends.now a.store.now.pool.now a.fill) c.both_reflexive-first.result c.both_reflexive-first.ensures c.if-first-ne0.false _ _ c.app_head-x.ensures c.app_head-y.ensures c.compare_views.result c.in-Some.is c.in-Some-y.is (children-at (terms_in a.store.now.kinds.now a.store.now.ends.now a.store.now.pool.now a.fill) c.wide.ensures c.children-xs.ensures) (children-at (terms_in a.store.now.kinds.now a.store.now.ends.now a.store.now.pool.now a.fill) c.wide-2.ensures c.children-ys.ensures) c.compare_views.ensures
