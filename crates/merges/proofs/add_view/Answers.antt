use Prim.Native.Nat.{◌-◌}
use mathlib.Core.Path.{refl, ap}
use lib.ListN.{length}
use native.Mathlib.Omega.{arith}
use Rattle.decode.specs.View.{proposition_of}
use Rattle.termdag.specs.Store.{terms_in}
use Rattle.termdag.proofs.Viewing.{children-seen, stored-seen}
use Rattle.merges.proofs.AddLaws.{small-cells, children-at}
use Rattle.merges.proofs.AddViewLaws.{view-stops, view-ends}
use Rattle.merges.proofs.add_view.Goals as goal

pub children-n-requires : goal.children-n-requires
children-n-requires c = let a = c.args in let pre = c.requires in record { stored = stored-seen a.store.now c.view-view.result a.fill c.view-view.ensures pre.indexed.stored; t_lt_cells = small-cells a.store.now.kinds.now a.store.now.ends.now a.store.now.pool.now a.fill pre.small c.wide.ensures }

pub overflow_sub-n : goal.overflow_sub-n
overflow_sub-n c = let a = c.args in let pre = c.requires in let e = ap length (children-at (terms_in a.store.now.kinds.now a.store.now.ends.now a.store.now.pool.now a.fill) c.wide.ensures (children-seen a.store.now c.view-view.result a.fill c.view-view.ensures c.wide.result c.children-n.ensures)) in let h = pre.nonzero in omega arith

pub replace_child-r-requires : goal.replace_child-r-requires
replace_child-r-requires c = let a = c.args in let pre = c.requires in let e = ap length (children-at (terms_in a.store.now.kinds.now a.store.now.ends.now a.store.now.pool.now a.fill) c.wide.ensures (children-seen a.store.now c.view-view.result a.fill c.view-view.ensures c.wide.result c.children-n.ensures)) in let h = pre.nonzero in record { indexed = pre.indexed; small = pre.small; i_in_bounds = omega arith }

pub returns-then-r-ne0-clause-does : goal.returns-then-r-ne0-clause-does
returns-then-r-ne0-clause-does c = let a = c.args in let pre = c.requires in let e = ap length (children-at (terms_in a.store.now.kinds.now a.store.now.ends.now a.store.now.pool.now a.fill) c.wide.ensures (children-seen a.store.now c.view-view.result a.fill c.view-view.ensures c.wide.result c.children-n.ensures)) in let h = pre.nonzero in view-stops a.p (proposition_of a.q) a.t a.head a.value a.store.now.kinds.now a.store.now.ends.now a.store.now.pool.now a.store.now.index.now a.fill a.marks.now _ _ _ _ (length c.children-n.result.now - 1) c.replace_child-r.result (omega arith) c.replace_child-r.ensures.does c.if-r-ne0.true

pub returns-clause-does : goal.returns-clause-does
returns-clause-does c = let a = c.args in let pre = c.requires in let e = ap length (children-at (terms_in a.store.now.kinds.now a.store.now.ends.now a.store.now.pool.now a.fill) c.wide.ensures (children-seen a.store.now c.view-view.result a.fill c.view-view.ensures c.wide.result c.children-n.ensures)) in let h = pre.nonzero in view-ends a.p (proposition_of a.q) a.t a.head a.value a.store.now.kinds.now a.store.now.ends.now a.store.now.pool.now a.store.now.index.now a.fill a.marks.now _ _ _ _ (length c.children-n.result.now - 1) c.replace_child-r.result (omega arith) c.replace_child-r.ensures.does c.view_claimed-refusal.result c.if-r-ne0.false pre.small.inside c.view_claimed-refusal.ensures refl
