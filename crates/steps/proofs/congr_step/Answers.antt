use mathlib.Core.Path.{refl, ap}
use lib.ListN.{length}
use native.Mathlib.Omega.{arith}
use Rattle.program.specs.Ready.{option_of}
use Rattle.decode.specs.View.{proposition_of}
use Rattle.termdag.specs.Store.{terms_in}
use Rattle.termdag.proofs.Viewing.{children-seen, stored-seen}
use Rattle.merges.proofs.AddLaws.{small-cells, children-at, few-children, head-seen}
use Rattle.steps.proofs.CongrLaws.{congr-none, congr-child, congr-full, congr-claimed}
use Rattle.steps.proofs.congr_step.Goals as goal

pub app_head-head-requires : goal.app_head-head-requires
app_head-head-requires c = let a = c.args in let pre = c.requires in record { stored = stored-seen a.store.now c.view-view.result a.fill c.view-view.ensures pre.indexed.stored; t_lt_cells = small-cells a.store.now.kinds.now a.store.now.ends.now a.store.now.pool.now a.fill pre.small refl }

pub returns-in_default-clause-does : goal.returns-in_default-clause-does
returns-in_default-clause-does c = let a = c.args in let pre = c.requires in congr-none a.p (proposition_of a.q) (proposition_of a.a) a.i (proposition_of a.b) pre.indexed (head-seen a.store.now c.view-view.result a.fill c.view-view.ensures a.a.rhs (option_of c.app_head-head.result) c.app_head-head.ensures) c.in_default.is c.refuse1.ensures

pub children-args-requires : goal.children-args-requires
children-args-requires c = let a = c.args in let pre = c.requires in record { stored = stored-seen a.store.now c.view-view.result a.fill c.view-view.ensures pre.indexed.stored; t_lt_cells = small-cells a.store.now.kinds.now a.store.now.ends.now a.store.now.pool.now a.fill pre.small c.wide.ensures }

pub child_matches-first-requires : goal.child_matches-first-requires
child_matches-first-requires c = let a = c.args in let pre = c.requires in few-children (terms_in a.store.now.kinds.now a.store.now.ends.now a.store.now.pool.now a.fill) c.wide.ensures (children-seen a.store.now c.view-view.result a.fill c.view-view.ensures c.wide.result c.children-args.ensures) pre.small

pub returns-then-first-ne0-clause-does : goal.returns-then-first-ne0-clause-does
returns-then-first-ne0-clause-does c = let a = c.args in let pre = c.requires in congr-child a.p (proposition_of a.q) (proposition_of a.a) a.i (proposition_of a.b) pre.indexed (head-seen a.store.now c.view-view.result a.fill c.view-view.ensures a.a.rhs (option_of c.app_head-head.result) c.app_head-head.ensures) c.in-Some.is c.child_matches-first.result (children-at (terms_in a.store.now.kinds.now a.store.now.ends.now a.store.now.pool.now a.fill) c.wide.ensures (children-seen a.store.now c.view-view.result a.fill c.view-view.ensures c.wide.result c.children-args.ensures)) c.child_matches-first.ensures.s_value c.if-first-ne0.true

pub replace_child-r-requires : goal.replace_child-r-requires
replace_child-r-requires c = let a = c.args in let pre = c.requires in let k = c.child_matches-first.ensures.i_in_bounds c.if-first-ne0.false in let e = ap length (children-at (terms_in a.store.now.kinds.now a.store.now.ends.now a.store.now.pool.now a.fill) c.wide.ensures (children-seen a.store.now c.view-view.result a.fill c.view-view.ensures c.wide.result c.children-args.ensures)) in record { indexed = pre.indexed; small = pre.small; i_in_bounds = omega arith }

pub returns-then-r-ne0-clause-does : goal.returns-then-r-ne0-clause-does
returns-then-r-ne0-clause-does c = let a = c.args in let pre = c.requires in congr-full a.p (proposition_of a.q) (proposition_of a.a) a.i (proposition_of a.b) pre.indexed (head-seen a.store.now c.view-view.result a.fill c.view-view.ensures a.a.rhs (option_of c.app_head-head.result) c.app_head-head.ensures) c.in-Some.is c.child_matches-first.result (children-at (terms_in a.store.now.kinds.now a.store.now.ends.now a.store.now.pool.now a.fill) c.wide.ensures (children-seen a.store.now c.view-view.result a.fill c.view-view.ensures c.wide.result c.children-args.ensures)) c.child_matches-first.ensures.s_value c.if-first-ne0.false c.replace_child-r.result c.wide-2.ensures c.replace_child-r.ensures.does c.if-r-ne0.true

pub returns-clause-does : goal.returns-clause-does
returns-clause-does c = let a = c.args in let pre = c.requires in congr-claimed a.p (proposition_of a.q) (proposition_of a.a) a.i (proposition_of a.b) pre.indexed (head-seen a.store.now c.view-view.result a.fill c.view-view.ensures a.a.rhs (option_of c.app_head-head.result) c.app_head-head.ensures) c.in-Some.is c.child_matches-first.result (children-at (terms_in a.store.now.kinds.now a.store.now.ends.now a.store.now.pool.now a.fill) c.wide.ensures (children-seen a.store.now c.view-view.result a.fill c.view-view.ensures c.wide.result c.children-args.ensures)) c.child_matches-first.ensures.s_value c.if-first-ne0.false c.replace_child-r.result c.wide-2.ensures c.replace_child-r.ensures.does c.congr_claims-refusal.result c.if-r-ne0.false c.congr_claims-refusal.ensures
