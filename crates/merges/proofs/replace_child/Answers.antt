use Prim.Native.Nat.{ℕ}
use mathlib.Core.Path.{ap, ◌∙◌}
use mathlib.Core.List.{List}
use lib.ListN.{set}
use native.Mathlib.Omega.{arith}
use Rattle.termdag.specs.Store.{terms_in}
use Rattle.termdag.proofs.Viewing.{children-seen, stored-seen}
use Rattle.merges.proofs.AddLaws.{small-cells, children-at, few-children, child-inside, written-fits, written-take, written-length, replaced}
use Rattle.merges.proofs.replace_child.Goals as goal

pub children-xs-requires : goal.children-xs-requires
children-xs-requires c = let a = c.args in let pre = c.requires in record { stored = stored-seen a.store.now c.view-view.result a.fill c.view-view.ensures pre.indexed.stored; t_lt_cells = small-cells a.store.now.kinds.now a.store.now.ends.now a.store.now.pool.now a.fill pre.small c.wide.ensures }

pub copy-requires : goal.copy-requires
copy-requires c = let a = c.args in let pre = c.requires in let h = few-children (terms_in a.store.now.kinds.now a.store.now.ends.now a.store.now.pool.now a.fill) c.wide.ensures (children-seen a.store.now c.view-view.result a.fill c.view-view.ensures c.wide.result c.children-xs.ensures) pre.small in omega arith

pub slice_bounds-args-end : goal.slice_bounds-args-end
slice_bounds-args-end c = let a = c.args in let pre = c.requires in written-fits _ _ a.i a.x c.copy.ensures (child-inside (terms_in a.store.now.kinds.now a.store.now.ends.now a.store.now.pool.now a.fill) c.wide.ensures (children-seen a.store.now c.view-view.result a.fill c.view-view.ensures c.wide.result c.children-xs.ensures) pre.i_in_bounds)

pub slice_bounds-add_app-end : goal.slice_bounds-add_app-end
slice_bounds-add_app-end c = let a = c.args in let pre = c.requires in written-length _ _ a.i a.x c.copy.ensures (child-inside (terms_in a.store.now.kinds.now a.store.now.ends.now a.store.now.pool.now a.fill) c.wide.ensures (children-seen a.store.now c.view-view.result a.fill c.view-view.ensures c.wide.result c.children-xs.ensures) pre.i_in_bounds)

pub add_app-requires : goal.add_app-requires
add_app-requires c = let a = c.args in let pre = c.requires in let h = few-children (terms_in a.store.now.kinds.now a.store.now.ends.now a.store.now.pool.now a.fill) c.wide.ensures (children-seen a.store.now c.view-view.result a.fill c.view-view.ensures c.wide.result c.children-xs.ensures) pre.small in let k = written-length _ _ a.i a.x c.copy.ensures (child-inside (terms_in a.store.now.kinds.now a.store.now.ends.now a.store.now.pool.now a.fill) c.wide.ensures (children-seen a.store.now c.view-view.result a.fill c.view-view.ensures c.wide.result c.children-xs.ensures) pre.i_in_bounds) in record { indexed = pre.indexed; args_len_bound = omega arith }

pub returns-clause-does : goal.returns-clause-does
returns-clause-does c = let a = c.args in let pre = c.requires in replaced {c = c.add_app.result} a.head (written-take _ _ a.i a.x c.copy.ensures (child-inside (terms_in a.store.now.kinds.now a.store.now.ends.now a.store.now.pool.now a.fill) c.wide.ensures (children-seen a.store.now c.view-view.result a.fill c.view-view.ensures c.wide.result c.children-xs.ensures) pre.i_in_bounds) ∙ ap (λ (l : List ℕ). set l a.i a.x) (children-at (terms_in a.store.now.kinds.now a.store.now.ends.now a.store.now.pool.now a.fill) c.wide.ensures (children-seen a.store.now c.view-view.result a.fill c.view-view.ensures c.wide.result c.children-xs.ensures))) c.add_app.ensures.does
