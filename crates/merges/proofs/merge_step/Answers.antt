use mathlib.Core.Path.{refl, ap, ◌∙◌}
use lib.Dec.{eqb}
use lib.ListN.{length}
use Rattle.decode.specs.View.{proposition_of}
use Rattle.merges.proofs.AddLaws.{small-cells}
use Rattle.merges.proofs.MergeLaws.{cleared-length, merge-unread, merge-standing, merge-refused, view-small, merge-adds}
use Rattle.merges.proofs.merge_step.Goals as goal

pub read_views-v-requires : goal.read_views-v-requires
read_views-v-requires c = let a = c.args in let pre = c.requires in record { stored = pre.standing.indexed.stored; rhs_lt_cells = small-cells a.store.now.kinds.now a.store.now.ends.now a.store.now.pool.now a.fill pre.small refl; rhs_lt_cells_2 = small-cells a.store.now.kinds.now a.store.now.ends.now a.store.now.pool.now a.fill pre.small_2 refl }

pub returns-then-first-ne0-clause-does : goal.returns-then-first-ne0-clause-does
returns-then-first-ne0-clause-does c = let a = c.args in let pre = c.requires in merge-unread a.job.now a.found.now a.p (proposition_of a.q) a.function (proposition_of a.a) (proposition_of a.b) a.store.now.kinds.now a.store.now.ends.now a.store.now.pool.now a.store.now.index.now a.fill a.memo.now a.marks.now pre.standing pre.small pre.small_2 c.read_views-v.result c.read_views-v.ensures c.if-first-ne0.true

pub run_merge-m-requires : goal.run_merge-m-requires
run_merge-m-requires c = let a = c.args in let pre = c.requires in merge-standing a.job.now a.found.now a.p (proposition_of a.q) a.function (proposition_of a.a) (proposition_of a.b) a.store.now.kinds.now a.store.now.ends.now a.store.now.pool.now a.store.now.index.now a.fill a.memo.now a.marks.now pre.standing pre.small pre.small_2 c.read_views-v.result c.read_views-v.ensures c.if-first-ne0.false {m₁ = c.clear_if.new.marks} (ap length c.clear_if.ensures ∙ cleared-length (eqb a.q.lhs a.q.rhs) a.marks.now)

pub returns-then-m-ne0-clause-does : goal.returns-then-m-ne0-clause-does
returns-then-m-ne0-clause-does c = let a = c.args in let pre = c.requires in merge-refused a.job.now a.found.now a.p (proposition_of a.q) a.function (proposition_of a.a) (proposition_of a.b) a.store.now.kinds.now a.store.now.ends.now a.store.now.pool.now a.store.now.index.now a.fill a.memo.now a.marks.now pre.standing pre.small pre.small_2 c.read_views-v.result c.read_views-v.ensures c.if-first-ne0.false c.clear_if.new.marks c.run_merge-m.new.store.kinds.now c.run_merge-m.new.store.ends.now c.run_merge-m.new.store.pool.now c.run_merge-m.new.store.index.now c.run_merge-m.new.memo c.run_merge-m.new.marks c.run_merge-m.result c.run_merge-m.ensures.does c.if-m-ne0.true

pub add_view-requires : goal.add_view-requires
add_view-requires c = let a = c.args in let pre = c.requires in let made = view-small a.job.now a.found.now a.p (proposition_of a.q) a.function (proposition_of a.a) (proposition_of a.b) a.store.now.kinds.now a.store.now.ends.now a.store.now.pool.now a.store.now.index.now a.fill a.memo.now a.marks.now pre.standing pre.small pre.small_2 c.read_views-v.result c.read_views-v.ensures c.if-first-ne0.false c.clear_if.new.marks c.run_merge-m.new.store.kinds.now c.run_merge-m.new.store.ends.now c.run_merge-m.new.store.pool.now c.run_merge-m.new.store.index.now c.run_merge-m.new.memo c.run_merge-m.new.marks c.run_merge-m.result c.run_merge-m.ensures.does c.if-m-ne0.false in record { indexed = c.run_merge-m.ensures.does.does.grown.indexed; small = made.0; nonzero = made.1 }

pub shape_of-marks : goal.shape_of-marks
shape_of-marks c = c.add_view.auto.marks ∙ c.run_merge-m.auto.marks ∙ c.clear_if.auto.marks

pub returns-clause-does : goal.returns-clause-does
returns-clause-does c = let a = c.args in let pre = c.requires in merge-adds a.job.now a.found.now a.p (proposition_of a.q) a.function (proposition_of a.a) (proposition_of a.b) a.store.now.kinds.now a.store.now.ends.now a.store.now.pool.now a.store.now.index.now a.fill a.memo.now a.marks.now pre.standing pre.small pre.small_2 c.read_views-v.result c.read_views-v.ensures c.if-first-ne0.false c.clear_if.new.marks c.run_merge-m.new.store.kinds.now c.run_merge-m.new.store.ends.now c.run_merge-m.new.store.pool.now c.run_merge-m.new.store.index.now c.run_merge-m.new.memo c.run_merge-m.new.marks c.run_merge-m.result c.run_merge-m.ensures.does c.if-m-ne0.false c.clear_if.ensures (ap length c.clear_if.ensures ∙ cleared-length (eqb a.q.lhs a.q.rhs) a.marks.now) c.run_merge-m.auto.marks c.add_view.ensures.does
