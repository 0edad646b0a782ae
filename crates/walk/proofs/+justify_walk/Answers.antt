use mathlib.Core.Path.{refl, sym, ap, ◌∙◌}
use mathlib.Core.Logic.{⊎_elim}
use Prim.Native.Nat.{◌-◌}
use native.Mathlib.Omega.{arith}
use lib.ListN.{length, length-take, length-drop}
use Rattle.outcome.proofs.Laws.{grown-then}
use Rattle.outcome.specs.declared.Checked.{Checked}
use Rattle.heads.proofs.Heading.{part-is}
use Rattle.turns.specs.Walking.{context_of}
use Rattle.turns.proofs.Stages.{facts-count, planned-by}
use Rattle.walk.proofs.Justifying.{walk-known, walk-stops, walk_ends, fuel-for, word_at, set_at}
use Rattle.walk.proofs.Owing.{starts-rule, task-as, task-start, task-fact, task-ground, task-refused, task-follows, task-fresh, task-waits, task-turn, task-next, task-walk-stops, task-walks, task-passes, plan-refused, start-sane, sane-part-by, passed-as, task-height, task-word}
use Rattle.walk.proofs.+justify_walk.Goals.{justify-then-s, justify-else-s}
use Rattle.walk.proofs.+justify_walk.Goals as goal

pub justify-plan_step-s-requires : goal.justify-plan_step-s-requires
justify-plan_step-s-requires t c = record { ready = c.requires.ground.ready; keyed = c.requires.ground.keyed; p_bound = c.requires.p_bound }

pub justify-returns-then-s-ne0 : goal.justify-returns-then-s-ne0
justify-returns-then-s-ne0 t c = record { does = plan-refused c.args.job.now c.args.strict c.args.found.now c.args.globals.now c.args.unions.now c.args.p c.requires.ground c.plan_step-s.ensures c.if-s-ne0.true; high = λ u. absurd (c.if-s-ne0.true u); loans = (refl, refl, refl, refl) }

pub justify-fact_state-state-requires : goal.justify-fact_state-state-requires
justify-fact_state-state-requires t c = record { ready = c.requires.ground.ready; searched = c.requires.ground.searched; r_bound = (c.plan_step-s.ensures.goes c.if-s-ne0.false).inside c.if-s.true; count_in_bounds = facts-count (planned-by c.args.job.now c.args.p c.plan_step-s.result.r c.plan_step-s.result.first c.plan_step-s.result.second c.plan_step-s.result.count c.if-s.true (c.plan_step-s.ensures.goes c.if-s-ne0.false)) refl }

pub justify-reference-next-requires : goal.justify-reference-next-requires
justify-reference-next-requires t c = record { ready = c.requires.ground.ready; p_bound = c.requires.p_bound; planned = (c.plan_step-s.ensures.goes c.if-s-ne0.false); i_lt_count = task-turn c.args.job.now c.args.strict c.args.found.now c.args.globals.now c.args.unions.now c.args.p c.plan_step-s.result.rule c.plan_step-s.result.r c.plan_step-s.result.first c.plan_step-s.result.second c.plan_step-s.result.count (c.plan_step-s.ensures.goes c.if-s-ne0.false) c.loop-i.invariant.0 c.if-state-eq1.true }

pub justify-overflow_add-cells : goal.justify-overflow_add-cells
justify-overflow_add-cells t c = let k = (task-next c.args.job.now c.args.strict c.args.found.now c.args.globals.now c.args.unions.now c.args.p c.plan_step-s.result.rule c.plan_step-s.result.r c.plan_step-s.result.first c.plan_step-s.result.second c.plan_step-s.result.count (c.plan_step-s.ensures.goes c.if-s-ne0.false) c.loop-i.invariant.0 c.if-state-eq1.true).indexed.stored.formed.few in omega arith

pub justify-overflow_add-cells-then-state-eq1 : goal.justify-overflow_add-cells-then-state-eq1
justify-overflow_add-cells-then-state-eq1 t c = let k = (task-next c.args.job.now c.args.strict c.args.found.now c.args.globals.now c.args.unions.now c.args.p c.plan_step-s.result.rule c.plan_step-s.result.r c.plan_step-s.result.first c.plan_step-s.result.second c.plan_step-s.result.count (c.plan_step-s.ensures.goes c.if-s-ne0.false) c.loop-i.invariant.0 c.if-state-eq1.true).indexed.stored.formed.few in let l = (c.plan_step-s.ensures.goes c.if-s-ne0.false).lower c.loop-i.i (task-turn c.args.job.now c.args.strict c.args.found.now c.args.globals.now c.args.unions.now c.args.p c.plan_step-s.result.rule c.plan_step-s.result.r c.plan_step-s.result.first c.plan_step-s.result.second c.plan_step-s.result.count (c.plan_step-s.ensures.goes c.if-s-ne0.false) c.loop-i.invariant.0 c.if-state-eq1.true) in let h = c.requires.p_bound in let j = c.requires.ground.ready.held.limits.proofs in omega arith

pub justify-height_noted-noted-requires : goal.justify-height_noted-noted-requires
justify-height_noted-noted-requires t c = let g = (task-next c.args.job.now c.args.strict c.args.found.now c.args.globals.now c.args.unions.now c.args.p c.plan_step-s.result.rule c.plan_step-s.result.r c.plan_step-s.result.first c.plan_step-s.result.second c.plan_step-s.result.count (c.plan_step-s.ensures.goes c.if-s-ne0.false) c.loop-i.invariant.0 c.if-state-eq1.true).long in let k = (task-next c.args.job.now c.args.strict c.args.found.now c.args.globals.now c.args.unions.now c.args.p c.plan_step-s.result.rule c.plan_step-s.result.r c.plan_step-s.result.first c.plan_step-s.result.second c.plan_step-s.result.count (c.plan_step-s.ensures.goes c.if-s-ne0.false) c.loop-i.invariant.0 c.if-state-eq1.true).indexed.stored.formed.few in let l = (c.plan_step-s.ensures.goes c.if-s-ne0.false).lower c.loop-i.i (task-turn c.args.job.now c.args.strict c.args.found.now c.args.globals.now c.args.unions.now c.args.p c.plan_step-s.result.rule c.plan_step-s.result.r c.plan_step-s.result.first c.plan_step-s.result.second c.plan_step-s.result.count (c.plan_step-s.ensures.goes c.if-s-ne0.false) c.loop-i.invariant.0 c.if-state-eq1.true) in let h = c.requires.p_bound in let j = c.requires.ground.ready.held.limits.proofs in omega arith

pub justify-loop-i-smaller-then-s-2 : goal.justify-loop-i-smaller-then-s-2
justify-loop-i-smaller-then-s-2 t c = let x = c.loop-i-test.true in let s = c.if-state-eq1.true in omega arith

pub justify-loop-i-init : goal.justify-loop-i-init
justify-loop-i-init t c = (elim c.if-s.branch [ justify-then-s w ↦ task-as c.args.job.now c.args.strict c.args.found.now c.args.globals.now c.args.unions.now c.args.p c.plan_step-s.result.rule c.plan_step-s.result.r c.plan_step-s.result.first c.plan_step-s.result.second c.plan_step-s.result.count (c.plan_step-s.ensures.goes c.if-s-ne0.false) w.state-is (task-fact c.args.job.now c.args.strict c.args.found.now c.args.globals.now c.args.unions.now c.args.p c.plan_step-s.result.rule c.plan_step-s.result.r c.plan_step-s.result.first c.plan_step-s.result.second c.plan_step-s.result.count (c.plan_step-s.ensures.goes c.if-s-ne0.false) (task-start c.args.job.now c.args.strict c.args.found.now c.args.globals.now c.args.unions.now c.args.p c.plan_step-s.result.rule c.plan_step-s.result.r c.plan_step-s.result.first c.plan_step-s.result.second c.plan_step-s.result.count (c.plan_step-s.ensures.goes c.if-s-ne0.false) c.requires.ground (λ u. start-sane c.args.job.now c.args.p c.requires.ground c.requires.p_bound u (c.plan_step-s.ensures.goes c.if-s-ne0.false)) refl (starts-rule c.args.job.now c.args.strict c.args.found.now c.args.globals.now c.args.unions.now c.args.p c.plan_step-s.result.rule c.plan_step-s.result.r c.plan_step-s.result.first c.plan_step-s.result.second c.plan_step-s.result.count (c.plan_step-s.ensures.goes c.if-s-ne0.false) w.if-s.true)) w.if-s.true w.fact_state-state.ensures) | justify-else-s w ↦ task-as c.args.job.now c.args.strict c.args.found.now c.args.globals.now c.args.unions.now c.args.p c.plan_step-s.result.rule c.plan_step-s.result.r c.plan_step-s.result.first c.plan_step-s.result.second c.plan_step-s.result.count (c.plan_step-s.ensures.goes c.if-s-ne0.false) w.state-is (task-start c.args.job.now c.args.strict c.args.found.now c.args.globals.now c.args.unions.now c.args.p c.plan_step-s.result.rule c.plan_step-s.result.r c.plan_step-s.result.first c.plan_step-s.result.second c.plan_step-s.result.count (c.plan_step-s.ensures.goes c.if-s-ne0.false) c.requires.ground (λ u. start-sane c.args.job.now c.args.p c.requires.ground c.requires.p_bound u (c.plan_step-s.ensures.goes c.if-s-ne0.false)) refl c.state_at-state.ensures) ], (refl, refl, refl, refl))

pub justify-loop-i-preserved-then-s-2 : goal.justify-loop-i-preserved-then-s-2
justify-loop-i-preserved-then-s-2 t c = (let l = (c.plan_step-s.ensures.goes c.if-s-ne0.false).lower c.loop-i.i (task-turn c.args.job.now c.args.strict c.args.found.now c.args.globals.now c.args.unions.now c.args.p c.plan_step-s.result.rule c.plan_step-s.result.r c.plan_step-s.result.first c.plan_step-s.result.second c.plan_step-s.result.count (c.plan_step-s.ensures.goes c.if-s-ne0.false) c.loop-i.invariant.0 c.if-state-eq1.true) in let h = c.requires.p_bound in let known = walk-known c.args.job.now c.args.strict c.args.found.now c.args.globals.now c.args.unions.now c.reference-next.result (task-next c.args.job.now c.args.strict c.args.found.now c.args.globals.now c.args.unions.now c.args.p c.plan_step-s.result.rule c.plan_step-s.result.r c.plan_step-s.result.first c.plan_step-s.result.second c.plan_step-s.result.count (c.plan_step-s.ensures.goes c.if-s-ne0.false) c.loop-i.invariant.0 c.if-state-eq1.true) (omega arith) (word_at c.loop-i.scratch (length c.loop-i.store.kinds.now) c.wide.ensures c.height_noted-noted.ensures) c.if-noted-ne0.true in task-walks c.args.job.now c.args.strict c.args.found.now c.args.globals.now c.args.unions.now c.args.p c.plan_step-s.result.rule c.plan_step-s.result.r c.plan_step-s.result.first c.plan_step-s.result.second c.plan_step-s.result.count (c.plan_step-s.ensures.goes c.if-s-ne0.false) c.loop-i.invariant.0 c.if-state-eq1.true (λ room ps x h. fuel-for c.requires.ground.ready (context_of c.args.globals.now ps) c.args.strict room x c.args.p h) c.reference-next.ensures known.0 known.1 c.greater-most.ensures refl refl refl c.loop-i.invariant.0.grown c.if-s-2.true, c.loop-i.invariant.1)

pub justify-overflow_add-i : goal.justify-overflow_add-i
justify-overflow_add-i t c = let x = c.loop-i-test.true in let f = (c.plan_step-s.ensures.goes c.if-s-ne0.false).few in omega arith

pub justify-loop-i-smaller-then-noted-ne0 : goal.justify-loop-i-smaller-then-noted-ne0
justify-loop-i-smaller-then-noted-ne0 t c = let x = c.loop-i-test.true in let s = c.if-state-eq1.true in let f = c.state_at-state-then-noted-ne0.ensures.few in omega arith

pub justify-loop-i-preserved-then-noted-ne0 : goal.justify-loop-i-preserved-then-noted-ne0
justify-loop-i-preserved-then-noted-ne0 t c = (let l = (c.plan_step-s.ensures.goes c.if-s-ne0.false).lower c.loop-i.i (task-turn c.args.job.now c.args.strict c.args.found.now c.args.globals.now c.args.unions.now c.args.p c.plan_step-s.result.rule c.plan_step-s.result.r c.plan_step-s.result.first c.plan_step-s.result.second c.plan_step-s.result.count (c.plan_step-s.ensures.goes c.if-s-ne0.false) c.loop-i.invariant.0 c.if-state-eq1.true) in let h = c.requires.p_bound in let known = walk-known c.args.job.now c.args.strict c.args.found.now c.args.globals.now c.args.unions.now c.reference-next.result (task-next c.args.job.now c.args.strict c.args.found.now c.args.globals.now c.args.unions.now c.args.p c.plan_step-s.result.rule c.plan_step-s.result.r c.plan_step-s.result.first c.plan_step-s.result.second c.plan_step-s.result.count (c.plan_step-s.ensures.goes c.if-s-ne0.false) c.loop-i.invariant.0 c.if-state-eq1.true) (omega arith) (word_at c.loop-i.scratch (length c.loop-i.store.kinds.now) c.wide.ensures c.height_noted-noted.ensures) c.if-noted-ne0.true in task-passes c.args.job.now c.args.strict c.args.found.now c.args.globals.now c.args.unions.now c.args.p c.plan_step-s.result.rule c.plan_step-s.result.r c.plan_step-s.result.first c.plan_step-s.result.second c.plan_step-s.result.count (c.plan_step-s.ensures.goes c.if-s-ne0.false) c.loop-i.invariant.0 c.if-state-eq1.true (λ room ps x h. fuel-for c.requires.ground.ready (context_of c.args.globals.now ps) c.args.strict room x c.args.p h) c.reference-next.ensures known.0 known.1 c.greater-most.ensures refl refl refl c.loop-i.invariant.0.grown c.if-s-2.false c.state_at-state-then-noted-ne0.ensures, c.loop-i.invariant.1)

pub justify-shape_of-memo-then-w-ne0 : goal.justify-shape_of-memo-then-w-ne0
justify-shape_of-memo-then-w-ne0 t c = c.walk-w.auto.memo ∙ c.loop-i.invariant.0.len_memo

pub justify-shape_of-scratch-then-w-ne0 : goal.justify-shape_of-scratch-then-w-ne0
justify-shape_of-scratch-then-w-ne0 t c = c.walk-w.auto.scratch ∙ c.loop-i.invariant.0.len_w

pub justify-returns-then-w-ne0 : goal.justify-returns-then-w-ne0
justify-returns-then-w-ne0 t c = record { does = task-walk-stops c.args.job.now c.args.strict c.args.found.now c.args.globals.now c.args.unions.now c.args.p c.plan_step-s.result.rule c.plan_step-s.result.r c.plan_step-s.result.first c.plan_step-s.result.second c.plan_step-s.result.count (c.plan_step-s.ensures.goes c.if-s-ne0.false) c.loop-i.invariant.0 c.if-state-eq1.true (λ room ps x h. fuel-for c.requires.ground.ready (context_of c.args.globals.now ps) c.args.strict room x c.args.p h) c.reference-next.ensures c.walk-w.ensures.does c.if-w-ne0.true; high = λ u. absurd (c.if-w-ne0.true u); loans = let v = c.walk-w.ensures.loans in let w = c.loop-i.invariant.1 in (v.0 ∙ w.0, v.1 ∙ w.1, v.2 ∙ w.2, v.3 ∙ w.3) }

pub justify-loop-i-smaller-then-s-3 : goal.justify-loop-i-smaller-then-s-3
justify-loop-i-smaller-then-s-3 t c = let x = c.loop-i-test.true in let s = c.if-state-eq1.true in omega arith

pub justify-loop-i-preserved-then-s-3 : goal.justify-loop-i-preserved-then-s-3
justify-loop-i-preserved-then-s-3 t c = (task-walks c.args.job.now c.args.strict c.args.found.now c.args.globals.now c.args.unions.now c.args.p c.plan_step-s.result.rule c.plan_step-s.result.r c.plan_step-s.result.first c.plan_step-s.result.second c.plan_step-s.result.count (c.plan_step-s.ensures.goes c.if-s-ne0.false) c.loop-i.invariant.0 c.if-state-eq1.true (λ room ps x h. fuel-for c.requires.ground.ready (context_of c.args.globals.now ps) c.args.strict room x c.args.p h) c.reference-next.ensures c.walk-w.ensures.does (c.walk-w.ensures.high c.if-w-ne0.false) c.greater-most-then-state-eq1.ensures c.if-w-ne0.false c.walk-w.auto.memo c.walk-w.auto.scratch (grown-then c.loop-i.invariant.0.grown c.walk-w.ensures.does.grown) c.if-s-3.true, let v = c.walk-w.ensures.loans in let w = c.loop-i.invariant.1 in (v.0 ∙ w.0, v.1 ∙ w.1, v.2 ∙ w.2, v.3 ∙ w.3))

pub justify-overflow_add-i-then-state-eq1 : goal.justify-overflow_add-i-then-state-eq1
justify-overflow_add-i-then-state-eq1 t c = let x = c.loop-i-test.true in let f = (c.plan_step-s.ensures.goes c.if-s-ne0.false).few in omega arith

pub justify-loop-i-smaller-then-state-eq1 : goal.justify-loop-i-smaller-then-state-eq1
justify-loop-i-smaller-then-state-eq1 t c = let x = c.loop-i-test.true in let s = c.if-state-eq1.true in let f = c.state_at-state-then-state-eq1.ensures.few in omega arith

pub justify-loop-i-preserved-then-state-eq1 : goal.justify-loop-i-preserved-then-state-eq1
justify-loop-i-preserved-then-state-eq1 t c = (task-passes c.args.job.now c.args.strict c.args.found.now c.args.globals.now c.args.unions.now c.args.p c.plan_step-s.result.rule c.plan_step-s.result.r c.plan_step-s.result.first c.plan_step-s.result.second c.plan_step-s.result.count (c.plan_step-s.ensures.goes c.if-s-ne0.false) c.loop-i.invariant.0 c.if-state-eq1.true (λ room ps x h. fuel-for c.requires.ground.ready (context_of c.args.globals.now ps) c.args.strict room x c.args.p h) c.reference-next.ensures c.walk-w.ensures.does (c.walk-w.ensures.high c.if-w-ne0.false) c.greater-most-then-state-eq1.ensures c.if-w-ne0.false c.walk-w.auto.memo c.walk-w.auto.scratch (grown-then c.loop-i.invariant.0.grown c.walk-w.ensures.does.grown) c.if-s-3.false c.state_at-state-then-state-eq1.ensures, let v = c.walk-w.ensures.loans in let w = c.loop-i.invariant.1 in (v.0 ∙ w.0, v.1 ∙ w.1, v.2 ∙ w.2, v.3 ∙ w.3))

pub justify-offset_bounds-bound-at : goal.justify-offset_bounds-bound-at
justify-offset_bounds-bound-at t c = let t = c.loop-i.invariant.0.low in omega arith

pub justify-slice_bounds-advance-count : goal.justify-slice_bounds-advance-count
justify-slice_bounds-advance-count t c = let t = c.loop-i.invariant.0.low in omega arith

pub justify-slice_bounds-advance-start : goal.justify-slice_bounds-advance-start
justify-slice_bounds-advance-start t c = let t = c.loop-i.invariant.0.low in omega arith

pub justify-advance-c-requires : goal.justify-advance-c-requires
justify-advance-c-requires t c = let t = c.loop-i.invariant.0 in let f = t.free c.loop-i-test.true in record { ground = task-ground c.args.job.now c.args.strict c.args.found.now c.args.globals.now c.args.unions.now c.args.p c.plan_step-s.result.rule c.plan_step-s.result.r c.plan_step-s.result.first c.plan_step-s.result.second c.plan_step-s.result.count (c.plan_step-s.ensures.goes c.if-s-ne0.false) c.loop-i.invariant.0 c.loop-i-test.true c.if-state-eq1.false; p_bound = c.requires.p_bound; planned = (c.plan_step-s.ensures.goes c.if-s-ne0.false); sane = (λ u. sane-part-by c.args.job.now c.args.p c.args.globals.now c.plan_step-s.result.rule (part-is c.loop-i.bound c.loop-i.at c.loop-i.invariant.0.full) (t.sane u c.loop-i-test.true)); bound_len_bound = simp (length-take, length-drop) (omega arith); i_le_count = c.loop-i-test.true; count_le_i = λ u. t.ends u c.if-state-eq1.false }

pub justify-shape_of-memo-then-c-ne0 : goal.justify-shape_of-memo-then-c-ne0
justify-shape_of-memo-then-c-ne0 t c = c.advance-c.auto.memo ∙ c.loop-i.invariant.0.len_memo

pub justify-shape_of-scratch-then-c-ne0 : goal.justify-shape_of-scratch-then-c-ne0
justify-shape_of-scratch-then-c-ne0 t c = c.advance-c.auto.scratch ∙ c.loop-i.invariant.0.len_w

pub justify-returns-then-c-ne0 : goal.justify-returns-then-c-ne0
justify-returns-then-c-ne0 t c = record { does = task-refused c.args.job.now c.args.strict c.args.found.now c.args.globals.now c.args.unions.now c.args.p c.plan_step-s.result.rule c.plan_step-s.result.r c.plan_step-s.result.first c.plan_step-s.result.second c.plan_step-s.result.count (c.plan_step-s.ensures.goes c.if-s-ne0.false) c.loop-i.invariant.0 c.loop-i-test.true c.if-state-eq1.false c.advance-c.result (part-is c.loop-i.bound c.loop-i.at c.loop-i.invariant.0.full) c.advance-c.ensures.does c.if-c-ne0.true; high = λ u. absurd (c.if-c-ne0.true u); loans = let v = c.advance-c.ensures.loans in let w = c.loop-i.invariant.1 in (v.0 ∙ w.0, v.1 ∙ w.1, v.2 ∙ w.2, v.3 ∙ w.3) }

pub justify-slice_bounds-push_binding-end : goal.justify-slice_bounds-push_binding-end
justify-slice_bounds-push_binding-end t c = sym c.loop-i.invariant.0.full

pub justify-push_binding-at-requires : goal.justify-push_binding-at-requires
justify-push_binding-at-requires t c = let t = c.loop-i.invariant.0 in let f = t.free c.loop-i-test.true in let l = t.low in let h = t.full in record { le_at = omega arith; at_in_bounds = omega arith }

pub justify-turn_after-i-requires : goal.justify-turn_after-i-requires
justify-turn_after-i-requires t c = let x = c.loop-i-test.true in let f = (c.plan_step-s.ensures.goes c.if-s-ne0.false).few in record { i_le_count = x; count_bound = f }

pub justify-fact_state-state-requires-then-s-4 : goal.justify-fact_state-state-requires-then-s-4
justify-fact_state-state-requires-then-s-4 t c = record { ready = c.requires.ground.ready; searched = c.requires.ground.searched; r_bound = (c.plan_step-s.ensures.goes c.if-s-ne0.false).inside c.if-s-4.true; count_in_bounds = facts-count (planned-by c.args.job.now c.args.p c.plan_step-s.result.r c.plan_step-s.result.first c.plan_step-s.result.second c.plan_step-s.result.count c.if-s-4.true (c.plan_step-s.ensures.goes c.if-s-ne0.false)) refl }

pub justify-loop-i-smaller-then-s-4 : goal.justify-loop-i-smaller-then-s-4
justify-loop-i-smaller-then-s-4 t c = let x = c.loop-i-test.true in let f = c.loop-i.invariant.0.few in let s = c.fact_state-state-then-s-4.ensures.few in let m = c.turn_after-i.ensures.least in omega arith

pub justify-loop-i-preserved-then-s-4 : goal.justify-loop-i-preserved-then-s-4
justify-loop-i-preserved-then-s-4 t c = (task-fact c.args.job.now c.args.strict c.args.found.now c.args.globals.now c.args.unions.now c.args.p c.plan_step-s.result.rule c.plan_step-s.result.r c.plan_step-s.result.first c.plan_step-s.result.second c.plan_step-s.result.count (c.plan_step-s.ensures.goes c.if-s-ne0.false) (task-follows c.args.job.now c.args.strict c.args.found.now c.args.globals.now c.args.unions.now c.args.p c.plan_step-s.result.rule c.plan_step-s.result.r c.plan_step-s.result.first c.plan_step-s.result.second c.plan_step-s.result.count (c.plan_step-s.ensures.goes c.if-s-ne0.false) c.loop-i.invariant.0 c.loop-i-test.true c.if-state-eq1.false c.advance-c.result (part-is c.loop-i.bound c.loop-i.at c.loop-i.invariant.0.full) c.advance-c.ensures.does c.push_binding-at.ensures c.effect_of.ensures c.if-c-ne0.false c.if-c.true c.turn_after-i.ensures c.push_binding-at.auto.table c.advance-c.auto.memo c.advance-c.auto.scratch (grown-then c.loop-i.invariant.0.grown c.advance-c.ensures.does.walks.grown)) c.if-s-4.true c.fact_state-state-then-s-4.ensures, let v = c.advance-c.ensures.loans in let w = c.loop-i.invariant.1 in (v.0 ∙ w.0, v.1 ∙ w.1, v.2 ∙ w.2, v.3 ∙ w.3))

pub justify-loop-i-smaller-else-s-4 : goal.justify-loop-i-smaller-else-s-4
justify-loop-i-smaller-else-s-4 t c = let x = c.loop-i-test.true in let f = c.loop-i.invariant.0.few in let m = c.turn_after-i.ensures.least in omega arith

pub justify-loop-i-preserved-else-s-4 : goal.justify-loop-i-preserved-else-s-4
justify-loop-i-preserved-else-s-4 t c = (task-follows c.args.job.now c.args.strict c.args.found.now c.args.globals.now c.args.unions.now c.args.p c.plan_step-s.result.rule c.plan_step-s.result.r c.plan_step-s.result.first c.plan_step-s.result.second c.plan_step-s.result.count (c.plan_step-s.ensures.goes c.if-s-ne0.false) c.loop-i.invariant.0 c.loop-i-test.true c.if-state-eq1.false c.advance-c.result (part-is c.loop-i.bound c.loop-i.at c.loop-i.invariant.0.full) c.advance-c.ensures.does c.push_binding-at.ensures c.effect_of.ensures c.if-c-ne0.false c.if-c.true c.turn_after-i.ensures c.push_binding-at.auto.table c.advance-c.auto.memo c.advance-c.auto.scratch (grown-then c.loop-i.invariant.0.grown c.advance-c.ensures.does.walks.grown), let v = c.advance-c.ensures.loans in let w = c.loop-i.invariant.1 in (v.0 ∙ w.0, v.1 ∙ w.1, v.2 ∙ w.2, v.3 ∙ w.3))

pub justify-loop-i-smaller : goal.justify-loop-i-smaller
justify-loop-i-smaller t c = let x = c.loop-i-test.true in let b = task-fresh c.args.job.now c.args.strict c.args.found.now c.args.globals.now c.args.unions.now c.args.p c.plan_step-s.result.rule c.plan_step-s.result.r c.plan_step-s.result.first c.plan_step-s.result.second c.plan_step-s.result.count (c.plan_step-s.ensures.goes c.if-s-ne0.false) c.loop-i.invariant.0 c.loop-i-test.true c.if-state-eq1.false c.advance-c.result (part-is c.loop-i.bound c.loop-i.at c.loop-i.invariant.0.full) c.advance-c.ensures.does c.if-c-ne0.false c.if-c.false in omega arith

pub justify-loop-i-preserved : goal.justify-loop-i-preserved
justify-loop-i-preserved t c = (task-waits c.args.job.now c.args.strict c.args.found.now c.args.globals.now c.args.unions.now c.args.p c.plan_step-s.result.rule c.plan_step-s.result.r c.plan_step-s.result.first c.plan_step-s.result.second c.plan_step-s.result.count (c.plan_step-s.ensures.goes c.if-s-ne0.false) c.loop-i.invariant.0 c.loop-i-test.true c.if-state-eq1.false c.advance-c.result (part-is c.loop-i.bound c.loop-i.at c.loop-i.invariant.0.full) c.advance-c.ensures.does c.if-c-ne0.false c.if-c.false c.advance-c.auto.memo c.advance-c.auto.scratch (grown-then c.loop-i.invariant.0.grown c.advance-c.ensures.does.walks.grown), let v = c.advance-c.ensures.loans in let w = c.loop-i.invariant.1 in (v.0 ∙ w.0, v.1 ∙ w.1, v.2 ∙ w.2, v.3 ∙ w.3))

pub justify-overflow_add-most : goal.justify-overflow_add-most
justify-overflow_add-most t c = let w = task-word c.args.job.now c.args.strict c.args.found.now c.args.globals.now c.args.unions.now c.args.p c.plan_step-s.result.rule c.plan_step-s.result.r c.plan_step-s.result.first c.plan_step-s.result.second c.plan_step-s.result.count (c.plan_step-s.ensures.goes c.if-s-ne0.false) c.requires.ground.ready c.requires.p_bound c.loop-i.invariant.0 (let u = c.loop-i.invariant.0.upto in let x = c.loop-i-test.false in omega arith) in omega arith

pub justify-shape_of-memo : goal.justify-shape_of-memo
justify-shape_of-memo t c = c.loop-i.invariant.0.len_memo

pub justify-shape_of-scratch : goal.justify-shape_of-scratch
justify-shape_of-scratch t c = c.loop-i.invariant.0.len_w

pub justify-returns : goal.justify-returns
justify-returns t c = record { does = passed-as c.pass.ensures (c.loop-i.invariant.0.ended (let u = c.loop-i.invariant.0.upto in let x = c.loop-i-test.false in omega arith)); high = λ _. ap (λ (x : Checked). x.value) c.pass.ensures ∙ task-height c.args.job.now c.args.strict c.args.found.now c.args.globals.now c.args.unions.now c.args.p c.plan_step-s.result.rule c.plan_step-s.result.r c.plan_step-s.result.first c.plan_step-s.result.second c.plan_step-s.result.count (c.plan_step-s.ensures.goes c.if-s-ne0.false) c.requires.ground.ready c.requires.p_bound c.loop-i.invariant.0 (let u = c.loop-i.invariant.0.upto in let x = c.loop-i-test.false in omega arith); loans = c.loop-i.invariant.1 }

pub walk-overflow_add-at : goal.walk-overflow_add-at
walk-overflow_add-at t c = let k = c.requires.ground.indexed.stored.formed.few in omega arith

pub walk-overflow_add-at-2 : goal.walk-overflow_add-at-2
walk-overflow_add-at-2 t c = let k = c.requires.ground.indexed.stored.formed.few in let h = c.requires.p_bound in let j = c.requires.ground.ready.held.limits.proofs in omega arith

pub walk-shape_of-memo-then-r-ne0 : goal.walk-shape_of-memo-then-r-ne0
walk-shape_of-memo-then-r-ne0 t c = c.justify-r.auto.memo

pub walk-shape_of-scratch-then-r-ne0 : goal.walk-shape_of-scratch-then-r-ne0
walk-shape_of-scratch-then-r-ne0 t c = c.justify-r.auto.scratch

pub walk-returns-then-r-ne0 : goal.walk-returns-then-r-ne0
walk-returns-then-r-ne0 t c = let a = c.args in let pre = c.requires in record { does = walk-stops a.job.now a.strict a.found.now a.globals.now a.unions.now a.p pre.ground pre.p_bound pre.p_value c.justify-r.ensures.does c.if-r-ne0.true; high = λ u. absurd (c.if-r-ne0.true u); loans = c.justify-r.ensures.loans }

pub walk-note_height-requires : goal.walk-note_height-requires
walk-note_height-requires t c = let g = c.requires.ground.long in let h = c.requires.p_bound in let k = c.justify-r.auto.scratch in omega arith

pub walk-shape_of-memo : goal.walk-shape_of-memo
walk-shape_of-memo t c = c.justify-r.auto.memo

pub walk-shape_of-scratch : goal.walk-shape_of-scratch
walk-shape_of-scratch t c = c.note_height.auto.scratch ∙ c.justify-r.auto.scratch

pub walk-returns : goal.walk-returns
walk-returns t c = let a = c.args in let pre = c.requires in record { does = walk_ends a.job.now a.strict a.found.now a.globals.now a.unions.now a.p pre.ground pre.p_bound pre.p_value c.justify-r.ensures.does c.if-r-ne0.false (set_at c.justify-r.new.scratch (length a.store.now.kinds.now) c.justify-r.result.value c.note_height.ensures c.wide.ensures) (c.justify-r.ensures.high c.if-r-ne0.false); high = c.justify-r.ensures.high; loans = c.justify-r.ensures.loans }
