use mathlib.Core.Path.{refl}
use mathlib.Core.Path.{sym, ◌∙◌}
use mathlib.Core.List.{[]}
use native.Mathlib.Omega.{arith}
use Rattle.context.proofs.Starting.{start, stops, turns, finishes}
use Rattle.context.proofs.global_actions.Goals as goal

pub globals-count-requires : goal.globals-count-requires
globals-count-requires c = c.requires.standing.ready.held

pub loop-i-init : goal.loop-i-init
loop-i-init c = let a = c.args in let pre = c.requires in (start a.job.now a.found.now pre.standing pre.marks pre.table_len pre.unions_len, (refl, refl, refl, refl))

pub overflow_cast-i : goal.overflow_cast-i
overflow_cast-i c = let w = c.requires.standing.ready.held.limits.globals in let h = c.loop-i-test.true in omega arith

pub global_action-r-requires : goal.global_action-r-requires
global_action-r-requires c = let w = c.requires.standing.ready.held.limits in let h = c.loop-i-test.true in let v = c.loop-i.invariant.0 in let f = w.globals in let g = w.first in let l = v.low in let t = v.table in let b = v.high in let u = v.unions in let n = v.few in record { standing = v.standing; i_bound = omega arith; le_at = omega arith; at_in_bounds = omega arith; n_in_bounds = omega arith; even = v.even }

pub shape_of-memo-then-r-ne0 : goal.shape_of-memo-then-r-ne0
shape_of-memo-then-r-ne0 c = c.global_action-r.auto.memo ∙ c.loop-i.invariant.0.len_memo

pub shape_of-marks-then-r-ne0 : goal.shape_of-marks-then-r-ne0
shape_of-marks-then-r-ne0 c = c.global_action-r.auto.marks ∙ c.loop-i.invariant.0.len_m

pub shape_of-table-then-r-ne0 : goal.shape_of-table-then-r-ne0
shape_of-table-then-r-ne0 c = c.global_action-r.auto.table ∙ c.loop-i.invariant.0.table ∙ sym c.requires.table_len

pub shape_of-unions-then-r-ne0 : goal.shape_of-unions-then-r-ne0
shape_of-unions-then-r-ne0 c = c.global_action-r.auto.unions ∙ c.loop-i.invariant.0.unions ∙ sym c.requires.unions_len

pub returns-then-r-ne0-clause-does : goal.returns-then-r-ne0-clause-does
returns-then-r-ne0-clause-does c = let a = c.args in stops a.job.now a.found.now c.loop-i.invariant.0 (omega (arith, c.loop-i-test.true, c.globals-count.ensures)) c.global_action-r.ensures.does c.requires.standing.ready.held.limits c.if-r-ne0.true

pub loop-i-preserved : goal.loop-i-preserved
loop-i-preserved c = let a = c.args in (turns a.job.now a.found.now c.loop-i.invariant.0 (omega (arith, c.loop-i-test.true, c.globals-count.ensures)) c.global_action-r.ensures.does c.if-r-ne0.false c.global_action-r.auto.memo c.global_action-r.auto.marks c.global_action-r.auto.table c.global_action-r.auto.unions, let v = c.global_action-r.ensures.loans in let w = c.loop-i.invariant.1 in (v.0 ∙ w.0, v.1 ∙ w.1, v.2 ∙ w.2, v.3 ∙ w.3))

pub shape_of-memo : goal.shape_of-memo
shape_of-memo c = c.loop-i.invariant.0.len_memo

pub shape_of-marks : goal.shape_of-marks
shape_of-marks c = c.loop-i.invariant.0.len_m

pub shape_of-table : goal.shape_of-table
shape_of-table c = c.loop-i.invariant.0.table ∙ sym c.requires.table_len

pub shape_of-unions : goal.shape_of-unions
shape_of-unions c = c.loop-i.invariant.0.unions ∙ sym c.requires.unions_len

pub returns-clause-does : goal.returns-clause-does
returns-clause-does c = let a = c.args in finishes a.job.now a.found.now c.loop-i.invariant.0 c.requires.standing.ready.held.limits (omega (arith, c.loop-i-test.false, c.globals-count.ensures))

pub returns-then-r-ne0-clause-loans : goal.returns-then-r-ne0-clause-loans
returns-then-r-ne0-clause-loans c = let v = c.global_action-r.ensures.loans in let w = c.loop-i.invariant.1 in (v.0 ∙ w.0, v.1 ∙ w.1, v.2 ∙ w.2, v.3 ∙ w.3)

pub returns-clause-loans : goal.returns-clause-loans
returns-clause-loans c = c.loop-i.invariant.1
