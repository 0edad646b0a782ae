use mathlib.Core.Path.{refl, sym, ◌∙◌}
use Rattle.heads.proofs.Heading.{start, stops, turns, finishes, standing-part, going-part, steady-part, acts-part, part-is, copied_at}
use Rattle.decode.specs.View.{proposition_of}
use native.Mathlib.Omega.{arith}
use borrow.Author.Rules.{rules}
use mathlib.Core.List.{[]}
use Rattle.heads.proofs.head_actions.Goals as goal

pub overflow_sub-at : goal.overflow_sub-at
overflow_sub-at c = let h = c.requires.bound_len_bound in omega arith

pub copy-requires : goal.copy-requires
copy-requires c = let h = c.requires.bound_len_bound in omega arith

pub loop-action-init : goal.loop-action-init
loop-action-init c = let a = c.args in let pre = c.requires in let h = pre.bound_len_bound in (start a.scope.now.job.now a.scope.now.found.now a.scope.now.rule a.scope.now.pairs.now a.scope.now.globals.now (proposition_of a.q) a.marking pre.standing pre.actions_len_bound (omega arith) (omega arith) (search rules) (copied_at _ a.scope.now.bound.now _ (omega arith) c.copy.ensures), (refl, refl, refl, refl))

pub process_action-r-requires : goal.process_action-r-requires
process_action-r-requires c = let a = c.args in let pre = c.requires in let t = c.loop-action.invariant.0 in record { standing = standing-part a.scope.now.pairs.now a.scope.now.globals.now (part-is c.loop-action.table c.loop-action.at t.full) t.stand; going_2 = λ u. going-part a.scope.now.pairs.now a.scope.now.globals.now (part-is c.loop-action.table c.loop-action.at t.full) (t.going u); i_bound = pre.by_index c.loop-action.action-index (omega arith) }

pub shape_of-memo-then-r-ne0 : goal.shape_of-memo-then-r-ne0
shape_of-memo-then-r-ne0 c = c.process_action-r.auto.memo ∙ c.loop-action.invariant.0.len_memo

pub shape_of-marks-then-r-ne0 : goal.shape_of-marks-then-r-ne0
shape_of-marks-then-r-ne0 c = c.process_action-r.auto.marks ∙ c.loop-action.invariant.0.len_m

pub returns-then-r-ne0-clause-does : goal.returns-then-r-ne0-clause-does
returns-then-r-ne0-clause-does c = let a = c.args in let t = c.loop-action.invariant.0 in stops a.scope.now.job.now a.scope.now.found.now a.scope.now.rule a.scope.now.pairs.now a.scope.now.globals.now (proposition_of a.q) a.marking t (omega arith) (acts-part a.scope.now.pairs.now a.scope.now.globals.now (part-is c.loop-action.table c.loop-action.at t.full) c.process_action-r.ensures.acts) c.if-r-ne0.true refl

pub slice_bounds-push_binding-end : goal.slice_bounds-push_binding-end
slice_bounds-push_binding-end c = sym c.loop-action.invariant.0.full

pub push_binding-at-requires : goal.push_binding-at-requires
push_binding-at-requires c = let t = c.loop-action.invariant.0 in let f = t.free in let l = t.low in let h = t.full in record { le_at = omega arith; at_in_bounds = omega arith }

pub loop-action-preserved : goal.loop-action-preserved
loop-action-preserved c = let a = c.args in let t = c.loop-action.invariant.0 in (turns a.scope.now.job.now a.scope.now.found.now a.scope.now.rule a.scope.now.pairs.now a.scope.now.globals.now (proposition_of a.q) a.marking t (omega arith) (acts-part a.scope.now.pairs.now a.scope.now.globals.now (part-is c.loop-action.table c.loop-action.at t.full) c.process_action-r.ensures.acts) c.if-r-ne0.false (going-part a.scope.now.pairs.now a.scope.now.globals.now (sym (part-is c.loop-action.table c.loop-action.at t.full)) (c.process_action-r.ensures.going c.if-r-ne0.false)) (λ u. steady-part a.scope.now.pairs.now a.scope.now.globals.now (part-is c.loop-action.table c.loop-action.at t.full) (c.is_steady-kept.ensures u)) c.has_pair-seen.ensures refl c.push_binding-at.ensures c.push_binding-at.auto.table c.process_action-r.auto.memo c.process_action-r.auto.marks, let v = c.process_action-r.ensures.loans in let w = c.loop-action.invariant.1 in (v.0 ∙ w.0, v.1 ∙ w.1, v.2 ∙ w.2, v.3 ∙ w.3))

pub shape_of-memo : goal.shape_of-memo
shape_of-memo c = c.loop-action.invariant.0.len_memo

pub shape_of-marks : goal.shape_of-marks
shape_of-marks c = c.loop-action.invariant.0.len_m

pub returns-clause-does : goal.returns-clause-does
returns-clause-does c = let a = c.args in let pre = c.requires in finishes a.scope.now.job.now a.scope.now.found.now a.scope.now.rule a.scope.now.pairs.now a.scope.now.globals.now (proposition_of a.q) a.marking c.loop-action.invariant.0 (search rules) refl

pub returns-then-r-ne0-clause-loans : goal.returns-then-r-ne0-clause-loans
returns-then-r-ne0-clause-loans c = let v = c.process_action-r.ensures.loans in let w = c.loop-action.invariant.1 in (v.0 ∙ w.0, v.1 ∙ w.1, v.2 ∙ w.2, v.3 ∙ w.3)

pub returns-clause-loans : goal.returns-clause-loans
returns-clause-loans c = c.loop-action.invariant.1
