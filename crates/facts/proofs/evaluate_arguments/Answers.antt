use Rattle.evaluate.specs.Value.{bindings_in}
use Rattle.program.specs.Read.{arguments_for}
use borrow.Author.Rules.{rules}
use mathlib.Core.Path.{refl, ap, ◌∙◌}
use native.Mathlib.Omega.{arith}
use Rattle.facts.proofs.Wants.{arguments-start, arguments-stop, arguments-turn, arguments-done}
use Rattle.facts.proofs.evaluate_arguments.Goals as goal

pub arguments_at-args-requires : goal.arguments_at-args-requires
arguments_at-args-requires c = let p = c.requires in let h = p.e_bound in record { ready = p.ready; e_bound = omega arith }

pub new_round-requires : goal.new_round-requires
new_round-requires c = let p = c.requires in let l = p.job_in_bounds in record { memo_nonzero = omega arith; past = p.past }

pub loop-i-init : goal.loop-i-init
loop-i-init c = let a = c.args in let p = c.requires in (arguments-start a.scope.now.job.now a.scope.now.rule (bindings_in a.scope.now.bound.now a.scope.now.pairs.now a.scope.now.globals.now) (c.arguments_at-args.ensures.is ∙ ap (arguments_for a.scope.now.job.now) c.wide.ensures) p.indexed (let k = c.new_round.auto.memo in let l = p.job_in_bounds in omega arith) c.new_round.ensures, (refl, refl, refl, refl))

pub eval-r-requires : goal.eval-r-requires
eval-r-requires c = let a = c.args in let p = c.requires in let l = c.loop-i in let inv = l.invariant.0 in let x = c.arguments_at-args.ensures.lower l.i (search rules) in let h = p.e_bound in record { ready = p.ready; keyed = p.keyed; indexed = inv.run.grown.indexed; e_bound = omega arith; memo = inv.memo }

pub shape_of-memo-then-r-ne0 : goal.shape_of-memo-then-r-ne0
shape_of-memo-then-r-ne0 c = c.eval-r.auto.memo ∙ c.loop-i.invariant.0.len_m ∙ c.new_round.auto.memo

pub shape_of-values-then-r-ne0 : goal.shape_of-values-then-r-ne0
shape_of-values-then-r-ne0 c = c.loop-i.invariant.0.len_v

pub returns-then-r-ne0-clause-does : goal.returns-then-r-ne0-clause-does
returns-then-r-ne0-clause-does c = let a = c.args in let p = c.requires in arguments-stop a.scope.now.job.now a.scope.now.rule (bindings_in a.scope.now.bound.now a.scope.now.pairs.now a.scope.now.globals.now) c.loop-i.invariant.0 (omega arith) c.eval-r.ensures.does _ c.if-r-ne0.true

pub bounds-values-i : goal.bounds-values-i
bounds-values-i c = let f = c.arguments_at-args.ensures.few in let v = c.loop-i.invariant.0.len_v in let h = c.requires.in_bounds in omega arith

pub loop-i-preserved : goal.loop-i-preserved
loop-i-preserved c = let a = c.args in let p = c.requires in (arguments-turn a.scope.now.job.now a.scope.now.rule (bindings_in a.scope.now.bound.now a.scope.now.pairs.now a.scope.now.globals.now) c.loop-i.invariant.0 (omega arith) c.eval-r.ensures.does (let f = c.arguments_at-args.ensures.few in let v = c.loop-i.invariant.0.len_v in let h = p.in_bounds in omega arith) c.eval-r.auto.memo c.if-r-ne0.false, let v = c.eval-r.ensures.loans in let w = c.loop-i.invariant.1 in (v.0 ∙ w.0, v.1 ∙ w.1, v.2 ∙ w.2, v.3 ∙ w.3))

pub shape_of-memo : goal.shape_of-memo
shape_of-memo c = c.loop-i.invariant.0.len_m ∙ c.new_round.auto.memo

pub shape_of-values : goal.shape_of-values
shape_of-values c = c.loop-i.invariant.0.len_v

pub returns-clause-does : goal.returns-clause-does
returns-clause-does c = let a = c.args in let p = c.requires in arguments-done a.scope.now.job.now a.scope.now.rule (bindings_in a.scope.now.bound.now a.scope.now.pairs.now a.scope.now.globals.now) c.loop-i.invariant.0 (c.arguments_at-args.ensures.is ∙ ap (arguments_for a.scope.now.job.now) c.wide.ensures) (omega arith) c.pass.ensures

pub returns-then-r-ne0-clause-loans : goal.returns-then-r-ne0-clause-loans
returns-then-r-ne0-clause-loans c = let v = c.eval-r.ensures.loans in let w = c.loop-i.invariant.1 in (v.0 ∙ w.0, v.1 ∙ w.1, v.2 ∙ w.2, v.3 ∙ w.3)

pub returns-clause-loans : goal.returns-clause-loans
returns-clause-loans c = c.loop-i.invariant.1
