use lib.ListN.{length, length-take, length-set}
use Rattle.evaluate.specs.Value.{bindings_in}
use Rattle.program.specs.Read.{expr_for, arguments_for}
use Rattle.program.specs.Ready.{program_for}
use Rattle.evaluate.proofs.Turns.{node-for}
use Rattle.model.specs.Fact.{args_of}
use native.Mathlib.Omega.{arith}
use mathlib.Core.Path.{sym, ap, ◌∙◌}
use Rattle.facts.proofs.Wants.{call-unbound, call-refused, call_asks, with-last}
use Rattle.facts.proofs.wanted_call.Goals as goal

pub returns-then-v-ne0-clause-does : goal.returns-then-v-ne0-clause-does
returns-then-v-ne0-clause-does c = let a = c.args in let pre = c.requires in let prog = program_for a.scope.now.job.now in let σ = bindings_in a.scope.now.bound.now a.scope.now.pairs.now a.scope.now.globals.now in let expr = expr_for a.scope.now.job.now in λ right. call-unbound prog a.scope.now.rule σ (expr a.e) right a.function a.variable pre.indexed pre.past c.variable-v.result (c.variable-v.ensures.fill_value, c.variable-v.ensures.s_value) c.if-v-ne0.true c.asks.ensures

pub evaluate_arguments-r-requires : goal.evaluate_arguments-r-requires
evaluate_arguments-r-requires c = let p = c.requires in record { ready = p.ready; keyed = p.keyed; indexed = p.indexed; job_in_bounds = p.job_in_bounds; past = p.past; e_bound = p.e_bound; in_bounds = omega arith }

pub returns-then-r-ne0-clause-does : goal.returns-then-r-ne0-clause-does
returns-then-r-ne0-clause-does c = let a = c.args in let pre = c.requires in let prog = program_for a.scope.now.job.now in let σ = bindings_in a.scope.now.bound.now a.scope.now.pairs.now a.scope.now.globals.now in let expr = expr_for a.scope.now.job.now in λ right. call-refused prog a.scope.now.rule σ (expr a.e) right a.function a.variable pre.indexed pre.past c.variable-v.result (c.variable-v.ensures.fill_value, c.variable-v.ensures.s_value) c.if-v-ne0.false (sym (ap args_of (node-for pre.ready a.e))) c.evaluate_arguments-r.result c.evaluate_arguments-r.ensures.does c.if-r-ne0.true c.asks-then-r-ne0.ensures

pub arguments_at-count-requires : goal.arguments_at-count-requires
arguments_at-count-requires c = let p = c.requires in let h = p.e_bound in record { ready = p.ready; e_bound = omega arith }

pub slice_bounds-values-end : goal.slice_bounds-values-end
slice_bounds-values-end c = let f = c.arguments_at-count.ensures.few in let k = c.evaluate_arguments-r.auto.values in simp length-set (omega arith)

pub slice_bounds-add_app-end : goal.slice_bounds-add_app-end
slice_bounds-add_app-end c = let f = c.arguments_at-count.ensures.few in let k = c.evaluate_arguments-r.auto.values in simp (length-take, length-set) (omega arith)

pub add_app-t-requires : goal.add_app-t-requires
add_app-t-requires c = let f = c.arguments_at-count.ensures.few in record { indexed = c.evaluate_arguments-r.ensures.does.does.grown.indexed; args_len_bound = simp length-take (omega arith) }

pub shape_of-memo : goal.shape_of-memo
shape_of-memo c = c.evaluate_arguments-r.auto.memo

pub returns-clause-does : goal.returns-clause-does
returns-clause-does c = let a = c.args in let pre = c.requires in let prog = program_for a.scope.now.job.now in let σ = bindings_in a.scope.now.bound.now a.scope.now.pairs.now a.scope.now.globals.now in let expr = expr_for a.scope.now.job.now in λ right. call_asks prog a.scope.now.rule σ (expr a.e) right a.function a.variable pre.indexed pre.past c.variable-v.result (c.variable-v.ensures.fill_value, c.variable-v.ensures.s_value) c.if-v-ne0.false (sym (ap args_of (node-for pre.ready a.e))) c.evaluate_arguments-r.result c.evaluate_arguments-r.ensures.does c.add_app-t.result c.if-r-ne0.false (with-last _ _ _ _ (ap length (c.arguments_at-count.ensures.is ∙ ap (arguments_for a.scope.now.job.now) c.wide.ensures)) (let f = c.arguments_at-count.ensures.few in let k = c.evaluate_arguments-r.auto.values in omega arith)) c.add_app-t.ensures.does c.asks-2.ensures
