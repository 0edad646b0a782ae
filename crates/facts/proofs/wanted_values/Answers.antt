use Rattle.evaluate.specs.Value.{bindings_in}
use Rattle.program.specs.Read.{expr_for}
use Rattle.program.specs.Ready.{program_for}
use native.Mathlib.Omega.{arith}
use mathlib.Core.Path.{◌∙◌}
use Rattle.evaluate.proofs.Turns.{root-memo, memo-after}
use Rattle.facts.proofs.Wants.{checks-eval, values-refused, values-ask}
use Rattle.facts.proofs.wanted_values.Goals as goal

pub eval-a-requires : goal.eval-a-requires
eval-a-requires c = let p = c.requires in record { ready = p.ready; keyed = p.keyed; indexed = p.indexed; e_bound = p.left_bound; memo = root-memo (let k = c.new_round.auto.memo in let l = p.job_in_bounds in omega arith) c.new_round.ensures }

pub shape_of-memo-then-a-ne0 : goal.shape_of-memo-then-a-ne0
shape_of-memo-then-a-ne0 c = c.eval-a.auto.memo ∙ c.new_round.auto.memo

pub returns-then-a-ne0-clause-does : goal.returns-then-a-ne0-clause-does
returns-then-a-ne0-clause-does c = let a = c.args in let pre = c.requires in let prog = program_for a.scope.now.job.now in let σ = bindings_in a.scope.now.bound.now a.scope.now.pairs.now a.scope.now.globals.now in let expr = expr_for a.scope.now.job.now in values-refused prog a.scope.now.rule σ (expr a.left) (expr a.right) c.eval-a.result (checks-eval a.scope.now.job.now a.scope.now.rule σ c.eval-a.ensures.does) c.if-a-ne0.true c.asks.ensures

pub eval-b-requires : goal.eval-b-requires
eval-b-requires c = let a = c.args in let p = c.requires in record { ready = p.ready; keyed = p.keyed; indexed = c.eval-a.ensures.does.does.grown.indexed; e_bound = p.right_bound; memo = memo-after c.eval-a.ensures.does c.if-a-ne0.false }

pub shape_of-memo : goal.shape_of-memo
shape_of-memo c = c.eval-b.auto.memo ∙ c.eval-a.auto.memo ∙ c.new_round.auto.memo

pub returns-clause-does : goal.returns-clause-does
returns-clause-does c = let a = c.args in let pre = c.requires in let prog = program_for a.scope.now.job.now in let σ = bindings_in a.scope.now.bound.now a.scope.now.pairs.now a.scope.now.globals.now in let expr = expr_for a.scope.now.job.now in values-ask prog a.scope.now.rule σ (expr a.left) (expr a.right) c.eval-a.result (checks-eval a.scope.now.job.now a.scope.now.rule σ c.eval-a.ensures.does) c.eval-b.result c.if-a-ne0.false (checks-eval a.scope.now.job.now a.scope.now.rule σ c.eval-b.ensures.does) c.asks-2.ensures
