use Rattle.evaluate.specs.Value.{bindings_in}
use Rattle.program.specs.Read.{expr_for}
use Rattle.program.specs.Ready.{program_for}
use mathlib.Core.Path.{◌∙◌}
use native.Mathlib.Omega.{arith}
use Rattle.conditions.proofs.Sides.{left-refused, right-refused, sides-compared}
use Rattle.conditions.proofs.check_equality_condition.Goals as goal

pub eval_side-a-requires : goal.eval_side-a-requires
eval_side-a-requires c = let p = c.requires in record { ready = p.ready; keyed = p.keyed; indexed = p.indexed; job_in_bounds = p.job_in_bounds; past = p.past; e_bound = p.left_bound }

pub returns-then-a-ne0-clause-does : goal.returns-then-a-ne0-clause-does
returns-then-a-ne0-clause-does c = λ strict. let a = c.args in let pre = c.requires in let prog = program_for a.scope.now.job.now in let σ = bindings_in a.scope.now.bound.now a.scope.now.pairs.now a.scope.now.globals.now in let expr = expr_for a.scope.now.job.now in left-refused prog a.scope.now.rule a.i σ strict (expr a.left) (expr a.right) c.eval_side-a.result c.eval_side-a.ensures.does c.if-a-ne0.true c.binds_nothing.ensures

pub eval_side-b-requires : goal.eval_side-b-requires
eval_side-b-requires c = let p = c.requires in record { ready = p.ready; keyed = p.keyed; indexed = c.eval_side-a.ensures.does.does.grown.indexed; job_in_bounds = let k = c.eval_side-a.auto.fill in let h = p.job_in_bounds in omega arith; past = c.eval_side-a.ensures.does.past c.if-a-ne0.false; e_bound = p.right_bound }

pub shape_of-memo-then-b-ne0 : goal.shape_of-memo-then-b-ne0
shape_of-memo-then-b-ne0 c = c.eval_side-b.auto.memo ∙ c.eval_side-a.auto.memo

pub returns-then-b-ne0-clause-does : goal.returns-then-b-ne0-clause-does
returns-then-b-ne0-clause-does c = λ strict. let a = c.args in let pre = c.requires in let prog = program_for a.scope.now.job.now in let σ = bindings_in a.scope.now.bound.now a.scope.now.pairs.now a.scope.now.globals.now in let expr = expr_for a.scope.now.job.now in right-refused prog a.scope.now.rule a.i σ strict (expr a.left) (expr a.right) c.eval_side-a.result c.eval_side-a.ensures.does c.if-a-ne0.false c.eval_side-b.result c.eval_side-b.ensures.does c.if-b-ne0.true c.binds_nothing-then-b-ne0.ensures

pub variable_of-lv-requires : goal.variable_of-lv-requires
variable_of-lv-requires c = let p = c.requires in record { ready = p.ready; e_bound = p.left_bound }

pub variable_of-rv-requires : goal.variable_of-rv-requires
variable_of-rv-requires c = let p = c.requires in record { ready = p.ready; e_bound = p.right_bound }

pub shape_of-memo : goal.shape_of-memo
shape_of-memo c = c.eval_side-b.auto.memo ∙ c.eval_side-a.auto.memo

pub returns-clause-does : goal.returns-clause-does
returns-clause-does c = λ strict. let a = c.args in let pre = c.requires in let prog = program_for a.scope.now.job.now in let σ = bindings_in a.scope.now.bound.now a.scope.now.pairs.now a.scope.now.globals.now in let expr = expr_for a.scope.now.job.now in sides-compared prog a.scope.now.rule a.i σ strict (expr a.left) (expr a.right) c.eval_side-a.result c.eval_side-a.ensures.does c.if-a-ne0.false c.eval_side-b.result c.eval_side-b.ensures.does c.compare_sides.result c.if-b-ne0.false c.variable_of-lv.ensures c.variable_of-rv.ensures (c.compare_sides.ensures.fill_value, c.compare_sides.ensures.s_value)
