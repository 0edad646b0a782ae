use Rattle.evaluate.specs.Value.{bindings_in}
use Rattle.program.specs.Read.{expr_for}
use Rattle.program.specs.Ready.{program_for}
use Rattle.conditions.proofs.Sides.{bare-passes, bare-evaluated}
use Rattle.conditions.proofs.check_bare_condition.Goals as goal

pub eval_side-requires : goal.eval_side-requires
eval_side-requires c = let p = c.requires in record { ready = p.ready; keyed = p.keyed; indexed = p.indexed; job_in_bounds = p.job_in_bounds; past = p.past; e_bound = p.e_bound }

pub returns-then-strict-clause-does : goal.returns-then-strict-clause-does
returns-then-strict-clause-does c = let a = c.args in bare-evaluated (program_for a.scope.now.job.now) a.scope.now.rule (bindings_in a.scope.now.bound.now a.scope.now.pairs.now a.scope.now.globals.now) a.i (expr_for a.scope.now.job.now a.e) c.eval_side.result c.if-strict.true c.eval_side.ensures.does c.binds_nothing.ensures

pub returns-clause-does : goal.returns-clause-does
returns-clause-does c = let a = c.args in let pre = c.requires in bare-passes (program_for a.scope.now.job.now) a.scope.now.rule (bindings_in a.scope.now.bound.now a.scope.now.pairs.now a.scope.now.globals.now) a.i (expr_for a.scope.now.job.now a.e) c.if-strict.false pre.indexed pre.past
