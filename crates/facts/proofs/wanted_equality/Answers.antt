use Rattle.evaluate.specs.Value.{bindings_in}
use Rattle.program.specs.Read.{expr_for}
use Rattle.program.specs.Ready.{program_for}
use Rattle.facts.proofs.Wants.{equality-asks}
use Rattle.facts.proofs.wanted_equality.Goals as goal

pub wanted_call-requires : goal.wanted_call-requires
wanted_call-requires c = let p = c.requires in record { ready = p.ready; keyed = p.keyed; indexed = p.indexed; job_in_bounds = p.job_in_bounds; past = p.past; e_bound = p.left_bound }

pub returns-in-Some-clause-does : goal.returns-in-Some-clause-does
returns-in-Some-clause-does c = let a = c.args in let pre = c.requires in let prog = program_for a.scope.now.job.now in let σ = bindings_in a.scope.now.bound.now a.scope.now.pairs.now a.scope.now.globals.now in let expr = expr_for a.scope.now.job.now in equality-asks prog a.scope.now.rule σ a.i (expr a.left) (expr a.right) c.function_fact-call.ensures c.in-Some.is (c.wanted_call.ensures.does (expr a.right))

pub returns-in-None-clause-does : goal.returns-in-None-clause-does
returns-in-None-clause-does c = let a = c.args in let pre = c.requires in let prog = program_for a.scope.now.job.now in let σ = bindings_in a.scope.now.bound.now a.scope.now.pairs.now a.scope.now.globals.now in let expr = expr_for a.scope.now.job.now in equality-asks prog a.scope.now.rule σ a.i (expr a.left) (expr a.right) c.function_fact-call.ensures c.in-None.is c.wanted_values.ensures.does
