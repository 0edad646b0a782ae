use Rattle.evaluate.specs.Value.{bindings_in}
use Rattle.program.specs.Ready.{program_for}
use Rattle.conditions.proofs.Sides.{condition-as}
use Rattle.normal_form.proofs.Laws.{fact-by}
use Rattle.conditions.proofs.check_side_condition.Goals as goal

pub check_equality_condition-requires : goal.check_equality_condition-requires
check_equality_condition-requires c = let p = c.requires in let b = c.fact_at-fact.ensures.equal c.in-Equal.l c.in-Equal.r c.in-Equal.is in record { ready = p.ready; keyed = p.keyed; indexed = p.indexed; job_in_bounds = p.job_in_bounds; past = p.past; left_bound = b.0; right_bound = b.1 }

pub check_bare_condition-requires : goal.check_bare_condition-requires
check_bare_condition-requires c = let p = c.requires in record { ready = p.ready; keyed = p.keyed; indexed = p.indexed; job_in_bounds = p.job_in_bounds; past = p.past; e_bound = c.fact_at-fact.ensures.bare c.in-Bare.e c.in-Bare.is }

pub returns-in-Equal-clause-does : goal.returns-in-Equal-clause-does
returns-in-Equal-clause-does c = let a = c.args in condition-as (program_for a.scope.now.job.now) a.scope.now.rule (bindings_in a.scope.now.bound.now a.scope.now.pairs.now a.scope.now.globals.now) a.strict (fact-by c.fact_at-fact.ensures c.wide.ensures c.in-Equal.is) (c.check_equality_condition.ensures.does a.strict)

pub returns-in-Bare-clause-does : goal.returns-in-Bare-clause-does
returns-in-Bare-clause-does c = let a = c.args in condition-as (program_for a.scope.now.job.now) a.scope.now.rule (bindings_in a.scope.now.bound.now a.scope.now.pairs.now a.scope.now.globals.now) a.strict (fact-by c.fact_at-fact.ensures c.wide.ensures c.in-Bare.is) c.check_bare_condition.ensures.does
