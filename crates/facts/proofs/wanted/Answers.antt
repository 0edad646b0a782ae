use Rattle.evaluate.specs.Value.{bindings_in}
use Rattle.program.specs.Read.{expr_for}
use Rattle.program.specs.Ready.{program_for}
use Rattle.normal_form.proofs.Laws.{fact-by}
use Rattle.facts.proofs.Wants.{wanted-as}
use Rattle.facts.proofs.wanted.Goals as goal

pub wanted_equality-requires : goal.wanted_equality-requires
wanted_equality-requires c = let p = c.requires in let b = c.fact_at-fact.ensures.equal c.in-Equal.l c.in-Equal.r c.in-Equal.is in record { ready = p.ready; keyed = p.keyed; indexed = p.indexed; job_in_bounds = p.job_in_bounds; past = p.past; left_bound = b.0; right_bound = b.1 }

pub wanted_bare-requires : goal.wanted_bare-requires
wanted_bare-requires c = let p = c.requires in record { ready = p.ready; keyed = p.keyed; indexed = p.indexed; job_in_bounds = p.job_in_bounds; past = p.past; e_bound = c.fact_at-fact.ensures.bare c.in-Bare.e c.in-Bare.is }

pub returns-in-Equal-clause-does : goal.returns-in-Equal-clause-does
returns-in-Equal-clause-does c = let a = c.args in let pre = c.requires in let prog = program_for a.scope.now.job.now in let σ = bindings_in a.scope.now.bound.now a.scope.now.pairs.now a.scope.now.globals.now in let expr = expr_for a.scope.now.job.now in wanted-as prog a.scope.now.rule σ (fact-by c.fact_at-fact.ensures c.wide.ensures c.in-Equal.is) c.wanted_equality.ensures.does

pub returns-in-Bare-clause-does : goal.returns-in-Bare-clause-does
returns-in-Bare-clause-does c = let a = c.args in let pre = c.requires in let prog = program_for a.scope.now.job.now in let σ = bindings_in a.scope.now.bound.now a.scope.now.pairs.now a.scope.now.globals.now in let expr = expr_for a.scope.now.job.now in wanted-as prog a.scope.now.rule σ (fact-by c.fact_at-fact.ensures c.wide.ensures c.in-Bare.is) c.wanted_bare.ensures.does
