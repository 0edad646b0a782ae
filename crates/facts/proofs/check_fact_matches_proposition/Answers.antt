use Rattle.evaluate.specs.Value.{bindings_in}
use Rattle.program.specs.Read.{expr_for, fact_for}
use Rattle.program.specs.Ready.{program_for}
use Rattle.decode.specs.View.{proposition_of}
use Rattle.facts.proofs.Wants.{fact-refused, fact-compared}
use Rattle.facts.proofs.check_fact_matches_proposition.Goals as goal

pub returns-then-first-ne0-clause-does : goal.returns-then-first-ne0-clause-does
returns-then-first-ne0-clause-does c = let a = c.args in let pre = c.requires in let prog = program_for a.scope.now.job.now in let σ = bindings_in a.scope.now.bound.now a.scope.now.pairs.now a.scope.now.globals.now in let expr = expr_for a.scope.now.job.now in fact-refused prog a.scope.now.rule σ (fact_for a.scope.now.job.now a.i) (proposition_of a.q) c.wanted-w.result c.wanted-w.ensures.does c.if-first-ne0.true

pub matches-refusal-requires : goal.matches-refusal-requires
matches-refusal-requires c = let p = c.requires in record { ready = p.ready; i_bound = p.i_bound }

pub returns-clause-does : goal.returns-clause-does
returns-clause-does c = let a = c.args in let pre = c.requires in let prog = program_for a.scope.now.job.now in let σ = bindings_in a.scope.now.bound.now a.scope.now.pairs.now a.scope.now.globals.now in let expr = expr_for a.scope.now.job.now in fact-compared prog a.scope.now.rule σ (fact_for a.scope.now.job.now a.i) (proposition_of a.q) c.wanted-w.result c.wanted-w.ensures.does c.if-first-ne0.false c.matches-refusal.ensures
