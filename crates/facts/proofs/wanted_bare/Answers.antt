use Rattle.evaluate.specs.Value.{bindings_in}
use Rattle.program.specs.Read.{expr_for}
use Rattle.program.specs.Ready.{program_for}
use Rattle.evaluate.proofs.Checking.{checks-value}
use Rattle.facts.proofs.Wants.{bare-asks}
use Rattle.facts.proofs.wanted_bare.Goals as goal

pub evaluate-t-requires : goal.evaluate-t-requires
evaluate-t-requires c = let p = c.requires in record { ready = p.ready; keyed = p.keyed; indexed = p.indexed; e_bound = p.e_bound; job_in_bounds = p.job_in_bounds; past = p.past }

pub returns-clause-does : goal.returns-clause-does
returns-clause-does c = let a = c.args in let pre = c.requires in let prog = program_for a.scope.now.job.now in let σ = bindings_in a.scope.now.bound.now a.scope.now.pairs.now a.scope.now.globals.now in let expr = expr_for a.scope.now.job.now in bare-asks prog a.scope.now.rule σ a.i (expr a.e) c.evaluate-t.result (checks-value c.evaluate-t.ensures.does) c.asks.ensures
