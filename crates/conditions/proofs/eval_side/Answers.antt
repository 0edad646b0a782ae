use Rattle.evaluate.specs.Value.{bindings_in}
use Rattle.program.specs.Read.{expr_for}
use Rattle.program.specs.Ready.{program_for}
use Rattle.termdag.specs.Store.{terms_in, room_of}
use Rattle.evaluate.proofs.Checking.{checks-here, checks-value}
use Rattle.conditions.proofs.Sides.{side-bound, side-checks}
use Rattle.conditions.proofs.eval_side.Goals as goal

pub returns-in-Some-clause-does : goal.returns-in-Some-clause-does
returns-in-Some-clause-does c = let a = c.args in let pre = c.requires in let prog = program_for a.scope.now.job.now in let σ = bindings_in a.scope.now.bound.now a.scope.now.pairs.now a.scope.now.globals.now in let expr = expr_for a.scope.now.job.now in checks-here pre.indexed pre.past (side-bound (expr a.e) c.variable_of-variable.ensures (room_of a.store.now.kinds.now a.store.now.pool.now) prog a.scope.now.rule σ (terms_in a.store.now.kinds.now a.store.now.ends.now a.store.now.pool.now a.fill) c.in-Some.is c.lookup-value.ensures)

pub evaluate-r-requires : goal.evaluate-r-requires
evaluate-r-requires c = let p = c.requires in record { ready = p.ready; keyed = p.keyed; indexed = p.indexed; e_bound = p.e_bound; job_in_bounds = p.job_in_bounds; past = p.past }

pub returns-clause-does : goal.returns-clause-does
returns-clause-does c = let a = c.args in let pre = c.requires in let prog = program_for a.scope.now.job.now in let σ = bindings_in a.scope.now.bound.now a.scope.now.pairs.now a.scope.now.globals.now in let expr = expr_for a.scope.now.job.now in side-checks (expr a.e) c.variable_of-variable.ensures (room_of a.store.now.kinds.now a.store.now.pool.now) prog a.scope.now.rule σ c.in_default.is (checks-value c.evaluate-r.ensures.does)
