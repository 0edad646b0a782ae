use Rattle.actions.proofs.Acting.{acts-run}
use Rattle.program.specs.Read.{expr_for}
use Rattle.actions.proofs.act_run.Goals as goal

pub returns-clause-acts : goal.returns-clause-acts
returns-clause-acts c = let a = c.args in acts-run a.scope.now.rule (expr_for a.scope.now.job.now a.e) c.yield_value-r.ensures.yields

pub returns-clause-going : goal.returns-clause-going
returns-clause-going c = let a = c.args in c.yield_value-r.ensures.going
