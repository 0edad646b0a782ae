use Rattle.actions.proofs.Acting.{acts-let}
use Rattle.program.specs.Read.{expr_for}
use Rattle.actions.proofs.act_let.Goals as goal

pub returns-clause-acts : goal.returns-clause-acts
returns-clause-acts c = let a = c.args in acts-let a.scope.now.rule a.name (expr_for a.scope.now.job.now a.e) c.yield_value-r.ensures.yields

pub returns-clause-going : goal.returns-clause-going
returns-clause-going c = let a = c.args in c.yield_value-r.ensures.going
