use Rattle.actions.proofs.Acting.{acts-as, acted-as, acts-idle}
use Rattle.program.specs.Read.{expr_for, action_for}
use native.Mathlib.Omega.{arith}
use mathlib.Core.Path.{ap, ◌∙◌}
use Rattle.actions.proofs.act.Goals as goal

pub action_at-action-requires : goal.action_at-action-requires
action_at-action-requires c = record { ready = c.requires.standing.ready; i_bound = (let h = c.requires.i_bound in omega arith) }

pub act_let-requires : goal.act_let-requires
act_let-requires c = record { standing = c.requires.standing; going_2 = c.requires.going_2; e_bound = c.action_at-action.ensures.bind _ _ c.in-Let.is }

pub act_union-requires : goal.act_union-requires
act_union-requires c = let h = c.action_at-action.ensures.union _ _ c.in-Union.is in record { standing = c.requires.standing; going_2 = c.requires.going_2; left_bound = h.0; right_bound = h.1 }

pub act_run-requires : goal.act_run-requires
act_run-requires c = record { standing = c.requires.standing; going_2 = c.requires.going_2; e_bound = c.action_at-action.ensures.run _ c.in-Run.is }

pub returns-in-Let-clause-acts : goal.returns-in-Let-clause-acts
returns-in-Let-clause-acts c = let a = c.args in acts-as (acted-as (expr_for a.scope.now.job.now) c.in-Let.is (c.action_at-action.ensures.is ∙ ap (action_for a.scope.now.job.now) c.wide.ensures)) c.act_let.ensures.acts

pub returns-in-Let-clause-going : goal.returns-in-Let-clause-going
returns-in-Let-clause-going c = let a = c.args in c.act_let.ensures.going

pub returns-in-Union-clause-acts : goal.returns-in-Union-clause-acts
returns-in-Union-clause-acts c = let a = c.args in acts-as (acted-as (expr_for a.scope.now.job.now) c.in-Union.is (c.action_at-action.ensures.is ∙ ap (action_for a.scope.now.job.now) c.wide.ensures)) c.act_union.ensures.acts

pub returns-in-Union-clause-going : goal.returns-in-Union-clause-going
returns-in-Union-clause-going c = let a = c.args in c.act_union.ensures.going

pub returns-in-Run-clause-acts : goal.returns-in-Run-clause-acts
returns-in-Run-clause-acts c = let a = c.args in acts-as (acted-as (expr_for a.scope.now.job.now) c.in-Run.is (c.action_at-action.ensures.is ∙ ap (action_for a.scope.now.job.now) c.wide.ensures)) c.act_run.ensures.acts

pub returns-in-Run-clause-going : goal.returns-in-Run-clause-going
returns-in-Run-clause-going c = let a = c.args in c.act_run.ensures.going

pub returns-in-Idle-clause-acts : goal.returns-in-Idle-clause-acts
returns-in-Idle-clause-acts c = let a = c.args in acts-as (acted-as (expr_for a.scope.now.job.now) c.in-Idle.is (c.action_at-action.ensures.is ∙ ap (action_for a.scope.now.job.now) c.wide.ensures)) (acts-idle c.requires.standing)

pub returns-in-Idle-clause-going : goal.returns-in-Idle-clause-going
returns-in-Idle-clause-going c = let a = c.args in λ _. c.requires.going_2
