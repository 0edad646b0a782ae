use Rattle.heads.proofs.Lone.{no_run, lone-run}
use Rattle.model.proofs.Tests.{not-false}
use native.Mathlib.Omega.{arith}
use Rattle.std.proofs.lemmas.Bool.{not_from_true}
use Rattle.heads.proofs.lone_run.Goals as goal

pub returns-then-not-marking : goal.returns-then-not-marking
returns-then-not-marking c = no_run

pub returns-then-actions-ne1 : goal.returns-then-actions-ne1
returns-then-actions-ne1 c = no_run

pub action_at-action-requires : goal.action_at-action-requires
action_at-action-requires c = record { ready = c.requires.ready; i_bound = (let l = c.if-actions-ne1.false in let h = c.requires.by_index 0 (omega arith) in omega arith) }

pub returns-in-Let : goal.returns-in-Let
returns-in-Let c = no_run

pub returns-in-Union : goal.returns-in-Union
returns-in-Union c = no_run

pub returns-in-Run : goal.returns-in-Run
returns-in-Run c = lone-run (not-false c.args.marking (not_from_true _ c.if-not-marking.false)) c.if-actions-ne1.false c.wide.ensures c.action_at-action.ensures c.in-Run.is

pub returns-in-Idle : goal.returns-in-Idle
returns-in-Idle c = no_run
