use mathlib.Core.Path.{ap, ◌∙◌}
use Rattle.std.specs.Prelude.{Some}
use native.Mathlib.Omega.{arith}
use Rattle.normal_form.proofs.Laws.{normal-form}
use Rattle.normal_form.proofs.assert_body_proof_normal_form.Goals as goal

pub fact_offence-requires : goal.fact_offence-requires
fact_offence-requires c = let p = c.requires in record { ready = p.ready; searched = p.searched; i_bound = let h = p.i_bound in omega arith }

pub returns-in_default : goal.returns-in_default
returns-in_default c = let a = c.args in λ s. normal-form a.job.now a.rule s c.fact_offence.ensures c.wide.ensures c.in_default.is

pub returns-in-PrimitiveNonNormalArg : goal.returns-in-PrimitiveNonNormalArg
returns-in-PrimitiveNonNormalArg c = let a = c.args in λ s. normal-form a.job.now a.rule s c.fact_offence.ensures c.wide.ensures (c.in-Some.is ∙ ap Some c.in-PrimitiveNonNormalArg.is)

pub returns-in-ContainerPrimitiveNotSideCondition : goal.returns-in-ContainerPrimitiveNotSideCondition
returns-in-ContainerPrimitiveNotSideCondition c = let a = c.args in λ s. normal-form a.job.now a.rule s c.fact_offence.ensures c.wide.ensures (c.in-Some.is ∙ ap Some c.in-ContainerPrimitiveNotSideCondition.is)
