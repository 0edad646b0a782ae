use Rattle.turns.proofs.Tying.{facts-long}
use lib.ListN.{length}
use Rattle.turns.proofs.Planning.{unknown-plan, uneven-plan, even-plan, rule-none, rule-some, premise-lower}
use Rattle.program.specs.Read.{premises_for, proof_cell}
use native.Mathlib.Omega.{arith}
use Prim.Native.Nat.{ℕ}
use mathlib.Core.Path.{ap, ◌∙◌}
use Rattle.turns.proofs.rule_plan.Goals as goal

pub returns-in_default : goal.returns-in_default
returns-in_default c = let a = c.args in let pre = c.requires in unknown-plan pre.rule_step (rule-none c.rule_of-rule.ensures c.in_default.is)

pub rule_facts_at-facts-requires : goal.rule_facts_at-facts-requires
rule_facts_at-facts-requires c = let pre = c.requires in record { ready = pre.ready; r_bound = c.rule_of-rule.ensures.within c.in-Some.r c.in-Some.is }

pub premises_at-premises-requires : goal.premises_at-premises-requires
premises_at-premises-requires c = let a = c.args in let pre = c.requires in let h = pre.p_bound in record { ready = pre.ready; p_bound = omega arith; p_value = ap (λ (n : ℕ). (proof_cell a.job.now n).kind) c.wide.ensures ∙ pre.rule_step.kind }

pub returns-then-facts-premises : goal.returns-then-facts-premises
returns-then-facts-premises c = let a = c.args in let pre = c.requires in let q = c.premises_at-premises.ensures.is ∙ ap (premises_for a.job.now) c.wide.ensures in uneven-plan pre.rule_step c.in-Some.r (rule-some a.job.now c.rule_of-rule.ensures c.in-Some.is) (facts-long a.job.now c.in-Some.r c.rule_facts_at-facts.ensures.is) (ap length q) c.if-facts-premises.true

pub returns : goal.returns
returns c = let a = c.args in let pre = c.requires in let q = c.premises_at-premises.ensures.is ∙ ap (premises_for a.job.now) c.wide.ensures in even-plan pre.rule_step c.in-Some.r (rule-some a.job.now c.rule_of-rule.ensures c.in-Some.is) (facts-long a.job.now c.in-Some.r c.rule_facts_at-facts.ensures.is) (ap length q) c.if-facts-premises.false (c.rule_of-rule.ensures.within c.in-Some.r c.in-Some.is) c.rule_facts_at-facts.ensures.few (λ j h. premise-lower q (λ k l. let x = c.premises_at-premises.ensures.lower k l in omega arith) j h)
