use Rattle.turns.proofs.Planning.{plain-plans}
use Rattle.turns.proofs.plan_step.Goals as goal

pub rule_plan-requires : goal.rule_plan-requires
rule_plan-requires c = let pre = c.requires in let o = c.operands-ops.ensures.rule c.if-ops.true in record { ready = pre.ready; keyed = pre.keyed; p_bound = pre.p_bound; rule_step = record { kind = o.0; is = o.1 } }

pub returns : goal.returns
returns c = plain-plans c.operands-ops.ensures c.if-ops.false c.plain_plan.ensures
