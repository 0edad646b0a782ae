use Rattle.turns.proofs.Stages.{stage-end, planned-by, sane-by, advances-by}
use Rattle.turns.proofs.Tying.{conclude-grown, step-prepared}
use Rattle.turns.proofs.advance.Goals as goal

pub advance_rule-requires : goal.advance_rule-requires
advance_rule-requires c = record { ground = c.requires.ground; p_bound = c.requires.p_bound; planned = planned-by c.args.job.now c.args.p c.args.r c.args.first c.args.second c.args.count c.if-rule.true c.requires.planned; sane = λ _. sane-by c.args.job.now c.args.p c.args.bound.now c.args.globals.now c.if-rule.true (c.requires.sane c.if-rule.true); bound_len_bound = c.requires.bound_len_bound; i_le_count = c.requires.i_le_count }

pub shape_of-memo-then-rule : goal.shape_of-memo-then-rule
shape_of-memo-then-rule c = c.advance_rule.auto.memo

pub shape_of-scratch-then-rule : goal.shape_of-scratch-then-rule
shape_of-scratch-then-rule c = c.advance_rule.auto.scratch

pub returns-then-rule-clause-does : goal.returns-then-rule-clause-does
returns-then-rule-clause-does c = advances-by c.args.job.now c.args.strict c.args.found.now c.args.globals.now c.args.unions.now c.args.p c.args.r c.args.first c.args.second c.args.count c.args.bound.now c.if-rule.true c.advance_rule.ensures.does

pub conclude-requires : goal.conclude-requires
conclude-requires c = record { prepared = step-prepared c.requires.ground; p_bound = c.requires.p_bound }

pub shape_of-memo : goal.shape_of-memo
shape_of-memo c = c.conclude.auto.memo

pub shape_of-scratch : goal.shape_of-scratch
shape_of-scratch c = c.conclude.auto.scratch

pub returns-clause-does : goal.returns-clause-does
returns-clause-does c = advances-by c.args.job.now c.args.strict c.args.found.now c.args.globals.now c.args.unions.now c.args.p c.args.r c.args.first c.args.second c.args.count c.args.bound.now c.if-rule.false (stage-end c.args.job.now c.args.strict c.args.found.now c.args.globals.now c.args.unions.now c.args.p c.args.r c.args.first c.args.second c.args.count c.args.bound.now c.requires.ground (planned-by c.args.job.now c.args.p c.args.r c.args.first c.args.second c.args.count c.if-rule.false c.requires.planned) (c.requires.count_le_i c.if-rule.false) c.conclude.result c.conclude.ensures.does c.conclude.auto.memo c.conclude.auto.scratch c.over.ensures)
