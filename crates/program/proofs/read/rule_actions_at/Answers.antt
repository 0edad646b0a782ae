use Rattle.program.proofs.Reading.{rule-operands, rule-actions-read}
use Rattle.program.proofs.read.rule_actions_at.Goals as goal

pub rule_actions-requires : goal.rule_actions-requires
rule_actions-requires c = rule-operands c.requires.ready c.args.r c.requires.r_bound c.words_at.ensures

pub returns : goal.returns
returns c = rule-actions-read c.requires.ready c.args.r c.requires.r_bound c.words_at.ensures c.rule_actions.ensures
