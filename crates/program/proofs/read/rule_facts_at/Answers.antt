use Rattle.program.proofs.Reading.{rule-operands, rule-facts-read}
use Rattle.program.proofs.read.rule_facts_at.Goals as goal

pub rule_facts-requires : goal.rule_facts-requires
rule_facts-requires c = rule-operands c.requires.ready c.args.r c.requires.r_bound c.words_at.ensures

pub returns : goal.returns
returns c = rule-facts-read c.requires.ready c.args.r c.requires.r_bound c.words_at.ensures c.rule_facts.ensures
