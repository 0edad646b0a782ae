use native.Mathlib.Omega.{arith}
use Rattle.program.proofs.Reading.{rule-operands, rule-name-read}
use Rattle.program.proofs.read.rule_name_at.Goals as goal

pub rule_name-requires : goal.rule_name-requires
rule_name-requires c = omega (arith, rule-operands c.requires.ready c.args.r c.requires.r_bound c.words_at.ensures)

pub returns : goal.returns
returns c = rule-name-read c.args.job.now c.args.r c.words_at.ensures c.rule_name.ensures
