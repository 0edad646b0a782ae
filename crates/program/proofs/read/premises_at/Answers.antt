use Rattle.program.proofs.Proving.{step_words, premises-read}
use Rattle.program.proofs.read.premises_at.Goals as goal

pub rule_premises-requires : goal.rule_premises-requires
rule_premises-requires c = step_words c.requires.ready c.args.p c.requires.p_bound c.requires.p_value c.words_at.ensures

pub returns : goal.returns
returns c = premises-read c.requires.ready c.args.p c.requires.p_bound c.requires.p_value c.words_at.ensures c.rule_premises.ensures
