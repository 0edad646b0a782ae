use Rattle.program.proofs.Proving.{step_words, substitution-read}
use Rattle.program.proofs.read.substitution_at.Goals as goal

pub rule_pairs-requires : goal.rule_pairs-requires
rule_pairs-requires c = step_words c.requires.ready c.args.p c.requires.p_bound c.requires.p_value c.words_at.ensures

pub returns : goal.returns
returns c = substitution-read c.requires.ready c.args.p c.requires.p_bound c.requires.p_value c.words_at.ensures c.rule_pairs.ensures
