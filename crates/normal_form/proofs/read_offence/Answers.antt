use mathlib.Core.Path.{sym, ap, ◌∙◌}
use Rattle.normal_form.specs.Search.{offence_in}
use Rattle.normal_form.proofs.Laws.{word_none, word-odd, word_even}
use Rattle.normal_form.proofs.read_offence.Goals as goal

pub returns-then-w-eq0 : goal.returns-then-w-eq0
returns-then-w-eq0 c = word_none ∙ ap offence_in (sym c.if-w-eq0.true)

pub returns-then-w-eq1 : goal.returns-then-w-eq1
returns-then-w-eq1 c = word-odd c.args.w c.if-w-eq0.false c.if-w-eq1.true

pub returns : goal.returns
returns c = word_even c.args.w c.if-w-eq0.false c.if-w-eq1.false
