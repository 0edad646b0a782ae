use Rattle.normal_form.specs.Search.{offence_in}
use Rattle.normal_form.proofs.Laws.{word_first, word-second}
use Rattle.normal_form.proofs.first_of.Goals as goal

pub returns-then-a-eq0 : goal.returns-then-a-eq0
returns-then-a-eq0 c = let a = c.args in record { says = word-second a.a (offence_in a.b) c.if-a-eq0.true; low = λ n x y. y }

pub returns : goal.returns
returns c = let a = c.args in record { says = word_first a.a (offence_in a.b) c.if-a-eq0.false; low = λ n x y. x }
