use Rattle.answer.proofs.Laws.{wrote-passed}
use Rattle.answer.proofs.write_passed.Goals as goal

pub returns : goal.returns
returns c = let a = c.args in let made = wrote-passed a.answer.now c.requires.answer_len a.terms a.lhs a.rhs a.height c.copy.ensures in record { is = made.0; first = made.1 }
