use Rattle.answer.proofs.Laws.{wrote-refusal}
use Rattle.answer.proofs.write_refusal.Goals as goal

pub returns : goal.returns
returns c = let a = c.args in let made = wrote-refusal a.answer.now c.requires.answer_len a.r a.terms c.field-a.ensures c.field-b.ensures c.field-c.ensures c.field-d.ensures c.field-e.ensures c.field-f.ensures c.copy.ensures in record { is = made.0; first = made.1 }
