use Rattle.answer.proofs.Laws.{first-at, first_past}
use Rattle.answer.proofs.field.Goals as goal

pub returns-then-i-r : goal.returns-then-i-r
returns-then-i-r c = let a = c.args in first-at a.r.count a.r.fields a.i c.if-i-r.true

pub returns : goal.returns
returns c = let a = c.args in first_past a.r.count a.r.fields a.i c.if-i-r.false
