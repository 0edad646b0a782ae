use Rattle.heads.proofs.Heading.{produced-yes, produced-no}
use Rattle.heads.proofs.produced.Goals as goal

pub returns-then-claimed : goal.returns-then-claimed
returns-then-claimed c = let a = c.args in let made = produced-yes a.rule a.q.lhs a.q.rhs c.pass.ensures c.if-claimed.true in record { fill_value = made.0; s_value = made.1 }

pub returns : goal.returns
returns c = let a = c.args in let made = produced-no a.rule a.q.lhs a.q.rhs c.if-claimed.false in record { fill_value = made.0; s_value = made.1 }
