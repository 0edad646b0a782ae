use Rattle.std.proofs.Common.{rules}
use Rattle.counts.proofs.Laws.{checked-value}
use Rattle.counts.proofs.of_one.Goals as goal

pub returns-in-Negation : goal.returns-in-Negation
returns-in-Negation c = rw c.in-Negation.is (search (rules, checked-value))
