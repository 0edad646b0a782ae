use Rattle.std.proofs.Common.{rules}
use Rattle.counts.proofs.Laws.{checked-value, checked-quotient}
use Rattle.counts.proofs.of_two.Goals as goal

pub returns-in-Sum : goal.returns-in-Sum
returns-in-Sum c = rw c.in-Sum.is (search (rules, checked-value))

pub returns-in-Difference : goal.returns-in-Difference
returns-in-Difference c = rw c.in-Difference.is (search (rules, checked-value))

pub returns-in-Product : goal.returns-in-Product
returns-in-Product c = rw c.in-Product.is (search (rules, checked-value))

pub returns-in-Quotient : goal.returns-in-Quotient
returns-in-Quotient c = rw c.in-Quotient.is (search (rules, checked-quotient))
