use Rattle.std.proofs.Common.{arith}
use Rattle.model.specs.Counts.{count_of}
use Rattle.std.proofs.lemmas.Int.{to_z-of_z}
use Rattle.std.proofs.lemmas.Bool.{ne_eqb}
use Rattle.counts.proofs.integer_of.Goals as goal

pub returns-then-l-ne2 : goal.returns-then-l-ne2
unfolding count_of
returns-then-l-ne2 c = rw (ne_eqb _ 2 c.if-l-ne2.true)

pub returns : goal.returns
unfolding count_of
returns c = rw c.if-l-ne2.false (grind (arith, to_z-of_z))
