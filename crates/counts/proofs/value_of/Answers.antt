use mathlib.Core.Path.{sym}
use Rattle.std.proofs.Common.{arith}
use Rattle.counts.proofs.Laws.{given-other}
use Rattle.counts.proofs.value_of.Goals as goal

pub returns-in_default : goal.returns-in_default
returns-in_default c = λ xs g. sym (given-other _ _ xs (omega arith) (omega arith) g)
