use mathlib.Core.Path.{sym}
use Rattle.counts.proofs.Laws.{no-value}
use Rattle.counts.proofs.count_value.Goals as goal

pub returns-in_err-operation : goal.returns-in_err-operation
returns-in_err-operation c = λ xs g. rw c.from_residual.ensures (sym (no-value _ xs c.in_err-operation.ensures))
