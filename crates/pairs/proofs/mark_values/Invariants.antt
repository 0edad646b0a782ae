use Rattle.pairs.proofs.Laws.{MarkedTo}
use Rattle.pairs.proofs.mark_values.Given as goal

abbrev pub invariant-loop-k : goal.invariant-loop-k
invariant-loop-k l = MarkedTo l.memo l.initial.marks l.k l.marks
