use Rattle.index.specs.Loans.{SameLoans}
use Rattle.context.proofs.Starting.{Through}
use Rattle.context.proofs.global_actions.Given as goal

abbrev pub invariant-loop-i : goal.invariant-loop-i
invariant-loop-i l =
    Through l.job l.found l.initial.store.kinds.now l.initial.store.ends.now l.initial.store.pool.now l.initial.store.index.now l.initial.have l.initial.memo l.initial.marks l.store.kinds.now l.store.ends.now l.store.pool.now l.store.index.now l.have l.memo l.marks l.table l.at l.unions l.n l.i × SameLoans l.initial.store l.store
