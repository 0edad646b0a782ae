use Rattle.index.specs.Loans.{SameLoans}
use Rattle.evaluate.specs.Value.{bindings_in}
use Rattle.facts.proofs.Wants.{Turn}
use Rattle.facts.proofs.evaluate_arguments.Given as goal

abbrev pub invariant-loop-i : goal.invariant-loop-i
invariant-loop-i l =
    Turn l.scope.job.now l.scope.rule (bindings_in l.scope.bound.now l.scope.pairs.now l.scope.globals.now) l.e l.args l.initial.store.kinds.now l.initial.store.ends.now l.initial.store.pool.now l.initial.store.index.now l.initial.have l.initial.memo l.initial.values l.store.kinds.now l.store.ends.now l.store.pool.now l.store.index.now l.have l.memo l.values l.i × SameLoans l.initial.store l.store
