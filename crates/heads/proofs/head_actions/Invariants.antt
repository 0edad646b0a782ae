use Rattle.index.specs.Loans.{SameLoans}
use Rattle.heads.proofs.Heading.{Turn}
use Rattle.evaluate.specs.Value.{bindings_in}
use Rattle.decode.specs.View.{proposition_of}
use Rattle.heads.proofs.head_actions.Given as goal

abbrev pub invariant-loop-action : goal.invariant-loop-action
invariant-loop-action l =
    Turn l.scope.job.now l.scope.found.now l.scope.rule l.scope.pairs.now l.scope.globals.now (proposition_of l.q) l.marking l.actions (bindings_in l.scope.bound.now l.scope.pairs.now l.scope.globals.now) l.initial.store.kinds.now l.initial.store.ends.now l.initial.store.pool.now l.initial.store.index.now l.initial.have l.initial.memo l.initial.marks l.store.kinds.now l.store.ends.now l.store.pool.now l.store.index.now l.have l.memo l.marks l.table l.at l.seen l.kept l.action-index × SameLoans l.initial.store l.store
