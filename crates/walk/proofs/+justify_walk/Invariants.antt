use Rattle.index.specs.Loans.{SameLoans}
use Prim.Native.Nat.{◌+◌, ◌-◌}
use Rattle.walk.proofs.Owing.{Task}
use Rattle.walk.proofs.+justify_walk.Given as goal

abbrev pub decreases-justify : goal.decreases-justify
decreases-justify l = l.p + l.p

abbrev pub decreases-walk : goal.decreases-walk
decreases-walk l = l.p + l.p + 1

abbrev pub invariant-justify-loop-i : goal.invariant-justify-loop-i
invariant-justify-loop-i l =
    Task l.job l.strict l.found l.globals l.unions l.p l.s.rule l.s.r l.s.first l.s.second l.count l.initial.store.kinds.now l.initial.store.ends.now l.initial.store.pool.now l.initial.store.index.now l.initial.have l.initial.memo l.initial.scratch l.store.kinds.now l.store.ends.now l.store.pool.now l.store.index.now l.have l.memo l.scratch l.bound l.at l.most l.i l.state × SameLoans l.initial.store l.store

abbrev pub decreases-justify-loop-i : goal.decreases-justify-loop-i
decreases-justify-loop-i l = (l.count + 1 - l.i) + (l.count + 1 - l.i) + (l.count + 1 - l.i) - l.state
