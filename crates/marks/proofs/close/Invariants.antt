use Prim.Native.Nat.{◌≤◌}
use Rattle.termdag.specs.Store.{terms_in}
use Rattle.marks.proofs.Laws.{ClosedTo}
use Rattle.marks.proofs.close.Given as goal

abbrev pub invariant-loop-i : goal.invariant-loop-i
invariant-loop-i l = (l.i ≤ l.fill.cells) × ClosedTo (terms_in l.store.kinds.now l.store.ends.now l.store.pool.now l.fill) l.fill.cells l.initial.marks l.i l.marks

abbrev pub decreases-loop-i : goal.decreases-loop-i
decreases-loop-i l = l.i
