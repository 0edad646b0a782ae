use native.Mathlib.Omega.{arith}
use Rattle.marks.proofs.Laws.{closed_none, closed-step, closed-bare, closed_all}
use Rattle.marks.proofs.close.Goals as goal

pub loop-i-init : goal.loop-i-init
loop-i-init c = (omega arith, closed_none _ _ _)

pub overflow_sub-i : goal.overflow_sub-i
overflow_sub-i c = (c.is_bare.ensures c.if-is_bare.true).0

pub loop-i-smaller-then-is_bare : goal.loop-i-smaller-then-is_bare
loop-i-smaller-then-is_bare c = let b = (c.is_bare.ensures c.if-is_bare.true).0 in omega arith

pub loop-i-preserved-then-is_bare : goal.loop-i-preserved-then-is_bare
loop-i-preserved-then-is_bare c = (omega arith, closed-bare c.loop-i.invariant.1 (c.is_bare.ensures c.if-is_bare.true))

pub loop-i-preserved : goal.loop-i-preserved
loop-i-preserved c = (omega arith, closed-step c.loop-i.invariant.1 (omega arith) c.close_at.ensures)

pub returns : goal.returns
returns c = closed_all c.loop-i.invariant.1 (omega arith)
