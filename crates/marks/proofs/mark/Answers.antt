use native.Mathlib.Omega.{arith}
use Rattle.marks.proofs.Bits.{shift-lt, same-past, mark-written}
use Rattle.marks.proofs.mark.Goals as goal

pub returns-then-marks-i : goal.returns-then-marks-i
returns-then-marks-i c = let a = c.args in
    let e = c.wide-i.ensures in same-past a.marks.now a.t (omega arith)

pub overflow_shl-marks : goal.overflow_shl-marks
overflow_shl-marks c = shift-lt c.args.t

pub returns : goal.returns
returns c = let a = c.args in
    mark-written a.marks.now a.t c.wide-i.ensures
