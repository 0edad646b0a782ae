use native.Mathlib.Omega.{arith}
use Rattle.marks.proofs.Bits.{shift-lt, none-past, mark-read}
use Rattle.marks.proofs.is_marked.Goals as goal

pub returns-then-marks-i : goal.returns-then-marks-i
returns-then-marks-i c = let a = c.args in
    let e = c.wide-i.ensures in none-past a.marks.now a.t (omega arith)

pub overflow_shr-result : goal.overflow_shr-result
overflow_shr-result c = shift-lt c.args.t

pub returns : goal.returns
returns c = let a = c.args in
    mark-read a.marks.now a.t c.wide-i.ensures
