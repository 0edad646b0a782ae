use native.Mathlib.Omega.{arith}
use mathlib.Core.Bool.{true≢false}
use mathlib.Core.Path.{sym}
use lib.ListN.{get_or-eq_default}
use borrow.Author.Tests.{eqb-true}
use Rattle.marks.proofs.Bits.{bare-word}
use Rattle.marks.proofs.is_bare.Goals as goal

pub returns-then-i-ne0 : goal.returns-then-i-ne0
returns-then-i-ne0 c = λ e. absurd (true≢false (sym e))

pub returns-then-marks-w : goal.returns-then-marks-w
returns-then-marks-w c = let a = c.args in
    λ _. bare-word a.marks.now a.i c.requires (omega arith) (get_or-eq_default a.marks.now 0 (omega arith))

pub returns : goal.returns
returns c = let a = c.args in
    λ e. bare-word a.marks.now a.i c.requires (omega arith) (eqb-true _ _ e)
