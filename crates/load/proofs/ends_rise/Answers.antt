use Rattle.load.proofs.Rounds.{rise-no, rise-yes, rise-end}
use native.Mathlib.Omega.{arith}
use mathlib.Core.Path.{sym, ◌∙◌}
use Rattle.load.proofs.ends_rise.Goals as goal

pub returns-then-e-start : goal.returns-then-e-start
returns-then-e-start c = let a = c.args in
    let l = c.loop-end in
    rise-no a.ends.now l.start l.end-index a.pool (omega arith) (omega arith) ∙ sym l.invariant

pub loop-end-preserved : goal.loop-end-preserved
loop-end-preserved c = let a = c.args in
    let l = c.loop-end in
    rw c.wide-e.ensures (l.invariant ∙ rise-yes a.ends.now l.start l.end-index a.pool (omega arith) (omega arith))

pub returns : goal.returns
returns c = let a = c.args in
    let l = c.loop-end in
    rise-end a.ends.now l.start l.end-index a.pool (omega arith) ∙ sym l.invariant
