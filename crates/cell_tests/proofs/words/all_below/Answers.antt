use mathlib.Core.Path.{sym, ◌∙◌}
use native.Mathlib.Omega.{arith}
use Rattle.cell_tests.proofs.Laws.{below-no, below-yes, below_end}
use Rattle.cell_tests.proofs.words.all_below.Goals as goal

pub returns-then-n-wide : goal.returns-then-n-wide
returns-then-n-wide c = let a = c.args in
    let l = c.loop-w in
    below-no a.n a.ws.now l.w-index (omega arith) (omega arith) ∙ sym l.invariant

pub loop-w-preserved : goal.loop-w-preserved
loop-w-preserved c = let a = c.args in
    let l = c.loop-w in
    l.invariant ∙ below-yes a.n a.ws.now l.w-index (omega arith) (omega arith)

pub returns : goal.returns
returns c = let a = c.args in
    let l = c.loop-w in
    below_end a.n a.ws.now l.w-index (omega arith) ∙ sym l.invariant
