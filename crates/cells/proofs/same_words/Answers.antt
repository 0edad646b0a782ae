use mathlib.Core.Path.{refl, sym, ◌∙◌}
use native.Mathlib.Omega.{arith}
use Rattle.cells.proofs.Laws.{same_length, same-no, same-yes, same_end}
use Rattle.cells.proofs.same_words.Goals as goal

pub returns-then-a-b : goal.returns-then-a-b
returns-then-a-b c = sym (same_length c.args.a.now c.args.b.now c.if-a-b.true)

pub loop-k-init : goal.loop-k-init
loop-k-init c = (omega arith, omega arith, refl)

pub returns-then-a-k : goal.returns-then-a-k
returns-then-a-k c = let i = c.loop-k.invariant in sym (i.2 ∙ same-no c.args.a.now c.args.b.now c.loop-k.k (omega arith) (omega arith) c.if-a-k.true)

pub loop-k-preserved : goal.loop-k-preserved
loop-k-preserved c = let i = c.loop-k.invariant in (omega arith, omega arith, i.2 ∙ same-yes c.args.a.now c.args.b.now c.loop-k.k (omega arith) (omega arith) c.if-a-k.false)

pub returns : goal.returns
returns c = let i = c.loop-k.invariant in sym (i.2 ∙ same_end _ _ c.loop-k.k (omega arith) (omega arith))
