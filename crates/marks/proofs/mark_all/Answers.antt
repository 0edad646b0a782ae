use native.Mathlib.Omega.{arith}
use mathlib.Core.Path.{sym, ap, ◌∙◌}
use mathlib.Core.List.{List}
use Prim.Native.Nat.{ℕ, ◌+◌}
use lib.ListN.{length, drop}
use Rattle.marks.specs.Marks.{mark_all}
use Rattle.marks.proofs.Bits.{length-with}
use Rattle.marks.proofs.Laws.{all-step, all_end}
use Rattle.marks.proofs.mark_all.Goals as goal

pub loop-x-preserved : goal.loop-x-preserved
loop-x-preserved c = let l = c.loop-x in
    let xs = c.args.xs.now in
    let e = c.mark.ensures in (
      l.invariant.0 ∙ all-step xs l.marks l.x-index (omega arith) ∙ ap (λ (m : List ℕ). mark_all (drop (l.x-index + 1) xs) m) (sym e),
      ap length e ∙ length-with l.marks _ ∙ l.invariant.1,
    )

pub returns : goal.returns
returns c = let l = c.loop-x in
    sym (l.invariant.0 ∙ all_end c.args.xs.now l.marks l.x-index (omega arith))
