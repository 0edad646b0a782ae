use mathlib.Core.Path.{◌≡◌, refl, ap, ◌∙◌}
use native.Mathlib.Omega.{arith}
use native.Mathlib.Numerals.{add-one}
use lib.ListN.{length, length-set}
use lib.Seq.{paste, paste-zero, paste-suc}
use Rattle.cells.proofs.Appending.{put-paste}
use Rattle.cells.proofs.copy.Goals as goal

pub loop-j-init : goal.loop-j-init
loop-j-init c = let a = c.args in (omega arith, paste-zero a.dst.now a.at a.src.now, refl)

pub loop-j-preserved : goal.loop-j-preserved
loop-j-preserved c = let a = c.args in
    let j = c.loop-j.j in (
      omega arith,
      rw (c.loop-j.invariant.1, add-one) (paste-suc a.dst.now a.at a.src.now j 0 (omega arith) (omega arith)),
      simp length-set c.loop-j.invariant.2,
    )

pub returns : goal.returns
returns c = let a = c.args in
    let e : c.loop-j.j ≡ length a.src.now = omega arith in
    c.loop-j.invariant.1 ∙ ap (paste a.dst.now a.at a.src.now) e ∙ put-paste a.dst.now a.at a.src.now
