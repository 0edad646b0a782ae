use Rattle.std.proofs.Common.{◌-◌, length, sym, rules, subst}
use Rattle.std.specs.Io.KnownBytes.{Consumes}
use Rattle.std.proofs.KnownBytes.{Consumes-trans}
use Rattle.console.proofs.Reading.{take-part}
use Rattle.console.proofs.read_full.Goals as goal

pub loop-done-preserved : goal.loop-done-preserved
loop-done-preserved g c =
    let at = c.loop-done.done in
    let v = c.loop-done.invariant in
    let e = take-part at (length c.loop-done.bytes - at) c.loop-done.bytes c.read.new.buf v.0 c.in_ok-n.n c.in_ok-n.ensures.bound.0 in
    (search rules, subst (Consumes _ _) (sym e) (Consumes-trans _ _ _ _ _ v.1 c.in_ok-n.ensures.bytes.0))
