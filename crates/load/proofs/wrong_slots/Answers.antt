use mathlib.Core.Path.{ap, sym, ◌∙◌}
use mathlib.Core.Bool.{not}
use Prim.Native.Nat.{◌*◌}
use borrow.Author.Tests.{le-ltb}
use Rattle.load.proofs.Rounds.{power-ones}
use Rattle.load.proofs.wrong_slots.Goals as goal

pub returns-else-slots-cells : goal.returns-else-slots-cells
returns-else-slots-cells c = let a = c.args in
    λ ends pool scratch. rw (le-ltb a.slots (2 * a.cells) c.if-slots-cells.false) (ap not (c.is_power_of_two.ensures ∙ sym (power-ones 64 a.slots c.ranges.slots.fits)))
