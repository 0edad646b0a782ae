use lib.ListN.{set}
use Prim.Native.Nat.{ℕ}
use mathlib.Core.List.{List}
use mathlib.Core.Path.{ap, ◌∙◌}
use Rattle.memo.proofs.restart.Goals as goal

pub returns : goal.returns
returns c = c.set_round.ensures ∙ ap (λ (x : List ℕ). set x 0 1) c.clear.ensures
