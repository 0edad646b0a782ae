use mathlib.Core.Path.{◌≡◌}
use Prim.Native.Nat.{◌≤◌}
use lib.ListN.{length, drop}
use Rattle.model.specs.Cell.{same_words}
use Rattle.cells.proofs.same_words.Given as goal

abbrev pub invariant-loop-k : goal.invariant-loop-k
invariant-loop-k l = (l.k ≤ length l.a) × (length l.a ≡ length l.b) × (same_words l.a l.b ≡ same_words (drop l.k l.a) (drop l.k l.b))
