use Prim.Native.Nat.{◌-◌}
use Rattle.chains.specs.Chains.{has_key, words_of, slot_at}
use Rattle.chains.proofs.Chaining.{Passed}
use Rattle.chains.proofs.find.Given as goal

abbrev pub invariant-loop-i : goal.invariant-loop-i
invariant-loop-i l =
    Passed (slot_at l.keys.multiplier l.keys.count l.keys.rows (words_of l.keys)) (λ j. has_key l.keys.rows (words_of l.keys j) l.head l.args) l.keys.count l.s 0 l.i

abbrev pub decreases-loop-i : goal.decreases-loop-i
decreases-loop-i l = l.keys.count - l.i
