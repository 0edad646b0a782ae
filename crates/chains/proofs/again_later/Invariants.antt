use Prim.Native.Nat.{suc, ◌-◌}
use Rattle.chains.specs.Chains.{has_key, words_of, slot_at}
use Rattle.chains.proofs.Chaining.{Passed}
use Rattle.chains.proofs.again_later.Given as goal

abbrev pub invariant-loop-k : goal.invariant-loop-k
invariant-loop-k l = Passed (slot_at l.keys.multiplier l.keys.count l.keys.rows (words_of l.keys)) (λ j. has_key l.keys.rows (words_of l.keys j) l.head l.args) l.keys.count (slot_at l.keys.multiplier l.keys.count l.keys.rows (words_of l.keys) l.i) (suc l.i) l.k

abbrev pub decreases-loop-k : goal.decreases-loop-k
decreases-loop-k l = l.keys.count - l.k
