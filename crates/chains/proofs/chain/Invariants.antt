use Prim.Native.Nat.{◌+◌, ◌≤◌}
use Rattle.chains.specs.Chains.{words_of, slot_at, Chained, Within}
use Rattle.chains.proofs.chain.Given as goal

abbrev pub invariant-loop-i : goal.invariant-loop-i
invariant-loop-i l =
    Chained (slot_at l.keys.multiplier l.keys.count l.keys.rows (words_of l.keys)) l.keys.count l.b l.i l.table × Within l.b (l.keys.count + l.keys.count) l.initial.table l.table × (l.i ≤ l.keys.count)
