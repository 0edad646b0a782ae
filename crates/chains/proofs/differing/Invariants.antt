use Rattle.chains.specs.Chains.{words_of, same_key}
use Rattle.chains.proofs.Chaining.{Differs}
use Rattle.chains.proofs.differing.Given as goal

abbrev pub invariant-loop-i : goal.invariant-loop-i
invariant-loop-i l = Differs (same_key l.keys.rows (words_of l.keys)) l.keys.count l.i
