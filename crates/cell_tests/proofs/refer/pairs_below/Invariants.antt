use Rattle.std.proofs.Common.{◌≡◌, map}
use Rattle.std.specs.Slice.Iter.{chunks_exact_rest, chunks_exact_size}
use Rattle.model.specs.Decode.{read_bindings}
use Rattle.model.specs.Load.{below}
use Rattle.cell_tests.proofs.refer.pairs_below.Given as goal

abbrev pub invariant-loop-pair : goal.invariant-loop-pair
invariant-loop-pair l = (chunks_exact_size l.pair-iterator ≡ 2) × (below l.n (map (λ b. b.term) (read_bindings l.ws)) ≡ below l.n (map (λ b. b.term) (read_bindings (chunks_exact_rest l.pair-iterator))))
