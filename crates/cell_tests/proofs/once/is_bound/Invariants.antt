use Rattle.std.proofs.Common.{◌≡◌, eqb}
use Rattle.std.specs.Slice.Iter.{chunks_exact_rest, chunks_exact_size}
use Rattle.model.specs.Decode.{read_bindings}
use Rattle.model.specs.Load.{any}
use Rattle.cell_tests.proofs.once.is_bound.Given as goal

abbrev pub invariant-loop-pair : goal.invariant-loop-pair
invariant-loop-pair l = (chunks_exact_size l.pair-iterator ≡ 2) × (any (λ b. eqb l.name b.name) (read_bindings l.ws) ≡ any (λ b. eqb l.name b.name) (read_bindings (chunks_exact_rest l.pair-iterator)))
