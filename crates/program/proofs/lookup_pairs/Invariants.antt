use mathlib.Core.Path.{◌≡◌}
use Rattle.std.specs.Slice.Iter.{chunks_exact_rest, chunks_exact_size}
use Rattle.model.specs.Decode.{read_bindings}
use Rattle.model.specs.Evaluate.{lookup}
use Rattle.program.proofs.lookup_pairs.Given as goal

abbrev pub invariant-loop-pair : goal.invariant-loop-pair
invariant-loop-pair l = (chunks_exact_size l.pair-iterator ≡ 2) × (lookup (read_bindings l.ws) l.name ≡ lookup (read_bindings (chunks_exact_rest l.pair-iterator)) l.name)
