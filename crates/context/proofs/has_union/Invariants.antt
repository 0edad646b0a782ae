use mathlib.Core.Path.{◌≡◌}
use Rattle.std.specs.Slice.Iter.{chunks_exact_rest, chunks_exact_size}
use Rattle.decode.specs.View.{proposition_of}
use Rattle.context.specs.Contexts.{unions_have}
use Rattle.context.proofs.has_union.Given as goal

abbrev pub invariant-loop-pair : goal.invariant-loop-pair
invariant-loop-pair l = (chunks_exact_size l.pair-iterator ≡ 2) × (unions_have l.unions (proposition_of l.q) ≡ unions_have (chunks_exact_rest l.pair-iterator) (proposition_of l.q))
