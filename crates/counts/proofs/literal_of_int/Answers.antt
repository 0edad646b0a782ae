use Rattle.std.proofs.Common.{arith}
use Rattle.std.proofs.lemmas.Int.{to_z-of_z}
use Rattle.counts.proofs.Laws.{word-literal}
use Rattle.counts.proofs.literal_of_int.Goals as goal

pub returns : goal.returns
returns c = let h = c.cast_unsigned-bits.ensures in word-literal _ _ (grind (arith, to_z-of_z))
