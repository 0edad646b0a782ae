use Rattle.std.proofs.Common.{rules, arith, w64}
use Rattle.std.proofs.lemmas.Int.{to_z-of_z}
use mathlib.Core.Path.{◌∙◌}
use Rattle.counts.proofs.Laws.{word-int}
use Rattle.counts.proofs.int_of.Goals as goal

pub returns : goal.returns
returns c = to_z-of_z w64 c.cast_signed.result (search rules) ∙ c.cast_signed.ensures ∙ word-int _ _ _ c.ranges.low.fits c.ranges.high.fits (omega (arith, c.from.ensures, c.from-2.ensures))
