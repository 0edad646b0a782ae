use Rattle.std.proofs.Common.{take, drop}
use Rattle.std.specs.Io.KnownBytes.{Appends}
use Rattle.console.specs.Words.{spaced}
use Rattle.console.proofs.write_words.Given as goal

abbrev pub invariant-loop-i : goal.invariant-loop-i
invariant-loop-i g l =
    Appends (g.W.Write.contents l.initial.output) (g.W.Write.contents l.output) (drop 1 (spaced (take l.i l.words)))
