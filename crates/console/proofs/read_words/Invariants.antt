use Rattle.std.proofs.Common.{length, ◌-◌, ◌≤◌, ◌≡◌, take, drop}
use Rattle.console.specs.Words.{GivesWords}
use Rattle.console.proofs.read_words.Given as goal

abbrev pub invariant-loop-words : goal.invariant-loop-words
invariant-loop-words g l =
    (l.at ≤ length l.words)
    × GivesWords (g.R.Read.remaining l.initial.input) (g.R.Read.remaining l.input) (take l.at l.words)
    × (drop l.at l.words ≡ drop l.at l.initial.words)

abbrev pub decreases-loop-words : goal.decreases-loop-words
decreases-loop-words g l = length l.initial.words - l.at
