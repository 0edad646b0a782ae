use mathlib.Core.Path.{◌≡◌}
use lib.ListN.{length}
use Rattle.normal_form.specs.Search.{SearchedTo}
use Rattle.normal_form.proofs.find_offences.Given as goal

abbrev pub invariant-loop-e : goal.invariant-loop-e
invariant-loop-e l = SearchedTo l.job l.e l.found × (length l.found ≡ length l.initial.found)
