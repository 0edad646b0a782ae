use mathlib.Core.Path.{◌≡◌}
use mathlib.Core.List.{[], map}
use lib.ListN.{drop}
use Rattle.model.specs.Walk.{duplicate_rule_name}
use Rattle.program.specs.Ready.{tables_for, program_for}
use Rattle.program.proofs.Laws.{rule_for}
use Rattle.lookups.proofs.Laws.{seen}
use Rattle.lookups.proofs.scan_rule_names.Given as goal

abbrev pub invariant-loop-i : goal.invariant-loop-i
invariant-loop-i l = (duplicate_rule_name [] (program_for l.job).rules
    ≡ duplicate_rule_name (seen (tables_for l.job).rules l.i) (map (rule_for (tables_for l.job)) (drop l.i (tables_for l.job).rules)))
