use mathlib.Core.Path.{◌≡◌}
use mathlib.Core.List.{map}
use lib.ListN.{drop}
use Rattle.model.specs.Decode.{read_row}
use Rattle.model.specs.Evaluate.{row_value}
use Rattle.program.specs.Ready.{tables_for, program_for}
use Rattle.lookups.proofs.scan_rows.Given as goal

abbrev pub invariant-loop-i : goal.invariant-loop-i
invariant-loop-i l = (row_value (program_for l.job).rows l.p l.args ≡ row_value (map read_row (drop l.i (tables_for l.job).rows)) l.p l.args)
