use mathlib.Core.Path.{◌≡◌}
use mathlib.Core.List.{map}
use Prim.Native.Nat.{◌+◌}
use lib.Dec.{eqb}
use lib.ListN.{take, drop}
use Rattle.model.specs.Cell.{start_of}
use Rattle.model.specs.Layout.{ends_of}
use Rattle.model.specs.Decode.{word}
use Rattle.load.specs.Held.{first_found}
use Rattle.program.specs.Ready.{number_of, table_for, first_named}
use Rattle.lookups.proofs.first_named.Given as goal

abbrev pub invariant-loop-i : goal.invariant-loop-i
invariant-loop-i l = (l.from ≡ start_of (ends_of l.job) (l.start + l.i)) × (first_named (take l.count (table_for l.job (number_of l.fn.table))) l.name
    ≡ first_found l.i (map (λ c. eqb (word c 0) l.name) (drop l.i (take l.count (table_for l.job (number_of l.fn.table))))))
