use mathlib.Core.Path.{refl}
use Prim.Native.Nat.{◌+◌}
use native.Mathlib.Omega.{arith}
use lib.ListN.{get_or, length-set}
use Rattle.chains.proofs.link.Goals as goal

pub bounds-table-b-3 : goal.bounds-table-b-3
bounds-table-b-3 c = let a = c.args in omega (arith, length-set a.table.now (a.b + a.n + a.i) (get_or a.table.now (a.b + a.s) 0), c.requires)

pub returns : goal.returns
returns c = record { is = refl }
