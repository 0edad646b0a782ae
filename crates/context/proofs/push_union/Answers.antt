use mathlib.Core.Path.{refl}
use native.Mathlib.Omega.{arith}
use lib.ListN.{length-set}
use Rattle.context.proofs.Unions.{joined_as, joined-pair, joined-none}
use Rattle.context.proofs.push_union.Goals as goal

pub bounds-unions-count-in-Union : goal.bounds-unions-count-in-Union
bounds-unions-count-in-Union c = let h = c.requires.count_in_bounds in simp length-set (omega arith)

pub returns-in-Bind : goal.returns-in-Bind
returns-in-Bind c = joined_as c.in-Bind.is (joined-none c.args.unions.now c.args.count c.requires.even _ (λ q. refl))

pub returns-in-Union : goal.returns-in-Union
returns-in-Union c = joined_as c.in-Union.is (joined-pair c.args.unions.now c.args.count c.requires.even _ _ c.requires.count_in_bounds refl)

pub returns-in-Nothing : goal.returns-in-Nothing
returns-in-Nothing c = joined_as c.in-Nothing.is (joined-none c.args.unions.now c.args.count c.requires.even _ (λ q. refl))
