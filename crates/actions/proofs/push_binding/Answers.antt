use lib.ListN.{length-set}
use native.Mathlib.Omega.{arith}
use Rattle.actions.proofs.Acting.{pushed-as, pushed-pair, pushed_none}
use mathlib.Core.Path.{refl}
use Rattle.actions.proofs.push_binding.Goals as goal

pub bounds-table-at-in-Bind : goal.bounds-table-at-in-Bind
bounds-table-at-in-Bind c = let a = c.requires.le_at in let b = c.requires.at_in_bounds in simp length-set (omega arith)

pub returns-in-Bind : goal.returns-in-Bind
returns-in-Bind c = pushed-as c.in-Bind.is (pushed-pair c.args.table.now c.args.at _ _ c.requires.le_at c.requires.at_in_bounds refl)

pub returns-in-Union : goal.returns-in-Union
returns-in-Union c = pushed-as c.in-Union.is (pushed_none c.args.table.now c.args.at _ (λ σ. refl))

pub returns-in-Nothing : goal.returns-in-Nothing
returns-in-Nothing c = pushed-as c.in-Nothing.is (pushed_none c.args.table.now c.args.at _ (λ σ. refl))
