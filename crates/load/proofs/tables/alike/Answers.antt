use Rattle.load.proofs.TableLaws.{alike-other}
use native.Mathlib.Omega.{arith}
use mathlib.Core.Path.{◌∙◌}
use Rattle.load.proofs.tables.alike.Goals as goal

pub returns-in-6 : goal.returns-in-6
returns-in-6 c = rw c.in-6.is (c.same_row.ensures c.args.j c.args.k)

pub returns-in_default : goal.returns-in_default
returns-in_default c = let x = c.args in c.same_head.ensures x.j x.k ∙ alike-other x.table (record { kind = x.j; words = x.a.now }) (record { kind = x.k; words = x.b.now }) (λ e. omega arith) (λ e. omega arith)
