use Rattle.load.proofs.TableLaws.{fixed-table}
use native.Mathlib.Omega.{arith}
use mathlib.Core.Path.{◌∙◌}
use Rattle.load.specs.Held.{tables_of}
use Rattle.load.proofs.tables.fits.Goals as goal

pub returns-in_default : goal.returns-in_default
returns-in_default c = let a = c.args in
    λ i. c.fixed_fits.ensures ∙ fixed-table (tables_of a.cells.now) a.table i (record { kind = a.kind; words = a.ws.now }) c.requires.table_bound (λ e. omega arith) (λ e. omega arith) (λ e. omega arith) (λ e. omega arith) (λ e. omega arith) (λ e. omega arith)
