use Rattle.load.proofs.TableLaws.{valid-other, distinct-pass, once-other}
use native.Mathlib.Omega.{arith}
use mathlib.Core.Path.{subst⁻¹}
use Prim.Native.Nat.{ℕ}
use Rattle.load.specs.Held.{tables_of, cell_of, PassingCells}
use Rattle.load.proofs.tables.passed_first.Goals as goal

pub returns-in_default-table : goal.returns-in_default-table
returns-in_default-table c = let a = c.args in
    rw c.in-Validators.is (record { few = omega (arith, c.requires.count_value); pass = λ i h. valid-other (tables_of a.cells.now) a.span.table i (cell_of a.cells.now _) (λ e. omega arith) (λ e. omega arith) })

pub returns-in_default-table-3 : goal.returns-in_default-table-3
returns-in_default-table-3 c = let a = c.args in
    rw c.in-Validators.is (record { few = omega (arith, c.requires.count_value); pass = λ i h. valid-other (tables_of a.cells.now) a.span.table i (cell_of a.cells.now _) (λ e. omega arith) (λ e. omega arith) })

pub returns-in-0-table : goal.returns-in-0-table
returns-in-0-table c = let a = c.args in
    rw c.in-Once.is (subst⁻¹ (λ (k : ℕ). PassingCells a.cells.now 3 k a.known.distinct) c.in-0-table.is (distinct-pass c.requires.distinct))

pub returns-in_default-table-2 : goal.returns-in_default-table-2
returns-in_default-table-2 c = let a = c.args in
    rw c.in-Once.is (record { few = omega (arith, c.requires.count_value); pass = λ i h. once-other (tables_of a.cells.now) a.span.table i (cell_of a.cells.now _) (λ e. omega arith) (λ e. omega arith) (λ e. omega arith) (λ e. omega arith) })

pub returns-in_default-table-2-2 : goal.returns-in_default-table-2-2
returns-in_default-table-2-2 c = let a = c.args in
    rw c.in-Once.is (record { few = omega (arith, c.requires.count_value); pass = λ i h. once-other (tables_of a.cells.now) a.span.table i (cell_of a.cells.now _) (λ e. omega arith) (λ e. omega arith) (λ e. omega arith) (λ e. omega arith) })
