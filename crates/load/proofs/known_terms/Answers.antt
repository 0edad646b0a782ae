use native.Mathlib.Omega.{arith}
use mathlib.Core.Path.{sym, subst}
use Prim.Native.Nat.{◌≤◌}
use Rattle.cells.specs.Table.{Formed}
use Rattle.cells.specs.declared.Fill.{Fill}
use Rattle.load.specs.Held.{Fills}
use Rattle.load.proofs.Intake.{none-distinct, fills-distinct}
use Rattle.load.proofs.known_terms.Goals as goal

pub returns-then-index-terms : goal.returns-then-index-terms
returns-then-index-terms c = let a = c.args in record { distinct = none-distinct a.cells.now.kinds.now a.cells.now.ends.now a.cells.now.pool.now a.cells.now.sizes; fills = λ h. absurd (omega arith) }

pub fill_once-t-requires : goal.fill_once-t-requires
fill_once-t-requires c = let a = c.args in record { formed = subst (λ (f : Fill). Formed a.cells.now.kinds.now a.cells.now.ends.now a.cells.now.pool.now f) (sym c.fill.ensures) c.requires.formed; m_le_cells = subst (λ (f : Fill). a.cells.now.sizes.terms ≤ f.cells) (sym c.fill.ensures) (omega arith); m_in_bounds = omega (arith, c.if-index-terms.false) }

pub returns : goal.returns
returns c = let a = c.args in
    let F : Fills a.multiplier a.cells.now.kinds.now a.cells.now.ends.now a.cells.now.pool.now a.cells.now.sizes c.fill_once-t.new.index c.fill_once-t.result.listed = record { compared = c.fill_once-t.result.compared; filled = c.fill_once-t.ensures } in
    record { distinct = fills-distinct F; fills = λ h. F }
