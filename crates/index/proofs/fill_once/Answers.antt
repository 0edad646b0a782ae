use Rattle.model.specs.Cell.{cell_at, cells_of}
use Rattle.std.proofs.Common.{◌≡◌, ℕ, length, refl, subst, ◌∙◌, arith}
use Rattle.index.specs.Listing.{Filled}
use Rattle.index.proofs.Filling.{going-none, going-lists, few-compared, going_more, going-found, going_end}
use Rattle.index.proofs.Indexing.{no-none}
use Rattle.index.proofs.fill_once.Goals as goal

pub loop-listed-init : goal.loop-listed-init
loop-listed-init c = let a = c.args in (going-none a.x (cell_at a.kinds.now a.ends.now a.pool.now) a.m (length a.index.now) c.clear.new.index c.clear.ensures, refl)

pub enlist-p-requires : goal.enlist-p-requires
unfolding cells_of
enlist-p-requires c = let p = c.requires in let g = c.loop-listed.invariant.0 in record { formed = p.formed; i_lt_cells = omega arith; i_in_bounds = omega (arith, c.loop-listed.invariant.1, c.clear.auto.index); once = g.once; lists = going-lists g }

pub overflow_add-compared : goal.overflow_add-compared
overflow_add-compared c = let p = c.requires in let g = c.loop-listed.invariant.0 in record { fits = omega (arith, g.small, few-compared g c.enlist-p.ensures.looked, p.formed.few, p.formed.kinds) }

pub returns-in-Some : goal.returns-in-Some
returns-in-Some c = let g = c.loop-listed.invariant.0 in going-found g c.enlist-p.ensures (no-none c.in-Some.is) c.loop-listed-test.true

pub loop-listed-preserved : goal.loop-listed-preserved
loop-listed-preserved c = let p = c.requires in let g = c.loop-listed.invariant.0 in (going_more g c.enlist-p.ensures c.in_default.is c.loop-listed-test.true (omega (arith, p.formed.few, p.formed.kinds)), c.enlist-p.auto.index ∙ c.loop-listed.invariant.1)

pub returns : goal.returns
returns c = let a = c.args in
    let g = c.loop-listed.invariant.0 in
    let e : c.loop-listed.listed ≡ a.m = omega (arith, g.low) in
    subst (λ (n : ℕ). Filled a.x (cell_at a.kinds.now a.ends.now a.pool.now) a.m c.loop-listed.index (record { listed = n; compared = c.loop-listed.compared })) e (going_end g c.loop-listed-test.false)
