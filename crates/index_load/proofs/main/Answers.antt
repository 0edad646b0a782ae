use mathlib.Core.Path.{refl}
use native.Mathlib.Nat.{not-suc-le-zero}
use native.Mathlib.Omega.{arith}
use Rattle.model.specs.Cell.{start_of}
use Rattle.index_load.proofs.main.Goals as goal

pub put_integers-f-requires : goal.put_integers-f-requires
unfolding start_of
put_integers-f-requires c = record {
  kinds = omega arith;
  even = omega (arith, c.kinds_and_ends-kinds.ensures, c.kinds_and_ends-ends.ensures);
  pool = omega arith;
  small = omega (arith, c.pool_words-pool.ensures);
  few = omega (arith, c.kinds_and_ends-kinds.ensures);
  top = refl;
  rises = λ i h. absurd (not-suc-le-zero h);
  below = λ i h. absurd (not-suc-le-zero h);
}

pub fill_once-t-requires : goal.fill_once-t-requires
fill_once-t-requires c = let f = c.put_applications-g.ensures in record { formed = f; m_le_cells = omega arith; m_in_bounds = omega (arith, f.kinds, c.put_applications-g.auto.kinds, c.put_integers-f.auto.kinds, c.kinds_and_ends-kinds.ensures, c.slots-index.ensures) }
