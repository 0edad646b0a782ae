use native.Mathlib.Omega.{arith}
use Rattle.termdag.proofs.find.Goals as goal

pub find-p-requires : goal.find-p-requires
find-p-requires c = let r = c.requires in record { formed = r.stored.formed; m_le_cells = omega arith; m_in_bounds = omega (arith, r.stored.formed.kinds, r.room); once = r.stored.once; lists = r.lists }

pub returns : goal.returns
returns c = c.find-p.ensures.found
