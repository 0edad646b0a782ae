use native.Mathlib.Omega.{arith}
use lib.ListN.{length-take}
use Rattle.model.specs.Term as model
use Rattle.termdag.proofs.Laws.{adds, put_first}
use Rattle.termdag.proofs.app.Goals as goal

pub slice_bounds-add-end : goal.slice_bounds-add-end
slice_bounds-add-end c = simp length-take (omega arith)

pub returns-clause-does : goal.returns-clause-does
returns-clause-does c = let s = c in
    adds s.requires.indexed (model.app s.args.f s.args.args.now) (rw (c.copy.ensures, put_first) at c.add.ensures.does)
