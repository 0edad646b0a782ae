use native.Mathlib.Omega.{arith}
use lib.ListN.{length-take}
use Rattle.termdag.proofs.Laws.{put_first}
use Rattle.evaluate.proofs.find_call.Goals as goal

pub slice_bounds-words-end : goal.slice_bounds-words-end
slice_bounds-words-end c = simp length-take (omega arith)

pub find_app-requires : goal.find_app-requires
find_app-requires c = record { indexed = c.requires.indexed; ws_nonzero = rw (c.copy.ensures, put_first) (omega arith) }

pub returns : goal.returns
returns c = rw (c.copy.ensures, put_first) at c.find_app.ensures.known
