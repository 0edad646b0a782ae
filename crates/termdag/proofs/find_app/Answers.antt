use mathlib.Core.Path.{ap, ◌∙◌}
use lib.ListN.{get_or, drop}
use Rattle.model.specs.Cell.{cells_of}
use Rattle.model.specs.Term as model
use Rattle.cells.specs.Table.{find_cell}
use Rattle.termdag.proofs.Laws.{known-term, absent-term, app-words}
use Rattle.termdag.proofs.find_app.Goals as goal

pub returns : goal.returns
returns c = let a = c.args in
    let ws = a.ws.now in
    let t = model.app (get_or ws 0 0) (drop 1 ws) in
    let q = c.find.ensures ∙ ap (find_cell (cells_of a.kinds.now a.ends.now a.pool.now a.fill.cells)) (app-words ws c.requires.ws_nonzero) in
    record { known = known-term c.requires.indexed t q; none = absent-term c.requires.indexed t q }
