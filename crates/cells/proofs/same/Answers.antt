use Rattle.std.proofs.Common.{List, ℕ, get_or, ne_eqb, sym, ap, ◌∙◌}
use Rattle.model.specs.Cell.{same_words}
use Rattle.cells.proofs.Laws.{kind-no, kind-yes}
use Rattle.cells.proofs.same.Goals as goal

pub returns-then-kinds-i : goal.returns-then-kinds-i
returns-then-kinds-i c = let a = c.args in
    c.same_words.ensures ∙ ap (λ (w : List ℕ). same_words w a.ws.now) c.words.ensures
    ∙ sym (kind-yes a.kinds.now a.ends.now a.pool.now a.fill.cells a.i c.requires.i_lt_cells a.kind a.ws.now c.if-kinds-i.true)

pub returns-else-kinds-i : goal.returns-else-kinds-i
returns-else-kinds-i c = let a = c.args in
    ne_eqb (get_or a.kinds.now a.i 0) a.kind c.if-kinds-i.false ∙ sym (kind-no a.kinds.now a.ends.now a.pool.now a.fill.cells a.i c.requires.i_lt_cells a.kind a.ws.now c.if-kinds-i.false)
