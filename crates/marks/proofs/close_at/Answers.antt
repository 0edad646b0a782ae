use mathlib.Core.Path.{◌∙◌}
use Rattle.termdag.specs.Store.{terms_in}
use Rattle.marks.proofs.Laws.{at-no, at-yes}
use Rattle.std.proofs.lemmas.Bool.{not_from_false, not_from_true}
use Rattle.marks.proofs.close_at.Goals as goal

pub returns-then-not-is_marked : goal.returns-then-not-is_marked
returns-then-not-is_marked c = let a = c.args in
    at-no (terms_in a.store.now.kinds.now a.store.now.ends.now a.store.now.pool.now a.fill) a.i a.marks.now _ c.is_marked.ensures (not_from_false _ c.if-not-is_marked.true)

pub returns : goal.returns
returns c = let a = c.args in
    c.mark_all.ensures ∙ at-yes (terms_in a.store.now.kinds.now a.store.now.ends.now a.store.now.pool.now a.fill) a.i a.marks.now _ c.is_marked.ensures _ (not_from_true _ c.if-not-is_marked.false) c.children-xs.ensures
