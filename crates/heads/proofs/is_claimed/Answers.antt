use Rattle.marks.specs.Marks.{is_marked, close}
use Rattle.termdag.specs.Store.{terms_in}
use Rattle.heads.specs.Heading.{claimed_by}
use Rattle.model.proofs.Tests.{not-true, not-false}
use mathlib.Core.Bool.{Bool}
use mathlib.Core.Path.{sym, ap, ◌∙◌}
use Rattle.std.proofs.lemmas.Bool.{not_from_false, not_from_true}
use Rattle.heads.proofs.is_claimed.Goals as goal

pub returns-then-not-marking : goal.returns-then-not-marking
returns-then-not-marking c = let a = c.args in ap (λ (b : Bool). claimed_by b a.found (is_marked (close (terms_in a.store.now.kinds.now a.store.now.ends.now a.store.now.pool.now a.fill) a.fill.cells a.marks.now) a.t)) (sym (not-true c.args.marking (not_from_false _ c.if-not-marking.true)))

pub returns : goal.returns
returns c = let a = c.args in c.is_covered.ensures ∙ ap (λ (b : Bool). claimed_by b a.found (is_marked (close (terms_in a.store.now.kinds.now a.store.now.ends.now a.store.now.pool.now a.fill) a.fill.cells a.marks.now) a.t)) (sym (not-false c.args.marking (not_from_true _ c.if-not-marking.false)))
