use Prim.Native.Nat.{ℕ}
use mathlib.Core.List.{List}
use mathlib.Core.Path.{sym, ap, ◌∙◌}
use Rattle.termdag.specs.Store.{terms_in}
use Rattle.marks.specs.Marks.{is_marked}
use Rattle.marks.proofs.Marking.{closed-marked}
use Rattle.heads.proofs.is_covered.Goals as goal

pub returns-then-is_marked : goal.returns-then-is_marked
returns-then-is_marked c = let a = c.args in closed-marked (terms_in a.store.now.kinds.now a.store.now.ends.now a.store.now.pool.now a.fill) a.fill.cells a.marks.now a.t (sym c.is_marked.ensures ∙ c.if-is_marked.true)

pub returns : goal.returns
returns c = c.is_marked-2.ensures ∙ ap (λ (m : List ℕ). is_marked m c.args.t) c.close.ensures
