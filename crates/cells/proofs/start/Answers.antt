use mathlib.Core.Path.{sym, ◌∙◌}
use Rattle.cells.proofs.Laws.{start-pos}
use Rattle.model.specs.Cell.{start_of}
use Rattle.cells.proofs.start.Goals as goal

pub returns-then-i-eq0 : goal.returns-then-i-eq0
unfolding start_of
returns-then-i-eq0 c = rw c.if-i-eq0.true

pub returns : goal.returns
returns c = let s = c in
    c.wide.ensures ∙ sym (start-pos s.args.ends.now s.args.i c.if-i-eq0.false)
