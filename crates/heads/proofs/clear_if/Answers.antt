use Rattle.heads.specs.Heading.{cleared_if}
use Rattle.model.proofs.Tests.{not-true, not-false}
use mathlib.Core.Bool.{Bool}
use mathlib.Core.Path.{sym, ap, ◌∙◌}
use Rattle.std.proofs.lemmas.Bool.{not_from_false, not_from_true}
use Rattle.heads.proofs.clear_if.Goals as goal

pub returns-then-not-marking : goal.returns-then-not-marking
returns-then-not-marking c = ap (λ (b : Bool). cleared_if b c.args.marks.now) (sym (not-true c.args.marking (not_from_false _ c.if-not-marking.true)))

pub returns : goal.returns
returns c = c.clear.ensures ∙ ap (λ (b : Bool). cleared_if b c.args.marks.now) (sym (not-false c.args.marking (not_from_true _ c.if-not-marking.false)))
