use Rattle.actions.specs.Acting.{marked_if}
use Rattle.model.proofs.Tests.{not-true, not-false}
use mathlib.Core.Bool.{Bool}
use mathlib.Core.Path.{sym, ap, ◌∙◌}
use Rattle.std.proofs.lemmas.Bool.{not_from_false, not_from_true}
use Rattle.actions.proofs.mark_if.Goals as goal

pub returns-then-not-marking : goal.returns-then-not-marking
returns-then-not-marking c = ap (λ (b : Bool). marked_if b c.args.memo.now c.args.n c.args.marks.now) (sym (not-true c.args.marking (not_from_false _ c.if-not-marking.true)))

pub returns : goal.returns
returns c = c.mark_values.ensures ∙ ap (λ (b : Bool). marked_if b c.args.memo.now c.args.n c.args.marks.now) (sym (not-false c.args.marking (not_from_true _ c.if-not-marking.false)))
