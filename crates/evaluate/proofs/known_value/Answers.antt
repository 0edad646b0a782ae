use Rattle.std.specs.Prelude.{Some, None}
use Rattle.evaluate.specs.Evaluation.{noted, bound, unknown}
use Rattle.memo.specs.Memo.{value_at, is_noted, note_at}
use Rattle.decode.specs.View.{head_of}
use Rattle.program.specs.Ready.{option_of}
use Rattle.program.specs.Read.{head_for}
use mathlib.Core.Path.{refl, sym, ap, ◌∙◌}
use Prim.Native.Nat.{ℕ}
use Rattle.evaluate.proofs.known_value.Goals as goal

pub returns-then-is_noted : goal.returns-then-is_noted
returns-then-is_noted c = let m = c.args.memo.now in noted (ap (is_noted m) (sym c.wide-at.ensures) ∙ sym c.is_noted.ensures ∙ c.if-is_noted.true) (ap Some (c.value_of.ensures ∙ ap (value_at m) c.wide-at.ensures)) refl

pub returns-in_default : goal.returns-in_default
returns-in_default c = unknown (ap (is_noted c.args.memo.now) (sym c.wide-at.ensures) ∙ sym c.is_noted.ensures ∙ c.if-is_noted.false) refl refl

pub returns-in-Some : goal.returns-in-Some
returns-in-Some c = let a = c.args in let t = c.in-Some.t in bound _ t (ap head_of (sym c.in-Var.is) ∙ c.head_at-head.ensures.is ∙ ap (head_for a.scope.now.job.now) c.wide-at.ensures) (ap option_of (sym c.in-Some.is) ∙ c.lookup.ensures) refl (c.note.ensures ∙ ap (λ (k : ℕ). note_at a.memo.now k t) c.wide-at.ensures)

pub returns-in-None : goal.returns-in-None
returns-in-None c = unknown (ap (is_noted c.args.memo.now) (sym c.wide-at.ensures) ∙ sym c.is_noted.ensures ∙ c.if-is_noted.false) refl refl
