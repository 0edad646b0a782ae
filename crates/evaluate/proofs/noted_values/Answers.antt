use mathlib.Core.Path.{◌≡◌, sym, ap, subst, ◌∙◌}
use Prim.Native.Nat.{ℕ}
use lib.ListN.{length}
use Rattle.evaluate.specs.Evaluation.{KnowsFirst}
use native.Mathlib.Omega.{arith}
use borrow.Author.Rules.{rules}
use Rattle.memo.specs.Memo.{value_at, is_noted}
use Rattle.evaluate.proofs.Waiting.{first-noted}
use Rattle.evaluate.proofs.noted_values.Goals as goal

pub loop-i-init : goal.loop-i-init
loop-i-init c = (λ head σ m₀ vals₀ W. W, omega arith)

pub is_noted-requires : goal.is_noted-requires
is_noted-requires c = let l = c.requires.by_index c.loop-i.i c.loop-i-test.true in omega arith

pub returns-then-not-is_noted : goal.returns-then-not-is_noted
returns-then-not-is_noted c = record { more = c.loop-i.invariant.0; next = λ u. ap (is_noted c.args.memo.now) (sym c.wide-at.ensures) ∙ sym c.is_noted.ensures ∙ c.if-not-is_noted.true; far = c.loop-i.invariant.1 }

pub value_of-requires : goal.value_of-requires
value_of-requires c = let l = c.requires.by_index c.loop-i.i c.loop-i-test.true in omega arith

pub loop-i-preserved : goal.loop-i-preserved
loop-i-preserved c = (λ head σ m₀ vals₀ W. first-noted (c.loop-i.invariant.0 head σ m₀ vals₀ W) c.loop-i-test.true (ap (is_noted c.args.memo.now) (sym c.wide-at.ensures) ∙ sym c.is_noted.ensures ∙ c.if-not-is_noted.false) (c.value_of.ensures ∙ ap (value_at c.args.memo.now) c.wide-at.ensures), let l = c.loop-i.invariant.1 in omega arith)

pub returns : goal.returns
returns c = let a = c.args in
    let e : c.loop-i.i ≡ length a.args.now = omega arith in
    record {
      more = λ head σ m₀ vals₀ W. subst (λ (n : ℕ). KnowsFirst head σ a.args.now m₀ vals₀ n a.memo.now c.loop-i.vals) e (c.loop-i.invariant.0 head σ m₀ vals₀ W);
      next = λ u. absurd (omega arith);
      far = c.requires.from_in_bounds;
    }
