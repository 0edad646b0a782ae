use mathlib.Core.Path.{refl, sym, ◌∙◌}
use mathlib.Core.Bool.{true≢false}
use native.Mathlib.Omega.{arith}
use Rattle.walk.proofs.state_at.Goals as goal

pub returns-then-rule : goal.returns-then-rule
returns-then-rule c = record { few = omega arith; walks = λ u. absurd (omega arith); ends = λ u n. absurd (true≢false (sym c.if-rule.true ∙ u)) }

pub returns-then-i-count : goal.returns-then-i-count
returns-then-i-count c = record { few = omega arith; walks = λ u. (c.if-rule.false, c.if-i-count.true); ends = λ u n. absurd (n refl) }

pub returns : goal.returns
returns c = record { few = omega arith; walks = λ u. absurd (omega arith); ends = λ u n. let x = c.if-i-count.false in omega arith }
