use Prim.Native.Nat.{ℕ}
use native.Mathlib.Omega.{arith}
use mathlib.Core.Path.{◌≡◌, subst}
use mathlib.Core.List.{[], ◌∷◌}
use lib.Dec.{eqb}
use lib.ListN.{get_or}
use Rattle.outcome.specs.Does.{refusal}
use Rattle.merges.specs.Step.{refused_unless}
use Rattle.steps.proofs.PlainLaws.{child-none, child-tested}
use Rattle.steps.proofs.child_matches.Goals as goal

pub returns-then-n-k : goal.returns-then-n-k
returns-then-n-k c = let a = c.args in record { s_value = λ s. child-none a.p a.i a.lhs a.args.now s (omega arith); i_in_bounds = λ e. absurd (omega arith) }

pub returns : goal.returns
returns c = let a = c.args in let h = c.if-n-k.false in record { s_value = λ s. child-tested a.p a.i a.lhs a.args.now s (omega arith) (subst (λ (n : ℕ). c.check_that.result ≡ refused_unless (eqb (get_or a.args.now n 0) a.lhs) (refusal 24 4 (a.p ∷ a.lhs ∷ get_or a.args.now n 0 ∷ a.i ∷ 0 ∷ 0 ∷ []))) c.wide-k.ensures c.check_that.ensures); i_in_bounds = λ e. omega arith }
