use Rattle.decode.specs.View.{proposition_of}
use Rattle.steps.proofs.PlainLaws.{claims-first, claims-both}
use Rattle.steps.proofs.congr_claims.Goals as goal

pub returns-then-first-ne0 : goal.returns-then-first-ne0
returns-then-first-ne0 c = let a = c.args in λ s. claims-first a.p (proposition_of a.q) a.lhs a.t _ c.check_that-first.ensures s c.if-first-ne0.true

pub returns : goal.returns
returns c = let a = c.args in λ s. claims-both a.p (proposition_of a.q) a.lhs a.t _ c.check_that-first.ensures s _ c.if-first-ne0.false c.check_that.ensures
