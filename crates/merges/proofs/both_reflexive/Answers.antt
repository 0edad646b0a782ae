use Rattle.decode.specs.View.{proposition_of}
use Rattle.merges.proofs.TestLaws.{reflexive-first, reflexive-both}
use Rattle.merges.proofs.both_reflexive.Goals as goal

pub returns-then-first-ne0 : goal.returns-then-first-ne0
returns-then-first-ne0 c = let a = c.args in λ s. reflexive-first a.p (proposition_of a.a) (proposition_of a.b) _ c.check_that-first.ensures s c.if-first-ne0.true

pub returns : goal.returns
returns c = let a = c.args in λ s. reflexive-both a.p (proposition_of a.a) (proposition_of a.b) _ c.check_that-first.ensures s _ c.if-first-ne0.false c.check_that.ensures
