use Rattle.merges.proofs.TestLaws.{unless}
use Rattle.merges.proofs.check_that.Goals as goal

pub returns-then-test : goal.returns-then-test
returns-then-test c = unless c.args.test c.args.refusal c.if-test.true
