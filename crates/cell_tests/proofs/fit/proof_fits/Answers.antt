use Rattle.std.proofs.Math.Bool.{or-false}
use Rattle.cell_tests.proofs.fit.proof_fits.Goals as goal

pub returns-then-kind-eq1 : goal.returns-then-kind-eq1
returns-then-kind-eq1 c = rw (c.if-kind-eq1.true, or-false) (c.rule_proof_fits.ensures c.args.kind)
