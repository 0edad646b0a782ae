use Rattle.cell_tests.proofs.Laws.{no-substitution}
use mathlib.Core.Path.{ap}
use Rattle.model.specs.Load.{binds_once}
use Rattle.load.proofs.tables.proof_once.Goals as goal

pub returns-then-kind-eq1 : goal.returns-then-kind-eq1
returns-then-kind-eq1 c = rw (c.if-kind-eq1.true, c.binds_once.ensures, c.rest-then-kind-eq1.ensures, c.rest.ensures, c.wide-m.ensures, c.at.ensures)

pub returns : goal.returns
returns c = let a = c.args in ap binds_once (no-substitution 0 a.ws.now a.kind c.if-kind-eq1.false)
