use Rattle.outcome.proofs.Laws.{added-does}
use native.Mathlib.Omega.{arith}
use Rattle.outcome.proofs.add_app.Goals as goal

pub added-requires : goal.added-requires
added-requires c = let g = c.app-a.ensures.does.indexed.stored.formed in let x = g.pool in let y = g.small in omega arith

pub returns-clause-does : goal.returns-clause-does
returns-clause-does c = added-does _ _ c.app-a.ensures.does c.added.ensures
