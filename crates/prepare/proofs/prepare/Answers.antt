use mathlib.Core.Path.{ap, ◌∙◌}
use Rattle.std.specs.Prelude.{Err}
use Rattle.std.proofs.lemmas.Result.{IfOk-at_ok}
use native.Mathlib.Omega.{arith}
use Rattle.prepare.proofs.Refusals.{cell-word, refuses-host, refuses-writer, loads, admits}
use Rattle.prepare.proofs.prepare.Goals as goal

pub start-requires : goal.start-requires
start-requires c = let a = c.args in
    loads a.job.now a.asked a.mode a.store.now.kinds.now a.store.now.ends.now a.store.now.pool.now a.store.now.index.now a.scratch c.load-loaded.ensures.refusal c.in_default.is

pub overflow_cast-cell : goal.overflow_cast-cell
overflow_cast-cell c = let a = c.args in
    let h = cell-word a.job.now a.asked a.mode a.store.now.kinds.now a.store.now.ends.now a.store.now.pool.now a.store.now.index.now a.scratch c.load-loaded.ensures.refusal _ c.in-Writer.cell (c.in-Err.is ∙ ap Err c.in-Writer.is) in omega (arith, h)

pub returns-in_default-clause-does : goal.returns-in_default-clause-does
returns-in_default-clause-does c = let a = c.args in
    let o = c.in_default.is in
    rw c.start.ensures.index (admits a.job.now a.asked a.mode a.store.now.kinds.now a.store.now.ends.now a.store.now.pool.now a.store.now.index.now a.scratch c.load-loaded.ensures.refusal c.start.result o c.start.ensures.is c.start.ensures.begun c.load-loaded.auto.index (IfOk-at_ok _ o c.load-loaded.ensures.lists))

pub returns-in-Host-clause-does : goal.returns-in-Host-clause-does
returns-in-Host-clause-does c = let a = c.args in
    refuses-host a.job.now a.asked a.mode a.store.now.kinds.now a.store.now.ends.now a.store.now.pool.now a.store.now.index.now a.scratch c.load-loaded.ensures.refusal _ c.refused.result (c.in-Err.is ∙ ap Err c.in-Host.is) c.refused.ensures

pub returns-in-Writer-clause-does : goal.returns-in-Writer-clause-does
returns-in-Writer-clause-does c = let a = c.args in
    refuses-writer a.job.now a.asked a.mode a.store.now.kinds.now a.store.now.ends.now a.store.now.pool.now a.store.now.index.now a.scratch c.load-loaded.ensures.refusal _ _ c.refused-in-Writer.result (c.in-Err.is ∙ ap Err c.in-Writer.is) c.refused-in-Writer.ensures
