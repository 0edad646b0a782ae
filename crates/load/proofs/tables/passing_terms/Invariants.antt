use Rattle.load.specs.Held.{Sound}
use Rattle.load.proofs.tables.passing_terms.Given as goal

abbrev pub invariant-loop-i : goal.invariant-loop-i
invariant-loop-i l = Sound l.cells.kinds.now l.cells.ends.now l.cells.pool.now l.cells.sizes l.i
