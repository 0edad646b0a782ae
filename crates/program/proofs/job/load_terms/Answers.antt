use mathlib.Core.Path.{ap}
use Rattle.cells.specs.declared.Fill.{Fill}
use Rattle.program.proofs.Words.{loadable_part, loaded-part}
use Rattle.program.proofs.job.load_terms.Goals as goal

pub kinds-requires : goal.kinds-requires
kinds-requires c = record { held = c.requires.held; count_value = ap (λ (f : Fill). f.cells) c.fill-f.ensures }

pub ends-requires : goal.ends-requires
ends-requires c = record { held = c.requires.held; count_value = ap (λ (f : Fill). f.cells) c.fill-f.ensures }

pub pool-requires : goal.pool-requires
pool-requires c = record { held = c.requires.held; count_value = ap (λ (f : Fill). f.cells) c.fill-f.ensures }

pub load_terms-requires : goal.load_terms-requires
load_terms-requires c = loadable_part c.args.job.now c.kinds.ensures c.ends.ensures c.pool.ensures c.fill-f.ensures c.size-terms.ensures c.requires.loadable

pub returns-clause-does : goal.returns-clause-does
returns-clause-does c = loaded-part c.args.job.now c.kinds.ensures c.ends.ensures c.pool.ensures c.fill-f.ensures c.size-terms.ensures c.load_terms.ensures.does
