use mathlib.Core.Path.{ap, ◌∙◌}
use native.Mathlib.Omega.{arith}
use Rattle.cells.specs.declared.Fill.{Fill}
use Rattle.program.proofs.Words.{formed-part, cell-part}
use Rattle.program.proofs.job.cell_words.Goals as goal

pub kinds-requires : goal.kinds-requires
kinds-requires c = record { held = c.requires.held; count_value = ap (λ (f : Fill). f.cells) c.fill-f.ensures }

pub ends-requires : goal.ends-requires
ends-requires c = record { held = c.requires.held; count_value = ap (λ (f : Fill). f.cells) c.fill-f.ensures }

pub pool-requires : goal.pool-requires
pool-requires c = record { held = c.requires.held; count_value = ap (λ (f : Fill). f.cells) c.fill-f.ensures }

pub words-requires : goal.words-requires
words-requires c = record { formed = formed-part c.args.job.now c.kinds.ensures c.ends.ensures c.pool.ensures c.fill-f.ensures c.requires.held; i_lt_cells = omega (arith, ap (λ (f : Fill). f.cells) c.fill-f.ensures, c.requires.i_bound) }

pub returns : goal.returns
returns c = c.words.ensures ∙ cell-part c.args.job.now c.kinds.ensures c.ends.ensures c.pool.ensures c.fill-f.ensures c.args.i
