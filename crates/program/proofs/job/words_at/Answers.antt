use native.Mathlib.Omega.{arith}
use Rattle.program.specs.Ready.{number_of}
use Rattle.program.proofs.Words.{number-below, inside, words-in}
use Rattle.program.proofs.job.words_at.Goals as goal

pub overflow_add-k : goal.overflow_add-k
overflow_add-k c = omega (arith, inside c.args.job.now (number_of c.args.table) (number-below c.args.table) c.args.i c.requires.i_bound, c.nearest_first.ensures, c.requires.held.long)

pub cell_words-requires : goal.cell_words-requires
cell_words-requires c = record { held = c.requires.held; i_bound = omega (arith, inside c.args.job.now (number_of c.args.table) (number-below c.args.table) c.args.i c.requires.i_bound, c.nearest_first.ensures, c.requires.held.long) }

pub returns : goal.returns
returns c = words-in c.args.job.now (number_of c.args.table) (number-below c.args.table) c.args.i c.requires.i_bound c.nearest_first.ensures c.cell_words.ensures
