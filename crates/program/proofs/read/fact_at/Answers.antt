use Rattle.program.proofs.Reading.{fact-words, fact-read}
use Rattle.program.proofs.Words.{cell-read}
use Rattle.program.proofs.read.fact_at.Goals as goal

pub read_fact-requires : goal.read_fact-requires
read_fact-requires c = fact-words c.requires.ready c.args.i c.requires.i_bound (cell-read _ c.kind_at.ensures c.words_at.ensures)

pub returns : goal.returns
returns c = fact-read c.requires.ready c.args.i c.requires.i_bound (cell-read _ c.kind_at.ensures c.words_at.ensures) c.read_fact.result c.read_fact.ensures
