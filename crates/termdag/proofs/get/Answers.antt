use Rattle.termdag.proofs.Laws.{has_words, get-term}
use Rattle.termdag.proofs.get.Goals as goal

pub read_term-requires : goal.read_term-requires
read_term-requires c = let s = c in
    has_words s.requires.stored s.args.t s.requires.t_lt_cells _ c.words-ws.ensures

pub returns : goal.returns
returns c = let s = c in
    get-term s.requires.stored s.args.t s.requires.t_lt_cells _ c.words-ws.ensures c.read_term.result _ c.read_term.ensures
