use mathlib.Core.Path.{◌∙◌}
use Rattle.termdag.proofs.Laws.{has_word, get-children}
use Rattle.termdag.proofs.children.Goals as goal

pub read_arguments-requires : goal.read_arguments-requires
read_arguments-requires c = let s = c in
    has_word s.requires.stored s.args.t s.requires.t_lt_cells _ c.words-ws.ensures

pub returns : goal.returns
returns c = let s = c in
    c.read_arguments.ensures ∙ get-children s.requires.stored s.args.t s.requires.t_lt_cells _ c.words-ws.ensures
