use Rattle.model.specs.Term.{read_term}
use Rattle.decode.proofs.Laws.{past}
use Rattle.decode.proofs.read_term.Goals as goal

pub read_literal-requires : goal.read_literal-requires
read_literal-requires c = rw c.in-0.is at c.requires

pub bounds-words-0 : goal.bounds-words-0
bounds-words-0 c = rw c.in-1.is at c.requires

pub bounds-words-0-in_default : goal.bounds-words-0-in_default
bounds-words-0-in_default c = rw (past 2 _ c.in_default.in_default-own.rest) at c.requires

pub returns-in-0 : goal.returns-in-0
unfolding read_term
returns-in-0 c = rw (c.in-0.is, c.read_literal.ensures)

pub returns-in-1 : goal.returns-in-1
unfolding read_term
returns-in-1 c = rw c.in-1.is

pub returns-in_default : goal.returns-in_default
unfolding read_term
returns-in_default c = rw (past 2 _ c.in_default.in_default-own.rest)
