use Rattle.decode.proofs.Laws.{past}
use Rattle.decode.proofs.read_head.Goals as goal

pub read_literal-requires : goal.read_literal-requires
read_literal-requires c = rw c.in-0.is at c.requires

pub bounds-words-0 : goal.bounds-words-0
bounds-words-0 c = rw c.in-1.is at c.requires

pub bounds-words-0-in-2 : goal.bounds-words-0-in-2
bounds-words-0-in-2 c = rw c.in-2.is at c.requires

pub bounds-words-0-in-3 : goal.bounds-words-0-in-3
bounds-words-0-in-3 c = rw c.in-3.is at c.requires

pub bounds-words-0-in_default : goal.bounds-words-0-in_default
bounds-words-0-in_default c = rw (past 4 _ c.in_default.in_default-own.rest) at c.requires

pub returns-in-0 : goal.returns-in-0
returns-in-0 c = rw (c.in-0.is, c.read_literal.ensures)

pub returns-in-1 : goal.returns-in-1
returns-in-1 c = rw c.in-1.is

pub returns-in-2 : goal.returns-in-2
returns-in-2 c = rw c.in-2.is

pub returns-in-3 : goal.returns-in-3
returns-in-3 c = rw c.in-3.is

pub returns-in_default : goal.returns-in_default
returns-in_default c = rw (past 4 _ c.in_default.in_default-own.rest)
