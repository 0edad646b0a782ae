use native.Mathlib.Omega.{arith}
use Rattle.decode.proofs.Laws.{past}
use Rattle.decode.proofs.read_fact.Goals as goal

pub bounds-words-0 : goal.bounds-words-0
bounds-words-0 c = let h = rw c.in-0.is at c.requires in omega arith

pub bounds-words-1 : goal.bounds-words-1
bounds-words-1 c = let h = rw c.in-0.is at c.requires in omega arith

pub bounds-words-0-in_default : goal.bounds-words-0-in_default
bounds-words-0-in_default c = let h = rw (past 1 _ c.in_default.in_default-own.rest) at c.requires in omega arith

pub returns-in-0 : goal.returns-in-0
returns-in-0 c = λ expr i. rw c.in-0.is

pub returns-in_default : goal.returns-in_default
returns-in_default c = λ expr i. rw (past 1 _ c.in_default.in_default-own.rest)
