use native.Mathlib.Omega.{arith}
use Rattle.decode.proofs.Laws.{past}
use Rattle.decode.proofs.read_action.Goals as goal

pub bounds-words-0 : goal.bounds-words-0
bounds-words-0 c = let h = rw c.in-0.is at c.requires in omega arith

pub bounds-words-1 : goal.bounds-words-1
bounds-words-1 c = let h = rw c.in-0.is at c.requires in omega arith

pub bounds-words-0-in-1 : goal.bounds-words-0-in-1
bounds-words-0-in-1 c = let h = rw c.in-1.is at c.requires in omega arith

pub bounds-words-1-in-1 : goal.bounds-words-1-in-1
bounds-words-1-in-1 c = let h = rw c.in-1.is at c.requires in omega arith

pub bounds-words-0-in-2 : goal.bounds-words-0-in-2
bounds-words-0-in-2 c = let h = rw c.in-2.is at c.requires in omega arith

pub bounds-words-0-in-3 : goal.bounds-words-0-in-3
bounds-words-0-in-3 c = let h = rw c.in-3.is at c.requires in omega arith

pub returns-in-0 : goal.returns-in-0
returns-in-0 c = λ expr. rw c.in-0.is

pub returns-in-1 : goal.returns-in-1
returns-in-1 c = λ expr. rw c.in-1.is

pub returns-in-2 : goal.returns-in-2
returns-in-2 c = λ expr. rw c.in-2.is

pub returns-in-3 : goal.returns-in-3
returns-in-3 c = λ expr. rw c.in-3.is

pub returns-in_default : goal.returns-in_default
returns-in_default c = λ expr. rw (past 4 _ c.in_default.in_default-own.rest)
