use native.Mathlib.Omega.{arith}
use Rattle.decode.proofs.Laws.{past}
use Rattle.decode.proofs.read_justification.Goals as goal

pub bounds-words-2 : goal.bounds-words-2
bounds-words-2 c = let h = rw c.in-1.is at c.requires in omega arith

pub bounds-words-3 : goal.bounds-words-3
bounds-words-3 c = let h = rw c.in-1.is at c.requires in omega arith

pub bounds-words-2-in-2 : goal.bounds-words-2-in-2
bounds-words-2-in-2 c = let h = rw c.in-2.is at c.requires in omega arith

pub bounds-words-3-in-2 : goal.bounds-words-3-in-2
bounds-words-3-in-2 c = let h = rw c.in-2.is at c.requires in omega arith

pub bounds-words-4 : goal.bounds-words-4
bounds-words-4 c = let h = rw c.in-2.is at c.requires in omega arith

pub bounds-words-2-in-3 : goal.bounds-words-2-in-3
bounds-words-2-in-3 c = let h = rw c.in-3.is at c.requires in omega arith

pub bounds-words-3-in-3 : goal.bounds-words-3-in-3
bounds-words-3-in-3 c = let h = rw c.in-3.is at c.requires in omega arith

pub bounds-words-2-in-4 : goal.bounds-words-2-in-4
bounds-words-2-in-4 c = let h = rw c.in-4.is at c.requires in omega arith

pub bounds-words-2-in-5 : goal.bounds-words-2-in-5
bounds-words-2-in-5 c = let h = rw c.in-5.is at c.requires in omega arith

pub bounds-words-3-in-5 : goal.bounds-words-3-in-5
bounds-words-3-in-5 c = let h = rw c.in-5.is at c.requires in omega arith

pub bounds-words-4-in-5 : goal.bounds-words-4-in-5
bounds-words-4-in-5 c = let h = rw c.in-5.is at c.requires in omega arith

pub bounds-words-2-in-6 : goal.bounds-words-2-in-6
bounds-words-2-in-6 c = let h = rw c.in-6.is at c.requires in omega arith

pub returns-in-0 : goal.returns-in-0
returns-in-0 c = record { is = rw c.in-0.is; premises = λ s e. cc }

pub returns-in-1 : goal.returns-in-1
returns-in-1 c = record { is = rw c.in-1.is; premises = λ s e. cc }

pub returns-in-2 : goal.returns-in-2
returns-in-2 c = record { is = rw c.in-2.is; premises = λ s e. cc }

pub returns-in-3 : goal.returns-in-3
returns-in-3 c = record { is = rw c.in-3.is; premises = λ s e. cc }

pub returns-in-4 : goal.returns-in-4
returns-in-4 c = record { is = rw c.in-4.is; premises = λ s e. cc }

pub returns-in-5 : goal.returns-in-5
returns-in-5 c = record { is = rw c.in-5.is; premises = λ s e. cc }

pub returns-in-6 : goal.returns-in-6
returns-in-6 c = record { is = rw c.in-6.is; premises = λ s e. cc }

pub returns-in_default : goal.returns-in_default
returns-in_default c = record { is = rw (past 7 _ c.in_default.in_default-own.rest); premises = λ s e. cc }
