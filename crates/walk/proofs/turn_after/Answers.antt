use mathlib.Core.Path.{refl}
use native.Mathlib.Omega.{arith}
use Rattle.walk.proofs.turn_after.Goals as goal

pub overflow_add-result : goal.overflow_add-result
overflow_add-result c = let l = c.requires.i_le_count in let m = c.requires.count_bound in omega arith

pub returns-then-state-eq0 : goal.returns-then-state-eq0
returns-then-state-eq0 c = let z = c.if-state-eq0.true in record { least = omega arith; fresh = λ _. refl; last = λ u. absurd (u z); more = λ _. refl }

pub overflow_add-i : goal.overflow_add-i
overflow_add-i c = let l = c.requires.i_le_count in let m = c.requires.count_bound in omega arith

pub overflow_add-result-then-i-count : goal.overflow_add-result-then-i-count
overflow_add-result-then-i-count c = let l = c.requires.i_le_count in let m = c.requires.count_bound in omega arith

pub returns-then-i-count : goal.returns-then-i-count
returns-then-i-count c = let z = c.if-state-eq0.false in let e = c.if-i-count.true in record { least = omega arith; fresh = λ u. absurd (z u); last = λ _ _. refl; more = λ u. absurd (u e) }

pub overflow_add-result-2 : goal.overflow_add-result-2
overflow_add-result-2 c = let l = c.requires.i_le_count in let m = c.requires.count_bound in omega arith

pub returns : goal.returns
returns c = let z = c.if-state-eq0.false in let e = c.if-i-count.false in record { least = omega arith; fresh = λ _. refl; last = λ _ u. absurd (e u); more = λ _. refl }
