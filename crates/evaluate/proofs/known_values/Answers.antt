use mathlib.Core.Path.{refl, ◌∙◌}
use native.Mathlib.Omega.{arith}
use borrow.Author.Rules.{rules}
use Rattle.evaluate.specs.Evaluation.{none}
use Rattle.evaluate.proofs.Waiting.{knows-length, unknown-next, first_more, first-same}
use Rattle.evaluate.proofs.known_values.Goals as goal

pub noted_values-i-requires : goal.noted_values-i-requires
noted_values-i-requires c = let pre = c.requires in let k = pre.job_in_bounds in record { args_len_bound = pre.args_len_bound; from_in_bounds = omega arith; by_index = λ j u. let l = pre.by_index j u in omega arith }

pub loop-i-init : goal.loop-i-init
loop-i-init c = (λ vals₀ W. W, refl)

pub known_value-known-requires : goal.known_value-known-requires
known_value-known-requires c = let pre = c.requires in let l = pre.by_index c.loop-i.i c.loop-i-test.true in let m = c.loop-i.invariant.1 in let k = pre.job_in_bounds in record { ready = pre.ready; e_bound = l; e_in_bounds = omega arith }

pub returns-in_default : goal.returns-in_default
returns-in_default c = record { known = first-same (unknown-next c.known_value-known.ensures c.in_default.is).1 (c.loop-i.invariant.0 _ (c.noted_values-i.ensures.more _ _ _ _ none)); next = λ u. (unknown-next c.known_value-known.ensures c.in_default.is).0 }

pub noted_values-i-requires-in-loop-i : goal.noted_values-i-requires-in-loop-i
noted_values-i-requires-in-loop-i c = let pre = c.requires in let k = pre.job_in_bounds in let m = c.loop-i.invariant.1 in let n = knows-length c.known_value-known.ensures in let t = c.loop-i-test.true in record { args_len_bound = pre.args_len_bound; from_in_bounds = omega arith; by_index = λ j u. let l = pre.by_index j u in omega arith }

pub loop-i-smaller : goal.loop-i-smaller
loop-i-smaller c = let f = c.noted_values-i-in-loop-i.ensures.far in let t = c.loop-i-test.true in omega arith

pub loop-i-preserved : goal.loop-i-preserved
loop-i-preserved c = (λ vals₀ W. c.noted_values-i-in-loop-i.ensures.more _ _ _ _ (first_more (c.loop-i.invariant.0 vals₀ W) c.loop-i-test.true c.known_value-known.ensures c.in-Some.is), knows-length c.known_value-known.ensures ∙ c.loop-i.invariant.1)

pub returns : goal.returns
returns c = record { known = c.loop-i.invariant.0 _ (c.noted_values-i.ensures.more _ _ _ _ none); next = λ u. absurd (search rules) }
