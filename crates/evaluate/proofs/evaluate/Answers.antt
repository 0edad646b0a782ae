use Rattle.evaluate.proofs.Turns.{root-memo, root-done}
use Rattle.evaluate.specs.Value.{bindings_in}
use native.Mathlib.Omega.{arith}
use borrow.Author.Rules.{rules}
use Rattle.evaluate.proofs.evaluate.Goals as goal

pub new_round-requires : goal.new_round-requires
new_round-requires c = let l = c.requires.job_in_bounds in record { memo_nonzero = omega arith; past = c.requires.past }

pub eval-requires : goal.eval-requires
eval-requires c = let pre = c.requires in record { ready = pre.ready; keyed = pre.keyed; indexed = pre.indexed; e_bound = pre.e_bound; memo = root-memo (search rules) c.new_round.ensures }

pub returns-clause-does : goal.returns-clause-does
returns-clause-does c = let a = c.args in root-done a.fact a.scope.now.job.now a.scope.now.rule (bindings_in a.scope.now.bound.now a.scope.now.pairs.now a.scope.now.globals.now) c.requires.ready c.requires.e_bound (omega (arith, c.new_round.auto.memo, c.requires.job_in_bounds)) c.new_round.ensures c.eval.ensures.does
