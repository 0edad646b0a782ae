use mathlib.Core.Path.{sym}
use mathlib.Core.Bool.{true≢false}
use native.Mathlib.Omega.{arith}
use Rattle.chains.specs.Chains.{words_of, same_key}
use Rattle.chains.proofs.Chaining.{unlike-none, unlike-more, unlike-all}
use Rattle.chains.proofs.all_differ.Goals as goal

pub loop-i-init : goal.loop-i-init
loop-i-init c = let a = c.args in unlike-none (same_key a.keys.now.rows (words_of a.keys.now)) a.keys.now.count

pub again_later-requires : goal.again_later-requires
again_later-requires c = let pre = c.requires in record { formed = pre.formed; n_bound = pre.n_bound; chained = pre.chained; i_lt_n = c.loop-i-test.true }

pub returns-then-again_later : goal.returns-then-again_later
returns-then-again_later c = λ e. absurd (true≢false (sym e))

pub loop-i-preserved : goal.loop-i-preserved
loop-i-preserved c = unlike-more c.loop-i.invariant c.loop-i-test.true (c.again_later.ensures c.if-again_later.false)

pub returns : goal.returns
returns c = λ e. let a = c.args in unlike-all a.keys.now.rows (words_of a.keys.now) c.loop-i.invariant (omega arith)
