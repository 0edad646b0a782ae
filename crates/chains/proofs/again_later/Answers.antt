use mathlib.Core.Path.{sym, ap, ◌∙◌}
use mathlib.Core.Bool.{true≢false}
use native.Mathlib.Omega.{arith}
use Rattle.chains.specs.Chains.{has_key, words_of}
use Rattle.chains.proofs.Chaining.{passed_first, passed-more, own-slot, own_key}
use Rattle.chains.proofs.again_later.Goals as goal

pub bounds-table-b : goal.bounds-table-b
bounds-table-b c = omega (arith, c.requires.chained.long)

pub loop-k-init : goal.loop-k-init
loop-k-init c = let a = c.args in let pre = c.requires in rw c.wide-k.ensures (passed_first (own-slot a.keys.now.rows (words_of a.keys.now) a.i c.words-own.ensures c.at-head.ensures c.key_arguments-args.ensures a.keys.now.multiplier a.keys.now.count) (pre.chained.numbers a.i (omega arith) pre.i_lt_n))

pub returns-then-has_key : goal.returns-then-has_key
returns-then-has_key c = λ e. absurd (true≢false e)

pub bounds-table-b-in-loop-k : goal.bounds-table-b-in-loop-k
bounds-table-b-in-loop-k c = omega (arith, c.requires.chained.long)

pub loop-k-smaller : goal.loop-k-smaller
loop-k-smaller c = let k = c.loop-k.k in let x = c.requires.chained.numbers k (omega arith) c.loop-k-test.true in omega (arith, x.least, c.wide-k-in-loop-k.ensures)

pub loop-k-preserved : goal.loop-k-preserved
loop-k-preserved c = let a = c.args in let k = c.loop-k.k in let miss = ap (λ us. has_key a.keys.now.rows us c.at-head.result c.key_arguments-args.result.now) (sym c.words-ws.ensures) ∙ sym c.has_key.ensures ∙ c.if-has_key.false in rw c.wide-k-in-loop-k.ensures (passed-more (own-slot a.keys.now.rows (words_of a.keys.now) a.i c.words-own.ensures c.at-head.ensures c.key_arguments-args.ensures a.keys.now.multiplier a.keys.now.count) c.loop-k.invariant c.loop-k-test.true miss (c.requires.chained.numbers k (omega arith) c.loop-k-test.true))

pub returns : goal.returns
returns c = λ e j u w. let a = c.args in sym (own_key a.keys.now.rows (words_of a.keys.now) a.i c.words-own.ensures c.at-head.ensures c.key_arguments-args.ensures j) ∙ c.loop-k.invariant.before j u (omega arith)
