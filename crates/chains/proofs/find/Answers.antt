use mathlib.Core.Path.{sym, ap, ◌∙◌}
use native.Mathlib.Omega.{arith}
use Rattle.chains.specs.Chains.{has_key, words_of, slot_at}
use Rattle.chains.proofs.Chaining.{key-slot, passed_first, passed-more, hit-there, hit-none, none-there}
use Rattle.chains.proofs.find.Goals as goal

pub returns-then-n-eq0 : goal.returns-then-n-eq0
returns-then-n-eq0 c = let a = c.args in
    let ws = words_of a.keys.now in
    none-there (slot_at a.keys.now.multiplier a.keys.now.count a.keys.now.rows ws) (λ j. has_key a.keys.now.rows (ws j) a.head a.args.now) c.if-n-eq0.true

pub bounds-table-b : goal.bounds-table-b
bounds-table-b c = omega (arith, c.slot_of-s.ensures.within, c.requires.chained.long)

pub loop-i-init : goal.loop-i-init
loop-i-init c = let a = c.args in
    let ws = words_of a.keys.now in
    let s = c.slot_of-s.result in
    rw c.wide-i.ensures (passed_first (λ j e. key-slot a.keys.now.multiplier a.keys.now.count a.keys.now.rows (ws j) a.head a.args.now e ∙ sym c.slot_of-s.ensures.is) (c.requires.chained.slots s c.slot_of-s.ensures.within))

pub returns-then-has_key : goal.returns-then-has_key
returns-then-has_key c = let a = c.args in
    hit-there c.loop-i.invariant c.loop-i-test.true (ap (λ us. has_key a.keys.now.rows us a.head a.args.now) (sym c.words-ws.ensures) ∙ sym c.has_key.ensures ∙ c.if-has_key.true)

pub bounds-table-b-in-loop-i : goal.bounds-table-b-in-loop-i
bounds-table-b-in-loop-i c = omega (arith, c.requires.chained.long)

pub loop-i-smaller : goal.loop-i-smaller
loop-i-smaller c = let i = c.loop-i.i in
    let x = c.requires.chained.numbers i (omega arith) c.loop-i-test.true in
    omega (arith, x.least, c.wide-i-in-loop-i.ensures)

pub loop-i-preserved : goal.loop-i-preserved
loop-i-preserved c = let a = c.args in
    let ws = words_of a.keys.now in
    let i = c.loop-i.i in
    let miss = ap (λ us. has_key a.keys.now.rows us a.head a.args.now) (sym c.words-ws.ensures) ∙ sym c.has_key.ensures ∙ c.if-has_key.false in
    rw c.wide-i-in-loop-i.ensures (passed-more (λ j e. key-slot a.keys.now.multiplier a.keys.now.count a.keys.now.rows (ws j) a.head a.args.now e ∙ sym c.slot_of-s.ensures.is) c.loop-i.invariant c.loop-i-test.true miss (c.requires.chained.numbers i (omega arith) c.loop-i-test.true))

pub returns : goal.returns
returns c = hit-none c.loop-i.invariant (omega arith)
