use mathlib.Core.Path.{◌≡◌, ap, ap₂, subst, ◌∙◌}
use mathlib.Core.List.{List}
use Prim.Native.Nat.{ℕ, suc, ◌+◌, ◌-◌, ◌<◌}
use native.Mathlib.Omega.{arith}
use lib.ListN.{get_or}
use Rattle.chains.specs.Chains.{key_arguments, key_slot, words_of, slot_at, Chained}
use Rattle.chains.proofs.Chaining.{chained-none, within_same, within_both, within_more, within-linked, chained_more}
use Rattle.chains.proofs.chain.Goals as goal

pub empty-requires : goal.empty-requires
empty-requires c = record { n_in_bounds = omega (arith, c.requires.n_in_bounds); n_bound = omega (arith, c.requires.formed.few, c.requires.formed.kinds, c.requires.n_bound) }

pub loop-i-init : goal.loop-i-init
loop-i-init c = let a = c.args in
    let e = c.empty.ensures in
    (chained-none (slot_at a.keys.now.multiplier a.keys.now.count a.keys.now.rows (words_of a.keys.now)) c.requires.n_in_bounds e, within_same a.b (a.keys.now.count + a.keys.now.count) _, omega arith)

pub link-requires : goal.link-requires
link-requires c = record { n_in_bounds = c.loop-i.invariant.0.long; s_lt_n = c.slot_of-s.ensures.within; i_lt_n = omega (arith, c.loop-i.invariant.2, c.loop-i-test.true); n_bound = omega (arith, c.requires.formed.few, c.requires.formed.kinds, c.requires.n_bound) }

pub loop-i-preserved : goal.loop-i-preserved
loop-i-preserved c = let a = c.args in
    let ws = words_of a.keys.now in
    let slot = slot_at a.keys.now.multiplier a.keys.now.count a.keys.now.rows ws in
    let i = c.loop-i.i - 1 in
    let l = c.loop-i.invariant in
    let e = c.link.ensures in
    let s = c.slot_of-s.result in
    let q : s ≡ slot i = c.slot_of-s.ensures.is
    ∙ ap₂ (key_slot a.keys.now.multiplier a.keys.now.count) (c.at.ensures ∙ ap (λ (us : List ℕ). get_or us 0 0) c.words-ws.ensures) (c.key_arguments.ensures ∙ ap (key_arguments a.keys.now.rows) c.words-ws.ensures) in
    let back : c.loop-i.i ≡ suc i = omega (arith, c.loop-i-test.true) in
    let h : i < a.keys.now.count = omega (arith, l.2, c.loop-i-test.true) in
    (chained_more e h c.slot_of-s.ensures.within q (subst (λ (m : ℕ). Chained slot a.keys.now.count a.b m c.loop-i.table) back l.0), within-linked e h c.slot_of-s.ensures.within l.1, omega arith)

pub shape_of-table : goal.shape_of-table
shape_of-table c = c.loop-i.invariant.1.even ∙ c.empty.ensures.within.even

pub returns : goal.returns
returns c = let a = c.args in
    let l = c.loop-i.invariant in
    let z : c.loop-i.i ≡ 0 = omega (arith, c.loop-i-test.false) in
    record { chained = subst (λ (m : ℕ). Chained (slot_at a.keys.now.multiplier a.keys.now.count a.keys.now.rows (words_of a.keys.now)) a.keys.now.count a.b m c.loop-i.table) z l.0; within = within_both (within_more c.empty.ensures.within) l.1 }
