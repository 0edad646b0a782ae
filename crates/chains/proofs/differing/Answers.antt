use mathlib.Core.Path.{◌≡◌, sym, subst, ◌∙◌}
use Prim.Native.Nat.{ℕ}
use native.Mathlib.Omega.{arith}
use Rattle.chains.specs.Chains.{words_of, same_key, Differ}
use Rattle.chains.proofs.Chaining.{differs_none, differs_more, differs-again, differs-all, hits-of}
use Rattle.chains.proofs.differing.Goals as goal

pub returns-then-all_differ : goal.returns-then-all_differ
returns-then-all_differ c = c.all_differ.ensures c.if-all_differ.true

pub loop-i-init : goal.loop-i-init
loop-i-init c = let a = c.args in differs_none (same_key a.keys.now.rows (words_of a.keys.now)) a.keys.now.count

pub returns-then-found_before : goal.returns-then-found_before
returns-then-found_before c = let a = c.args in
    let ws = words_of a.keys.now in
    let hit = hits-of a.keys.now.rows ws c.loop-i.i c.words-ws.ensures c.at.ensures c.key_arguments.ensures c.find-f.ensures in
    differs-again c.loop-i.invariant c.loop-i-test.true c.find-f.result hit (sym c.found_before.ensures ∙ c.if-found_before.true)

pub loop-i-preserved : goal.loop-i-preserved
loop-i-preserved c = let a = c.args in
    let ws = words_of a.keys.now in
    let hit = hits-of a.keys.now.rows ws c.loop-i.i c.words-ws.ensures c.at.ensures c.key_arguments.ensures c.find-f.ensures in
    differs_more c.loop-i.invariant c.loop-i-test.true c.find-f.result hit (sym c.found_before.ensures ∙ c.if-found_before.false)

pub returns : goal.returns
returns c = let a = c.args in
    let e : c.loop-i.i ≡ a.keys.now.count = omega arith in
    subst (λ (k : ℕ). Differ (same_key a.keys.now.rows (words_of a.keys.now)) a.keys.now.count k) e (differs-all c.loop-i.invariant (omega arith))
