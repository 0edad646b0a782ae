use native.Mathlib.Omega.{arith}
use lib.Dec.{lit<}
use Rattle.chains.specs.Chains.{same_key, words_from, slot_at, Chained, Differ}
use Rattle.lookups.proofs.Keys.{to-keys, from-keys, keys-formed, keys-within}
use Rattle.lookups.proofs.differing_rules.Goals as goal

pub bounds-found-4096 : goal.bounds-found-4096
bounds-found-4096 c = omega (arith, (c.requires.chained_table.chained c.requires.bound).long, c.requires.bound)

pub differing-requires : goal.differing-requires
differing-requires c = let a = c.args in
    let pre = c.requires in
    let e = c.keys_of-keys.ensures in
    record {
      formed = keys-formed e pre.held;
      n_bound = keys-within e (lit< tt) pre.bound;
      chained = to-keys e (λ K E P f first n rows x. Chained (slot_at x n rows (words_from K E P f first)) n 20481 0 a.found.now) (pre.chained_table.chained pre.bound);
    }

pub returns : goal.returns
returns c =
    from-keys c.keys_of-keys.ensures (λ K E P f first n rows x. Differ (same_key rows (words_from K E P f first)) n c.differing.result) c.differing.ensures
