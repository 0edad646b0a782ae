use Rattle.program.specs.Ready.{number_of}
use native.Mathlib.Omega.{arith}
use Rattle.chains.specs.Chains.{has_key, words_from, slot_at, Chained, FirstHit}
use Rattle.lookups.proofs.Keys.{to-keys, from-keys, keys-formed, keys-within}
use Rattle.program.proofs.Words.{number-below}
use Rattle.lookups.proofs.find_key.Goals as goal

pub bounds-found-4096 : goal.bounds-found-4096
bounds-found-4096 c = omega (arith, (c.requires.chained_table.chained c.requires.bound).long, c.requires.start_bound, c.requires.bound)

pub find-requires : goal.find-requires
find-requires c = let a = c.args in
    let pre = c.requires in
    let e = c.keys_of-keys.ensures in
    record {
      formed = keys-formed e pre.held;
      n_bound = keys-within e (number-below a.by.table) pre.bound;
      chained = to-keys e (λ K E P f first n rows x. Chained (slot_at x n rows (words_from K E P f first)) n a.by.start 0 a.found.now) (pre.chained_table.chained pre.bound);
    }

pub returns : goal.returns
returns c = let a = c.args in
    from-keys c.keys_of-keys.ensures (λ K E P f first n rows x. FirstHit (λ i. has_key rows (words_from K E P f first i) a.head a.args.now) n c.find.result) c.find.ensures
