use Prim.Native.Nat.{◌≤◌}
use native.Mathlib.Omega.{arith}
use Rattle.chains.specs.Chains.{words_from, slot_at, Chained}
use Rattle.chains.proofs.Chaining.{within_same}
use Rattle.program.specs.Ready.{count_for, number_of}
use Rattle.lookups.proofs.Keys.{from-keys, keys-formed, keys-within, chained-few, chained-made, within_wider}
use Rattle.program.proofs.Words.{number-below}
use Rattle.lookups.proofs.chain_table.Goals as goal

pub returns-then-size-lt-FEW : goal.returns-then-size-lt-FEW
returns-then-size-lt-FEW c = let a = c.args in
    record { chained = chained-few a.job.now a.found.now (number_of a.by.table) a.by.rows a.by.start (omega (arith, c.if-size-lt-FEW.true, c.size.ensures)); within = within_same a.by.start 8192 a.found.now }

pub chain-requires : goal.chain-requires
chain-requires c = let a = c.args in
    let e = c.keys_of-keys.ensures in
    let few : 64 ≤ count_for a.job.now (number_of a.by.table) = omega (arith, c.if-size-lt-FEW.false, c.size.ensures) in
    record { formed = keys-formed e c.requires.held; n_bound = keys-within e (number-below a.by.table) few; n_in_bounds = omega (arith, e.count, c.requires.count_bound, c.requires.in_bounds) }

pub returns : goal.returns
returns c = let a = c.args in
    let e = c.keys_of-keys.ensures in
    let w = c.chain.ensures.within in record {
      chained = chained-made a.job.now (number_of a.by.table) a.by.rows a.by.start c.requires.start_bound w (from-keys e (λ K E P f first n rows x. Chained (slot_at x n rows (words_from K E P f first)) n a.by.start 0 c.chain.new.table) c.chain.ensures.chained);
      within = within_wider {c = a.by.start} {m = 8192} (omega arith) (omega (arith, e.count, c.requires.count_bound)) w;
    }
