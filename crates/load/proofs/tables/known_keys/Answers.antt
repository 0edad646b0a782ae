use native.Mathlib.Omega.{arith}
use mathlib.Core.Path.{refl, ap, subst}
use lib.Dec.{eqb}
use Rattle.chains.specs.Chains.{words_from, same_key, Differ}
use Rattle.cells.specs.declared.Table.{Table}
use Rattle.load.specs.Held.{sizes_in}
use Rattle.load.proofs.TableLaws.{formed-table, none_pass, number-count, keyed-table, keyed-few, keys-pass}
use Rattle.load.proofs.tables.known_keys.Goals as goal

pub returns-then-span-lt64 : goal.returns-then-span-lt64
returns-then-span-lt64 c = none_pass

pub chain-requires : goal.chain-requires
chain-requires c = let s = c in
    let a = s.args in
    let e = s.requires.table_value in
    let n = number-count (sizes_in a.cells.now.sizes) a.span.table (keyed-table a.span.table e) in
    record { formed = formed-table c.table.ensures s.requires.held; n_bound = omega (arith, n, ap (λ (x : Table). x.fill.cells) c.table.ensures, s.requires.first_value, s.requires.count_value); n_in_bounds = omega (arith, keyed-few (sizes_in a.cells.now.sizes) a.span.table s.requires.held.limits e, s.requires.count_value) }

pub differing-requires : goal.differing-requires
differing-requires c = let s = c in
    let a = s.args in
    let n = number-count (sizes_in a.cells.now.sizes) a.span.table (keyed-table a.span.table s.requires.table_value) in
    record { formed = formed-table c.table.ensures s.requires.held; n_bound = omega (arith, n, ap (λ (x : Table). x.fill.cells) c.table.ensures, s.requires.first_value, s.requires.count_value); chained = c.chain.ensures.chained }

pub returns : goal.returns
returns c = let s = c in
    let a = s.args in
    let d = subst (λ (t : Table). Differ (same_key (eqb a.span.table 6) (words_from t.kinds.now t.ends.now t.pool.now t.fill a.span.first)) a.span.count c.differing.result) c.table.ensures c.differing.ensures in
    keys-pass {z = a.cells.now.sizes} a.span.table a.span.first a.span.count _ s.requires.table_value s.requires.first_value s.requires.count_value refl d
