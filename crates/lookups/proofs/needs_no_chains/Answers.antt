use mathlib.Core.Bool.{◌&&◌}
use native.Mathlib.Omega.{arith}
use lib.Dec.{ltb}
use Rattle.model.proofs.Tests.{lt_of, and_left, and_right}
use Rattle.lookups.proofs.Keys.{chained-few}
use Rattle.lookups.proofs.needs_no_chains.Goals as goal

pub returns : goal.returns
returns c e N = let J = c.args.job.now in
    let q = ltb c.size.result 64 in
    let n = ltb c.size-2.result 64 in
    let r = ltb c.size-3.result 64 in
    let u = ltb c.size-4.result 64 in
    let three = and_left (q && n && r) u e in
    let two = and_left (q && n) r three in
    record {
      rows = chained-few J N 6 _ _ (omega (arith, lt_of c.size.result 64 (and_left q n two), c.size.ensures));
      normalisers = chained-few J N 7 _ _ (omega (arith, lt_of c.size-2.result 64 (and_right q n two), c.size-2.ensures));
      rules = chained-few J N 8 _ _ (omega (arith, lt_of c.size-3.result 64 (and_right (q && n) r three), c.size-3.ensures));
      functions = chained-few J N 4 _ _ (omega (arith, lt_of c.size-4.result 64 (and_right (q && n && r) u e), c.size-4.ensures));
    }
