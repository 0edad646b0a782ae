use mathlib.Core.Path.{◌∙◌}
use mathlib.Core.Bool.{true, false}
use mathlib.Core.Logic.{inl}
use native.Mathlib.Omega.{arith}
use lib.ListN.{length-set}
use Rattle.chains.proofs.Chaining.{within_both}
use Rattle.lookups.proofs.Keys.{chained-kept, within-set, within_wider}
use Rattle.lookups.proofs.chain_tables.Goals as goal

pub chain_table-requires : goal.chain_table-requires
chain_table-requires c = record { held = c.requires.held; count_bound = c.requires.held.limits.rows; start_bound = omega arith; in_bounds = omega (arith, length-set c.args.found.now 4096 c.args.x, c.requires.in_bounds) }

pub chain_table-requires-2 : goal.chain_table-requires-2
chain_table-requires-2 c = record { held = c.requires.held; count_bound = c.requires.held.limits.normalisers; start_bound = omega arith; in_bounds = omega (arith, c.chain_table.ensures.within.even, length-set c.args.found.now 4096 c.args.x, c.requires.in_bounds) }

pub chain_table-requires-3 : goal.chain_table-requires-3
chain_table-requires-3 c = record { held = c.requires.held; count_bound = c.requires.held.limits.rules; start_bound = omega arith; in_bounds = omega (arith, c.chain_table-2.ensures.within.even, c.chain_table.ensures.within.even, length-set c.args.found.now 4096 c.args.x, c.requires.in_bounds) }

pub chain_table-requires-4 : goal.chain_table-requires-4
chain_table-requires-4 c = record { held = c.requires.held; count_bound = c.requires.held.limits.functions; start_bound = omega arith; in_bounds = omega (arith, c.chain_table-3.ensures.within.even, c.chain_table-2.ensures.within.even, c.chain_table.ensures.within.even, length-set c.args.found.now 4096 c.args.x, c.requires.in_bounds) }

pub shape_of-found : goal.shape_of-found
shape_of-found c = c.chain_table-4.ensures.within.even ∙ c.chain_table-3.ensures.within.even ∙ c.chain_table-2.ensures.within.even ∙ c.chain_table.ensures.within.even ∙ length-set c.args.found.now 4096 c.args.x

pub returns : goal.returns
returns c = let a = c.args in
    let J = a.job.now in
    let l = c.requires.held.limits in
    record {
      keyed = record {
        rows = chained-kept J 6 true 4097 l.rows (omega arith) (omega arith) c.chain_table-4.ensures.within (inl (omega arith)) (chained-kept J 6 true 4097 l.rows (omega arith) (omega arith) c.chain_table-3.ensures.within (inl (omega arith)) (chained-kept J 6 true 4097 l.rows (omega arith) (omega arith) c.chain_table-2.ensures.within (inl (omega arith)) c.chain_table.ensures.chained));
        normalisers = chained-kept J 7 false 12289 l.normalisers (omega arith) (omega arith) c.chain_table-4.ensures.within (inl (omega arith)) (chained-kept J 7 false 12289 l.normalisers (omega arith) (omega arith) c.chain_table-3.ensures.within (inl (omega arith)) c.chain_table-2.ensures.chained);
        rules = chained-kept J 8 false 20481 l.rules (omega arith) (omega arith) c.chain_table-4.ensures.within (inl (omega arith)) c.chain_table-3.ensures.chained;
        functions = c.chain_table-4.ensures.chained;
      };
      within = within_both (within-set 4096 32769 4096 a.x a.found.now (omega arith) (omega arith)) (within_both (within_wider (omega arith) (omega arith) c.chain_table.ensures.within) (within_both (within_wider (omega arith) (omega arith) c.chain_table-2.ensures.within) (within_both (within_wider (omega arith) (omega arith) c.chain_table-3.ensures.within) (within_wider (omega arith) (omega arith) c.chain_table-4.ensures.within))));
    }
