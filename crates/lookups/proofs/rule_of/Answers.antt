use mathlib.Core.Path.{refl}
use native.Mathlib.Omega.{arith}
use Rattle.model.specs.Layout.{sizes_of}
use Rattle.program.specs.Ready.{tables_for}
use Rattle.program.proofs.Laws.{rules-read}
use Rattle.lookups.proofs.Laws.{rule_found}
use Rattle.lookups.proofs.rule_of.Goals as goal

pub find_named-requires : goal.find_named-requires
find_named-requires c = record { held = c.requires.ready.held; start_bound = omega arith; by_name = refl; chained_table = c.requires.keyed.rules }

pub returns : goal.returns
returns c = let a = c.args in
    let J = a.job.now in
    record {
      is = rw (rules-read (sizes_of J).globals (tables_for J)) (rule_found _ _ (tables_for J).rules a.name c.find_named.result c.find_named.ensures.is);
      within = c.find_named.ensures.within;
    }
