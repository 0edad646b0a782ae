use mathlib.Core.Path.{subst}
use mathlib.Core.Bool.{Bool}
use mathlib.Core.List.{[]}
use native.Mathlib.Omega.{arith}
use Rattle.chains.specs.Chains.{has_key, FirstHit}
use Rattle.program.specs.Ready.{number_of, count_for}
use Rattle.program.proofs.Words.{number-below}
use Rattle.program.proofs.Laws.{front-whole}
use Rattle.lookups.specs.Keyed.{words_in}
use Rattle.lookups.proofs.Keys.{named-first}
use Rattle.lookups.proofs.find_named.Goals as goal

pub first_named-requires : goal.first_named-requires
first_named-requires c = record { held = c.requires.held; count_bound = omega (arith, c.size-count.ensures) }

pub returns-then-count-lt-FEW : goal.returns-then-count-lt-FEW
returns-then-count-lt-FEW c = let a = c.args in
    record {
      is = front-whole a.job.now (number_of a.by.table) (number-below a.by.table) a.name c.size-count.ensures c.first_named.ensures.is;
      within = λ i e. omega (arith, c.first_named.ensures.within i e, c.size-count.ensures);
    }

pub find_key-requires : goal.find_key-requires
find_key-requires c = record { held = c.requires.held; start_bound = c.requires.start_bound; chained_table = c.requires.chained_table; bound = omega (arith, c.if-count-lt-FEW.false, c.size-count.ensures) }

pub returns : goal.returns
returns c = let a = c.args in
    let J = a.job.now in
    let k = number_of a.by.table in
    record {
      is = named-first J k (number-below a.by.table) a.name (subst (λ (rows : Bool). FirstHit (λ i. has_key rows (words_in J k i) a.name []) (count_for J k) c.find_key.result) c.requires.by_name c.find_key.ensures);
      within = λ i e. (c.find_key.ensures.there i e).0;
    }
