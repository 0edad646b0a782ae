use Rattle.termdag.specs.Store.{terms_in}
use Rattle.decode.specs.View.{kind_of}
use Rattle.model.specs.Counts.{count_value}
use Rattle.model.specs.Evaluate.{counts_in}
use mathlib.Core.List.{List}
use Rattle.model.specs.Term.{Term}
use Rattle.termdag.proofs.Viewing.{seen}
use Rattle.computing.proofs.Laws.{count-added, count_none}
use Rattle.computing.proofs.compute.Goals as goal

pub returns-in-Some-clause-does : goal.returns-in-Some-clause-does
returns-in-Some-clause-does c = let a = c.args in let s = terms_in a.store.now.kinds.now a.store.now.ends.now a.store.now.pool.now a.fill in count-added (count_value (kind_of a.operation) (counts_in s a.args.now)) a.name c.counted_value.result _ c.add_lit.result c.in-Some.is (seen a.store.now c.view.result a.fill c.view.ensures (λ (ts : List Term). count_value (kind_of a.operation) (counts_in ts a.args.now)) c.counted_value.ensures) c.add_lit.ensures.does

pub returns-in-None-clause-does : goal.returns-in-None-clause-does
returns-in-None-clause-does c = let a = c.args in let s = terms_in a.store.now.kinds.now a.store.now.ends.now a.store.now.pool.now a.fill in count_none (count_value (kind_of a.operation) (counts_in s a.args.now)) a.name c.requires c.counted_value.result c.refuse1.result c.in-None.is (seen a.store.now c.view.result a.fill c.view.ensures (λ (ts : List Term). count_value (kind_of a.operation) (counts_in ts a.args.now)) c.counted_value.ensures) c.refuse1.ensures
