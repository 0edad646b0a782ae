use Rattle.termdag.specs.Store.{terms_in, room_of}
use Rattle.decode.specs.View.{kind_of}
use Rattle.model.specs.Counts.{count_value}
use Rattle.model.specs.Evaluate.{counts_in}
use mathlib.Core.Path.{sym, ap, ◌∙◌}
use mathlib.Core.Option.{none-ne-some}
use Rattle.counts.specs.Counted.{counted}
use Rattle.computing.proofs.Laws.{not_known, count-found, counted_is, count-absent}
use Rattle.computing.proofs.find_result.Goals as goal

pub returns-in-Some-clause-known : goal.returns-in-Some-clause-known
returns-in-Some-clause-known c = let a = c.args in let s = terms_in a.store.now.kinds.now a.store.now.ends.now a.store.now.pool.now a.fill in λ name. count-found (room_of a.store.now.kinds.now a.store.now.pool.now) s (count_value (kind_of a.operation) (counts_in s a.args.now)) name c.counted_value.result _ c.find_lit.result c.in-Some.is c.counted_value.ensures c.find_lit.ensures.known

pub returns-in-None-clause-known : goal.returns-in-None-clause-known
returns-in-None-clause-known c = λ name. not_known

pub returns-in-Some-clause-none : goal.returns-in-Some-clause-none
returns-in-Some-clause-none c = λ v e q. count-absent _ (counted_is c.counted_value.ensures c.in-Some.is e) (c.find_lit.ensures.none q)

pub returns-in-None-clause-none : goal.returns-in-None-clause-none
returns-in-None-clause-none c = λ v e q. absurd (none-ne-some v (sym (ap counted c.in-None.is) ∙ c.counted_value.ensures ∙ e))
