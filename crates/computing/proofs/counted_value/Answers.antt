use mathlib.Core.Path.{refl}
use Rattle.termdag.specs.Store.{terms_in}
use Rattle.model.specs.Evaluate.{counts_in}
use Rattle.computing.proofs.Laws.{given}
use Rattle.computing.proofs.counted_value.Goals as goal

pub returns : goal.returns
returns c = let a = c.args in let s = terms_in a.store.now.kinds.now a.store.now.ends.now a.store.now.pool.now a.fill in c.value_of.ensures (counts_in s a.args.now) (given s a.args.now _ _ _ refl c.argument-a.ensures c.argument-b.ensures)
