use mathlib.Core.Path.{refl}
use Rattle.termdag.specs.Store.{room_of, terms_in}
use Rattle.evaluate.proofs.HeadValues.{custom-found, finds-none}
use Rattle.evaluate.proofs.find_custom.Goals as goal

pub returns-then-fact : goal.returns-then-fact
returns-then-fact c = finds-none refl

pub returns : goal.returns
returns c = let a = c.args in
    let s = terms_in a.store.now.kinds.now a.store.now.ends.now a.store.now.pool.now a.fill in
    custom-found a.fact (room_of a.store.now.kinds.now a.store.now.pool.now) a.f a.args.now s c.if-fact.false c.find_call.ensures
