use mathlib.Core.Path.{refl}
use mathlib.Core.Bool.{cond}
use Rattle.termdag.specs.Store.{terms_in, room_of}
use Rattle.program.specs.Ready.{program_for}
use Rattle.evaluate.proofs.HeadValues.{finds-none, head-finds}
use Rattle.evaluate.proofs.find_value.Goals as goal

pub find_validated-requires : goal.find_validated-requires
find_validated-requires c = let pre = c.requires in record { ready = pre.ready; keyed = pre.keyed; indexed = pre.indexed; p_bound = pre.by_index _ c.in-Primitive.is }

pub returns-in-Lit : goal.returns-in-Lit
returns-in-Lit c = let a = c.args in let room = room_of a.store.now.kinds.now a.store.now.pool.now in let s = terms_in a.store.now.kinds.now a.store.now.ends.now a.store.now.pool.now a.fill in λ rule σ. head-finds a.fact room (program_for a.job.now) rule σ a.args.now s a.head _ c.in-Lit.is c.find_lit.ensures.known

pub returns-in-Var : goal.returns-in-Var
returns-in-Var c = λ rule σ. finds-none refl

pub returns-in-Constructor : goal.returns-in-Constructor
returns-in-Constructor c = let a = c.args in let room = room_of a.store.now.kinds.now a.store.now.pool.now in let s = terms_in a.store.now.kinds.now a.store.now.ends.now a.store.now.pool.now a.fill in λ rule σ. head-finds a.fact room (program_for a.job.now) rule σ a.args.now s a.head _ c.in-Constructor.is c.find_call.ensures

pub returns-in-Custom : goal.returns-in-Custom
returns-in-Custom c = let a = c.args in let room = room_of a.store.now.kinds.now a.store.now.pool.now in let s = terms_in a.store.now.kinds.now a.store.now.ends.now a.store.now.pool.now a.fill in λ rule σ. head-finds a.fact room (program_for a.job.now) rule σ a.args.now s a.head _ c.in-Custom.is c.find_custom.ensures

pub returns-in-Primitive : goal.returns-in-Primitive
returns-in-Primitive c = let a = c.args in let room = room_of a.store.now.kinds.now a.store.now.pool.now in let s = terms_in a.store.now.kinds.now a.store.now.ends.now a.store.now.pool.now a.fill in λ rule σ. head-finds a.fact room (program_for a.job.now) rule σ a.args.now s a.head _ c.in-Primitive.is (c.find_validated.ensures (cond a.fact 47 51))
