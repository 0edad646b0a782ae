use mathlib.Core.Path.{ap, ◌∙◌}
use Prim.Native.Nat.{ℕ}
use native.Mathlib.Omega.{arith}
use Rattle.model.specs.Cell.{Cell}
use Rattle.index.specs.Mixing.{golden, stirred, slot_of}
use Rattle.index.proofs.Arithmetic.{slot-within}
use Rattle.chains.proofs.slot_of.Goals as goal

pub returns : goal.returns
returns c = let a = c.args in
    let key : Cell = record { kind = stirred a.x 0 a.head golden; words = a.args.now } in
    let e = c.home.ensures ∙ ap (λ (k : ℕ). slot_of a.x a.n (record { kind = k; words = a.args.now })) c.stir_last.ensures in
    record { is = e; within = omega (arith, e, slot-within a.x a.n key c.requires) }
