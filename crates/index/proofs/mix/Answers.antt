use Rattle.std.proofs.Common.{ℕ, ◌+◌, drop, sym, refl, ap, ◌∙◌, arith}
use Rattle.index.specs.Mixing.{mix_from, spread}
use Rattle.index.proofs.Arithmetic.{mix-more, mix-last, mix-end}
use Rattle.index.proofs.mix.Goals as goal

pub loop-i-init : goal.loop-i-init
loop-i-init c = (omega arith, refl)

pub stir-h-requires : goal.stir-h-requires
stir-h-requires c = c.times-y.ensures

pub loop-i-preserved : goal.loop-i-preserved
loop-i-preserved c = let l = c.loop-i in let a = c.args in
    (omega arith, l.invariant.1 ∙ mix-more a.x l.h a.ws.now l.i (omega arith) ∙ ap (λ (y : ℕ). mix_from a.x y (drop (l.i + 2) a.ws.now)) (sym c.stir-h.ensures))

pub returns-then-i-ws : goal.returns-then-i-ws
returns-then-i-ws c = let l = c.loop-i in let a = c.args in
    c.spread.ensures ∙ ap spread (c.stir_last.ensures ∙ sym (l.invariant.1 ∙ mix-last a.x l.h a.ws.now l.i (omega arith)))

pub returns : goal.returns
returns c = let l = c.loop-i in let a = c.args in c.spread-2.ensures ∙ ap spread (sym (l.invariant.1 ∙ mix-end a.x l.h a.ws.now l.i (omega arith)))
