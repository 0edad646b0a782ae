use Rattle.std.proofs.Common.{ℕ, ◌+◌, ◌%◌, ◌^◌, sym, ap, ◌∙◌}
use Rattle.index.specs.Mixing.{golden, multiplier_of}
use Rattle.index.proofs.Arithmetic.{first-none}
use Rattle.index.proofs.multiplier.Goals as goal

pub returns-then-index-eq0 : goal.returns-then-index-eq0
unfolding multiplier_of
returns-then-index-eq0 c = ap multiplier_of (sym (first-none c.args.index.now c.if-index-eq0.true))

pub returns : goal.returns
unfolding multiplier_of
returns c = c.wrapping_add_u32-2.ensures.value ∙ ap (λ (x : ℕ). (golden + x) % 2 ^ 32) c.wrapping_add_u32.ensures.value
