use Rattle.std.proofs.Common.{◌≡◌, ℕ, ◌+◌, ◌*◌, ◌%◌, ◌^◌, ap, ◌∙◌}
use Rattle.index.specs.Mixing.{golden, spread}
use Rattle.index.proofs.spread.Goals as goal

pub returns : goal.returns
unfolding spread
returns c = let h = c.args.h in
    let odd : c.wrapping_add_u32-odd.result ≡ ((h + h) % 2 ^ 32 + 1) % 2 ^ 32 = c.wrapping_add_u32-odd.ensures.value ∙ ap (λ (x : ℕ). (x + 1) % 2 ^ 32) c.wrapping_add_u32.ensures.value in
    c.wrapping_mul32-2.ensures ∙ ap (λ (x : ℕ). x * golden % 2 ^ 32) (c.wrapping_mul32.ensures ∙ ap (λ (x : ℕ). h * x % 2 ^ 32) odd)
