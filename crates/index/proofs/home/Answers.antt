use Rattle.std.proofs.Common.{◌≡◌, ℕ, ◌*◌, ◌/◌, ◌^◌, ap, ◌∙◌}
use Rattle.model.specs.Cell.{Cell}
use Rattle.index.specs.Mixing.{mix_of}
use Rattle.index.proofs.Arithmetic.{mix-word, bits-few, bits-many, bits-product}
use Rattle.index.proofs.home.Goals as goal

pub returns-then-n-gt4294967296 : goal.returns-then-n-gt4294967296
returns-then-n-gt4294967296 c = let a = c.args in let k : Cell = record { kind = a.kind; words = a.ws.now } in c.wide-m.ensures ∙ c.mix.ensures ∙ bits-many a.n (mix_of a.x k) c.if-n-gt4294967296.true

pub overflow_mul-result : goal.overflow_mul-result
overflow_mul-result c = let a = c.args in let k : Cell = record { kind = a.kind; words = a.ws.now } in
    let e : c.wide-m.result ≡ mix_of a.x k = c.wide-m.ensures ∙ c.mix.ensures in
    record { fits = rw e (bits-product a.n (mix_of a.x k) (mix-word a.x k) c.if-n-gt4294967296.false) }

pub returns : goal.returns
returns c = let a = c.args in let k : Cell = record { kind = a.kind; words = a.ws.now } in
    ap (λ (m : ℕ). m * a.n / 2 ^ 32) (c.wide-m.ensures ∙ c.mix.ensures) ∙ bits-few a.n (mix_of a.x k) c.if-n-gt4294967296.false
