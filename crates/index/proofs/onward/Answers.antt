use Rattle.std.proofs.Common.{◌+◌, sym, arith}
use Rattle.index.proofs.Arithmetic.{round-low, round-high}
use Rattle.index.proofs.onward.Goals as goal

pub returns-then-k-n : goal.returns-then-k-n
returns-then-k-n c = let a = c.args in sym (round-low a.n (a.s + a.k) (omega arith))

pub returns : goal.returns
returns c = let a = c.args in omega (arith, round-high a.n (a.s + a.k) (omega arith) (omega arith))
