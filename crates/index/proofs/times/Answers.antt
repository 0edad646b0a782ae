use Rattle.std.proofs.Common.{arith}
use Rattle.index.specs.Mixing.{times}
use Rattle.index.proofs.Arithmetic.{product-fits}
use Rattle.index.proofs.times.Goals as goal

pub overflow_mul-p : goal.overflow_mul-p
overflow_mul-p c = record { fits = rw (c.long.ensures, c.long-2.ensures) (product-fits c.args.a c.args.b (omega arith) (omega arith)) }

pub overflow_mul-result : goal.overflow_mul-result
overflow_mul-result c = omega (arith, product-fits c.long.result c.long-2.result (omega arith) (omega arith))

pub overflow_add-result : goal.overflow_add-result
overflow_add-result c = omega (arith, product-fits c.long.result c.long-2.result (omega arith) (omega arith))

pub returns : goal.returns
unfolding times
returns c = rw (c.long.ensures, c.long-2.ensures)
