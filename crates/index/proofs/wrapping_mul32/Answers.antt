use Rattle.std.proofs.Common.{arith}
use Rattle.index.proofs.Arithmetic.{product-fits}
use Rattle.index.proofs.wrapping_mul32.Goals as goal

pub overflow_mul-p : goal.overflow_mul-p
overflow_mul-p c = record { fits = rw (c.long.ensures, c.long-2.ensures) (product-fits c.args.x c.args.y (omega arith) (omega arith)) }

pub returns : goal.returns
returns c = rw (c.long.ensures, c.long-2.ensures)
