use Rattle.index.specs.Mixing.{stirred}
use Rattle.index.proofs.stir.Goals as goal

pub returns : goal.returns
unfolding stirred
returns c = rw (c.wrapping_add_u32-2.ensures.value, c.times.ensures, c.times-2.ensures, c.wrapping_add_u32.ensures.value, c.requires)
