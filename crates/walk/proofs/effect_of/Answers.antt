use Rattle.walk.proofs.Effects.{effect-pair, effect-none}
use Rattle.walk.proofs.effect_of.Goals as goal

pub returns-in-Some : goal.returns-in-Some
returns-in-Some c = effect-pair c.in-Some.is

pub returns-in-None : goal.returns-in-None
returns-in-None c = effect-none c.in-None.is
