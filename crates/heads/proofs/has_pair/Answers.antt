use Rattle.actions.specs.Acting.{effect_has}
use Rattle.actions.specs.declared.Effect.{Effect}
use Rattle.decode.specs.View.{proposition_of}
use mathlib.Core.Path.{sym, ap}
use Rattle.heads.proofs.has_pair.Goals as goal

pub returns-in-Union : goal.returns-in-Union
returns-in-Union c = ap (λ (e : Effect). effect_has e (proposition_of c.args.q)) (sym c.in-Union.is)
