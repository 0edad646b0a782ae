use mathlib.Core.Path.{refl}
use Rattle.decode.proofs.Laws.{unknown-kind}
use Rattle.decode.proofs.computing_validator.Goals as goal

pub returns-in-None : goal.returns-in-None
returns-in-None c = record { is = unknown-kind _ c.requires c.in-None.ensures; validates = refl }
