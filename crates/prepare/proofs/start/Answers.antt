use mathlib.Core.Path.{refl}
use Rattle.prepare.proofs.Jobs.{start-ready, start_loadable}
use Rattle.prepare.proofs.start.Goals as goal

pub load_terms-have-requires : goal.load_terms-have-requires
load_terms-have-requires c = let L = c.requires in record { held = (start-ready L).held; loadable = start_loadable L }

pub returns-clause-is : goal.returns-clause-is
returns-clause-is c = refl

pub returns-clause-begun : goal.returns-clause-begun
returns-clause-begun c = c.load_terms-have.ensures.does
