use Rattle.model.specs.Term as model
use Rattle.decode.specs.View.{literal_of}
use Rattle.termdag.proofs.Laws.{known-term, absent-term}
use Rattle.termdag.proofs.find_lit.Goals as goal

pub returns : goal.returns
returns c = let t = model.lit (literal_of c.args.l) in record { known = known-term c.requires t c.find.ensures; none = absent-term c.requires t c.find.ensures }
