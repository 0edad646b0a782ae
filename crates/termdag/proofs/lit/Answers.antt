use Rattle.model.specs.Term as model
use Rattle.decode.specs.View.{literal_of}
use Rattle.termdag.proofs.Laws.{adds}
use Rattle.termdag.proofs.lit.Goals as goal

pub returns-clause-does : goal.returns-clause-does
returns-clause-does c = let s = c in
    adds s.requires (model.lit (literal_of s.args.l)) c.add.ensures.does
