use mathlib.Core.Path.{sym, ◌∙◌}
use Rattle.decode.specs.View.{proposition_of}
use Rattle.context.proofs.Unions.{pair_same}
use Rattle.context.proofs.is_global_pair.Goals as goal

pub returns-then-q : goal.returns-then-q
returns-then-q c = λ ps g. c.is_marked.ensures ∙ pair_same g (proposition_of c.args.q) c.if-q.true

pub returns : goal.returns
returns c = λ ps g. c.has_union.ensures ∙ sym (g.others (proposition_of c.args.q) c.if-q.false)
