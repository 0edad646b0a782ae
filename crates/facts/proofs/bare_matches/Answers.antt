use mathlib.Core.Path.{sym, ◌∙◌}
use Rattle.decode.specs.View.{proposition_of}
use Rattle.facts.proofs.Wants.{bare-same, bare-differs}
use Rattle.facts.proofs.bare_matches.Goals as goal

pub returns-then-same_right : goal.returns-then-same_right
returns-then-same_right c = let a = c.args in λ e s. bare-same a.rule a.i (proposition_of a.w) (proposition_of a.q) s e (sym c.same_right.ensures ∙ c.if-same_right.true)

pub returns : goal.returns
returns c = let a = c.args in λ e s. bare-differs a.rule a.i (proposition_of a.w) (proposition_of a.q) s e (sym c.same_right.ensures ∙ c.if-same_right.false)
