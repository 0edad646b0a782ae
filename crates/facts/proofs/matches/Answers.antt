use mathlib.Core.Path.{◌∙◌}
use Rattle.decode.specs.View.{proposition_of}
use Rattle.normal_form.proofs.Laws.{fact-by}
use Rattle.facts.proofs.Wants.{matches-as}
use Rattle.facts.proofs.matches.Goals as goal

pub equality_matches-requires : goal.equality_matches-requires
equality_matches-requires c = let b = c.fact_at-fact.ensures.equal c.in-Equal.l c.in-Equal.r c.in-Equal.is in record { ready = c.requires.ready; left_bound = b.0; right_bound = b.1 }

pub returns-in-Equal : goal.returns-in-Equal
returns-in-Equal c = let a = c.args in λ s. c.equality_matches.ensures s ∙ matches-as a.rule (proposition_of a.w) (proposition_of a.q) s (fact-by c.fact_at-fact.ensures c.wide.ensures c.in-Equal.is)

pub returns-in-Bare : goal.returns-in-Bare
returns-in-Bare c = let a = c.args in λ s. c.bare_matches.ensures _ s ∙ matches-as a.rule (proposition_of a.w) (proposition_of a.q) s (fact-by c.fact_at-fact.ensures c.wide.ensures c.in-Bare.is)
