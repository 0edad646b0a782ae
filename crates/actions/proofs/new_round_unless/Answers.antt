use mathlib.Core.Path.{refl, sym, ◌∙◌}
use mathlib.Core.Bool.{true≢false}
use Rattle.actions.proofs.new_round_unless.Goals as goal

pub returns-then-kept : goal.returns-then-kept
returns-then-kept c = record { same = λ _. refl; fresh = λ q. absurd (true≢false (sym c.if-kept.true ∙ q)) }

pub returns : goal.returns
returns c = record { same = λ q. absurd (true≢false (sym q ∙ c.if-kept.false)); fresh = λ _. c.new_round.ensures }
