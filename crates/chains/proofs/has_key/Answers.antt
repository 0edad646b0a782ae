use mathlib.Core.Path.{sym, ap, ◌∙◌}
use Rattle.model.specs.Cell.{same_words}
use Rattle.chains.proofs.Chaining.{key-no, key-yes}
use Rattle.chains.proofs.has_key.Goals as goal

pub returns-then-at-head : goal.returns-then-at-head
returns-then-at-head c = let a = c.args in key-no a.rows a.ws.now a.head a.args.now (λ e. c.if-at-head.true (c.at.ensures ∙ e))

pub returns : goal.returns
returns c = let a = c.args in c.same_words.ensures ∙ ap (λ us. same_words us a.args.now) c.key_arguments.ensures ∙ key-yes a.rows a.ws.now a.head a.args.now (sym c.at.ensures ∙ c.if-at-head.false)
