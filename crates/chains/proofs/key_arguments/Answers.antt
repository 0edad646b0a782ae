use mathlib.Core.Path.{sym, ap, ◌∙◌}
use lib.Seq.{drop-length}
use Rattle.chains.specs.Chains.{key_arguments}
use Rattle.chains.proofs.key_arguments.Goals as goal

pub returns-then-rows : goal.returns-then-rows
returns-then-rows c = c.rest.ensures ∙ ap (λ r. key_arguments r c.args.ws.now) (sym c.if-rows.true)

pub returns : goal.returns
returns c = c.rest-2.ensures ∙ drop-length c.args.ws.now ∙ ap (λ r. key_arguments r c.args.ws.now) (sym c.if-rows.false)
