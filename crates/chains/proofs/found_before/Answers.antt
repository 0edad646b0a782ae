use mathlib.Core.Path.{sym, ap}
use Rattle.chains.specs.Chains.{found_before}
use Rattle.chains.proofs.found_before.Goals as goal

pub returns-in-Some : goal.returns-in-Some
returns-in-Some c = ap (λ f. found_before f c.args.i) (sym c.in-Some.is)
