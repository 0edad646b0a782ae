use mathlib.Core.Path.{sym, ap}
use mathlib.Core.Bool.{true≢false}
use Rattle.program.specs.Ready.{option_of}
use Rattle.heads.proofs.is_none.Goals as goal

pub returns-in-Some : goal.returns-in-Some
returns-in-Some c = λ q. absurd (true≢false (sym q))

pub returns-in-None : goal.returns-in-None
returns-in-None c = λ _. ap option_of c.in-None.is
