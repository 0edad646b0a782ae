use mathlib.Core.Path.{sym, ◌∙◌}
use Rattle.actions.proofs.Steady.{steady-bind, steady-union, steady-nothing}
use Rattle.heads.proofs.is_steady.Goals as goal

pub returns-in-Bind : goal.returns-in-Bind
returns-in-Bind c = λ q. steady-bind _ _ c.in-Bind.is (sym c.lookup.ensures ∙ c.is_none.ensures q)

pub returns-in-Union : goal.returns-in-Union
returns-in-Union c = λ _. steady-union _ _ c.in-Union.is

pub returns-in-Nothing : goal.returns-in-Nothing
returns-in-Nothing c = λ _. steady-nothing c.in-Nothing.is
