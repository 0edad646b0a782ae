use Rattle.facts.proofs.Wants.{call_none, call-other, call-some}
use Rattle.facts.proofs.function_fact.Goals as goal

pub returns-in_default : goal.returns-in_default
returns-in_default c = call_none _ c.custom_of-custom.ensures c.in_default.is

pub returns-in-Some-variable : goal.returns-in-Some-variable
returns-in-Some-variable c = call-some _ c.custom_of-custom.ensures c.in-Some.is c.variable_of-variable.ensures c.in-Some-variable.is

pub returns-in-None : goal.returns-in-None
returns-in-None c = call-other _ c.custom_of-custom.ensures c.in-Some.is c.variable_of-variable.ensures c.in-None.is
