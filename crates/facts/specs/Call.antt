-- A function fact, as the definitions have it.
use Rattle.std.specs.Prelude as prelude
use Rattle.std.specs.Prelude.{Some, None}
use Rattle.std.proofs.Math.Option.{Option, none, some}
use Rattle.model.specs.Fact as model
use Rattle.facts.specs.declared.FunctionFact.{FunctionFact}

-- The function and the variable, or none.
abbrev pub function_fact_of : prelude.Option FunctionFact → Option model.FunctionFact
function_fact_of None = none
function_fact_of (Some f) = some (record { function = f.function; variable = f.variable })
