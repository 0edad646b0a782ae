-- What a condition binds, as the definitions have it.
use Rattle.std.specs.Prelude.{Option, None, Some, List, ◌∷◌}
use Rattle.model.specs.Program.{Binding}
use Rattle.conditions.specs.declared.Bound as code

-- The bindings after a condition, over those before it.
abbrev pub bound_over : Option code.Bound → List Binding → List Binding
bound_over None σ = σ
bound_over (Some b) σ = record { name = b.name; term = b.term } ∷ σ
