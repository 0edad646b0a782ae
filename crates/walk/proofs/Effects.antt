-- What a condition bound, as an action's effect.
use Rattle.std.specs.Prelude as prelude
use Rattle.std.specs.Prelude.{Some, None}
use mathlib.Core.Path.{◌≡◌, sym, ap}
use mathlib.Core.List.{List}
use Prim.Native.Nat.{ℕ}
use Rattle.model.specs.Program.{Binding}
use Rattle.actions.specs.Acting.{effect_bindings}
use Rattle.actions.specs.declared.Effect.{Effect}
use Rattle.conditions.specs.Bound.{bound_over}
use Rattle.conditions.specs.declared.Bound as code

pub effect-pair : {b : prelude.Option code.Bound} {x t : ℕ} → b ≡ Some (record { name = x; term = t }) → (σ : List Binding) → effect_bindings (Effect.Bind x t) σ ≡ bound_over b σ
effect-pair {b} {x} {t} e σ = ap (λ (y : prelude.Option code.Bound). bound_over y σ) (sym e)

pub effect-none : {b : prelude.Option code.Bound} → b ≡ None → (σ : List Binding) → effect_bindings Effect.Nothing σ ≡ bound_over b σ
effect-none e σ = ap (λ (y : prelude.Option code.Bound). bound_over y σ) (sym e)
