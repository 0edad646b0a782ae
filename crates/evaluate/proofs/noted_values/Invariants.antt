use mathlib.Core.List.{List}
use Prim.Native.Nat.{ℕ, ◌-◌, ◌≤◌}
use lib.ListN.{length}
use Rattle.model.specs.Program.{Head, Binding}
use Rattle.evaluate.specs.Evaluation.{KnowsFirst}
use Rattle.evaluate.proofs.noted_values.Given as goal

abbrev pub invariant-loop-i : goal.invariant-loop-i
invariant-loop-i l = ((head : ℕ → Head) (σ : List Binding) (m₀ vals₀ : List ℕ) → KnowsFirst head σ l.args m₀ vals₀ l.from l.memo l.initial.vals → KnowsFirst head σ l.args m₀ vals₀ l.i l.memo l.vals) × (l.from ≤ l.i)
