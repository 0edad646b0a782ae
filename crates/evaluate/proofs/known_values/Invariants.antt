use mathlib.Core.Path.{◌≡◌}
use mathlib.Core.List.{List}
use Prim.Native.Nat.{ℕ, ◌-◌}
use lib.ListN.{length}
use Rattle.program.specs.Read.{head_for}
use Rattle.evaluate.specs.Value.{bindings_in}
use Rattle.evaluate.specs.Evaluation.{KnowsFirst}
use Rattle.evaluate.proofs.known_values.Given as goal

abbrev pub invariant-loop-i : goal.invariant-loop-i
invariant-loop-i l = ((vals₀ : List ℕ) → KnowsFirst (head_for l.scope.job.now) (bindings_in l.scope.bound.now l.scope.pairs.now l.scope.globals.now) l.args l.initial.memo vals₀ l.initial.i l.initial.memo l.initial.vals → KnowsFirst (head_for l.scope.job.now) (bindings_in l.scope.bound.now l.scope.pairs.now l.scope.globals.now) l.args l.initial.memo vals₀ l.i l.memo l.vals) × (length l.memo ≡ length l.initial.memo)

abbrev pub decreases-loop-i : goal.decreases-loop-i
decreases-loop-i l = length l.args - l.i
