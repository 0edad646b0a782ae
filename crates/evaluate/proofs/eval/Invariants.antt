use lib.ListN.{length}
use Rattle.index.specs.Loans.{SameLoans}
use Rattle.evaluate.proofs.Waiting.{unnoted, weight, Open}
use Rattle.program.specs.Read.{expr_for, arguments_for, head_for}
use Rattle.evaluate.specs.Value.{bindings_in}
use Rattle.program.specs.Ready.{program_for}
use Rattle.model.specs.Layout.{sizes_of}
use mathlib.Core.Path.{◌≡◌}
use Prim.Native.Nat.{◌+◌}
use Rattle.evaluate.proofs.eval.Given as goal

abbrev pub invariant-loop-args : goal.invariant-loop-args
invariant-loop-args l = Open l.fact (program_for l.scope.job.now) l.scope.rule (bindings_in l.scope.bound.now l.scope.pairs.now l.scope.globals.now) (sizes_of l.scope.job.now).expressions (arguments_for l.scope.job.now) (head_for l.scope.job.now) (expr_for l.scope.job.now) l.e l.initial.store.kinds.now l.initial.store.ends.now l.initial.store.pool.now l.initial.store.index.now l.initial.have l.initial.memo l.store.kinds.now l.store.ends.now l.store.pool.now l.store.index.now l.have l.memo l.at × (length l.vals ≡ 16) × SameLoans l.initial.store l.store

abbrev pub decreases-loop-args : goal.decreases-loop-args
decreases-loop-args l = weight (sizes_of l.scope.job.now).expressions (unnoted l.memo (sizes_of l.scope.job.now).expressions) + l.at
