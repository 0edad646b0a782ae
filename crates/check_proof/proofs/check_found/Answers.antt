use Rattle.check_proof.proofs.Laws.{past-cleared, check-stops, check-ground, check-walks, start-marks, start-flags, start-long, height-none}
use Rattle.heads.proofs.Heading.{part-is}
use lib.ListN.{length, take, drop, length-take, length-drop, length-append, length-replicate}
use mathlib.Core.List.{◌++◌}
use mathlib.Core.Path.{◌≡◌, refl, ◌∙◌}
use lib.Seq.{length-take-le}
use native.Mathlib.Omega.{arith}
use Prim.Native.Nat.{ℕ, ◌+◌, ◌-◌}
use Rattle.model.specs.Layout.{sizes_of}
use Rattle.check_proof.proofs.check_found.Goals as goal

pub overflow_add-e : goal.overflow_add-e
overflow_add-e c = let h = c.requires.given.long in omega (arith, c.size.ensures)

pub slice_bounds-new_context-end-3 : goal.slice_bounds-new_context-end-3
slice_bounds-new_context-end-3 c = let a = c.args in let pre = c.requires in let h = pre.given.long in simp length-take (omega arith)

pub new_context-g-requires : goal.new_context-g-requires
new_context-g-requires c = let a = c.args in let pre = c.requires in let G = pre.given in let h = G.long in let x = G.ready.held.limits.expressions in record { standing = record { ready = G.ready; keyed = pre.keyed; indexed = G.indexed; sane = G.sane; fits = omega (arith, length-replicate {A = ℕ} 8193 0); past = past-cleared 8193; cells = simp length-take (omega arith) }; table_len = refl; unions_len = refl }

pub returns-then-g-ne0-clause-does : goal.returns-then-g-ne0-clause-does
returns-then-g-ne0-clause-does c = let a = c.args in let pre = c.requires in check-stops pre.given a.strict a.asked pre.asked_bound c.new_context-g.ensures.does c.if-g-ne0.true

pub returns-then-g-ne0-clause-high : goal.returns-then-g-ne0-clause-high
returns-then-g-ne0-clause-high c = let a = c.args in let pre = c.requires in λ u. absurd (c.if-g-ne0.true u)

pub slice_bounds-clear-end : goal.slice_bounds-clear-end
slice_bounds-clear-end c = let a = c.args in let pre = c.requires in let h = pre.given.long in let l = c.new_context-g.auto.marks in let q = length-take (length a.store.now.kinds.now) a.scratch.now in let lt : length (take (length a.store.now.kinds.now) a.scratch.now) ≡ length a.store.now.kinds.now = length-take-le (length a.store.now.kinds.now) a.scratch.now (omega arith) in simp (length-append, length-drop) (omega (arith, c.size.ensures))

pub slice_bounds-unions-end : goal.slice_bounds-unions-end
slice_bounds-unions-end c = let u = c.new_context-g.ensures.does.unions in let l = c.new_context-g.auto.unions in omega arith

pub slice_bounds-walk-end-2 : goal.slice_bounds-walk-end-2
slice_bounds-walk-end-2 c = let u = c.new_context-g.ensures.does.unions in let l = c.new_context-g.auto.unions in simp length-take (omega arith)

pub walk-requires : goal.walk-requires
walk-requires c = let a = c.args in let pre = c.requires in let h = pre.given.long in let k : ℕ = length a.store.now.kinds.now + length a.store.now.kinds.now + c.size.result - (length a.store.now.kinds.now + length a.store.now.kinds.now) in let l = c.new_context-g.auto.marks in let q = length-take (length a.store.now.kinds.now) a.scratch.now in let lt : length (take (length a.store.now.kinds.now) a.scratch.now) ≡ length a.store.now.kinds.now = length-take-le (length a.store.now.kinds.now) a.scratch.now (omega arith) in let C = c.new_context-g.ensures.does in let x = pre.given.ready.held.limits.expressions in let b : length (c.new_context-g.new.marks ++ drop (length a.store.now.kinds.now) a.scratch.now) ≡ length a.scratch.now = simp (length-append, length-drop) (omega arith) in let lm = c.new_context-g.auto.memo in let flags = start-flags a.scratch.now c.new_context-g.new.marks c.clear.new.marks (length a.store.now.kinds.now) _ k (l ∙ lt) (omega (arith, c.size.ensures)) C.does.grown.len_k {n = (sizes_of a.job.now).proofs} (omega (arith, c.size.ensures)) c.clear.ensures in record { ground = check-ground pre.given a.strict a.asked pre.asked_bound C c.if-g-ne0.false (part-is c.new_context-g.new.table c.new_context-g.result.bindings c.new_context-g.auto.table) pre.searched pre.keyed refl (omega (arith, length-replicate {A = ℕ} 8193 0)) (start-long a.scratch.now c.new_context-g.new.marks c.clear.new.marks (length a.store.now.kinds.now) (length a.store.now.kinds.now) k (l ∙ lt) (omega (arith, c.size.ensures)) refl (omega arith) c.clear.auto.marks) flags; p_bound = pre.asked_bound; p_value = height-none flags pre.asked_bound }

pub shape_of-scratch : goal.shape_of-scratch
shape_of-scratch c = let a = c.args in let pre = c.requires in let h = pre.given.long in let k : ℕ = length a.store.now.kinds.now + length a.store.now.kinds.now + c.size.result - (length a.store.now.kinds.now + length a.store.now.kinds.now) in let l = c.new_context-g.auto.marks in let q = length-take (length a.store.now.kinds.now) a.scratch.now in let lt : length (take (length a.store.now.kinds.now) a.scratch.now) ≡ length a.store.now.kinds.now = length-take-le (length a.store.now.kinds.now) a.scratch.now (omega arith) in let b : length (c.new_context-g.new.marks ++ drop (length a.store.now.kinds.now) a.scratch.now) ≡ length a.scratch.now = simp (length-append, length-drop) (omega arith) in c.walk.auto.scratch ∙ start-long a.scratch.now c.new_context-g.new.marks c.clear.new.marks (length a.store.now.kinds.now) (length a.store.now.kinds.now) k (l ∙ lt) (omega (arith, c.size.ensures)) refl (omega arith) c.clear.auto.marks

pub returns-clause-does : goal.returns-clause-does
returns-clause-does c = let a = c.args in let pre = c.requires in let h = pre.given.long in let k : ℕ = length a.store.now.kinds.now + length a.store.now.kinds.now + c.size.result - (length a.store.now.kinds.now + length a.store.now.kinds.now) in let l = c.new_context-g.auto.marks in let q = length-take (length a.store.now.kinds.now) a.scratch.now in let lt : length (take (length a.store.now.kinds.now) a.scratch.now) ≡ length a.store.now.kinds.now = length-take-le (length a.store.now.kinds.now) a.scratch.now (omega arith) in let C = c.new_context-g.ensures.does in let b : length (c.new_context-g.new.marks ++ drop (length a.store.now.kinds.now) a.scratch.now) ≡ length a.scratch.now = simp (length-append, length-drop) (omega arith) in check-walks pre.given a.strict a.asked pre.asked_bound C c.if-g-ne0.false (part-is c.new_context-g.new.table c.new_context-g.result.bindings c.new_context-g.auto.table) (start-marks a.scratch.now c.new_context-g.new.marks c.clear.new.marks (length a.store.now.kinds.now) _ k (l ∙ lt) (omega (arith, c.size.ensures)) C.does.grown.len_k) (start-flags a.scratch.now c.new_context-g.new.marks c.clear.new.marks (length a.store.now.kinds.now) _ k (l ∙ lt) (omega (arith, c.size.ensures)) C.does.grown.len_k {n = (sizes_of a.job.now).proofs} (omega (arith, c.size.ensures)) c.clear.ensures) c.walk.ensures.does

pub returns-clause-high : goal.returns-clause-high
returns-clause-high c = let a = c.args in let pre = c.requires in let h = pre.given.long in let k : ℕ = length a.store.now.kinds.now + length a.store.now.kinds.now + c.size.result - (length a.store.now.kinds.now + length a.store.now.kinds.now) in let l = c.new_context-g.auto.marks in let q = length-take (length a.store.now.kinds.now) a.scratch.now in let lt : length (take (length a.store.now.kinds.now) a.scratch.now) ≡ length a.store.now.kinds.now = length-take-le (length a.store.now.kinds.now) a.scratch.now (omega arith) in let C = c.new_context-g.ensures.does in let b : length (c.new_context-g.new.marks ++ drop (length a.store.now.kinds.now) a.scratch.now) ≡ length a.scratch.now = simp (length-append, length-drop) (omega arith) in c.walk.ensures.high
