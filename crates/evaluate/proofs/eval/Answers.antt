use lib.ListN.{length-take}
use Rattle.evaluate.proofs.Turns.{known, node-for, no_arguments, at_head, found-does}
use Rattle.evaluate.proofs.Waiting.{first-upto, first-memo, first-vals, open_at, open-start, open-down, down-less, open-stop, open_done, open_up, up-less, evaluates-as}
use Rattle.program.specs.Read.{expr_for, arguments_for, head_for}
use Rattle.evaluate.specs.Value.{bindings_in}
use Rattle.program.specs.Ready.{program_for}
use Rattle.model.specs.Layout.{sizes_of}
use Rattle.outcome.specs.Does.{passed}
use Rattle.memo.specs.Memo.{value_at, is_noted, put_value}
use native.Mathlib.Omega.{arith}
use mathlib.Core.Path.{refl, sym, ap, ◌∙◌}
use Prim.Native.Nat.{ℕ}
use Rattle.evaluate.proofs.eval.Goals as goal

pub is_noted-requires : goal.is_noted-requires
is_noted-requires c = let pre = c.requires in let l = pre.memo.long in let h = pre.e_bound in omega arith

pub value_of-requires : goal.value_of-requires
value_of-requires c = let pre = c.requires in let l = pre.memo.long in let h = pre.e_bound in omega arith

pub returns-then-is_noted-clause-does : goal.returns-then-is_noted-clause-does
returns-then-is_noted-clause-does c = let a = c.args in let pre = c.requires in let prog = program_for a.scope.now.job.now in let σ = bindings_in a.scope.now.bound.now a.scope.now.pairs.now a.scope.now.globals.now in let n = (sizes_of a.scope.now.job.now).expressions in let args = arguments_for a.scope.now.job.now in let head = head_for a.scope.now.job.now in let expr = expr_for a.scope.now.job.now in known a.fact prog a.scope.now.rule σ n args head expr pre.e_bound pre.indexed pre.memo (ap (is_noted a.memo.now) (sym c.wide-root.ensures) ∙ sym c.is_noted.ensures ∙ c.if-is_noted.true) (c.pass.ensures ∙ ap (λ (v : ℕ). record { refusal = passed; value = v; fill = a.fill }) (c.value_of.ensures ∙ ap (value_at a.memo.now) c.wide-root.ensures))

pub loop-args-init : goal.loop-args-init
loop-args-init c = let a = c.args in let pre = c.requires in let prog = program_for a.scope.now.job.now in let σ = bindings_in a.scope.now.bound.now a.scope.now.pairs.now a.scope.now.globals.now in let n = (sizes_of a.scope.now.job.now).expressions in let args = arguments_for a.scope.now.job.now in let head = head_for a.scope.now.job.now in let expr = expr_for a.scope.now.job.now in (open-start a.fact prog a.scope.now.rule σ n args head expr pre.e_bound pre.indexed pre.memo (ap (is_noted a.memo.now) (sym c.wide-root.ensures) ∙ sym c.is_noted.ensures ∙ c.if-is_noted.false), refl, (refl, refl, refl, refl))

pub arguments_at-args-requires : goal.arguments_at-args-requires
arguments_at-args-requires c = let pre = c.requires in let l = c.loop-args.invariant.0.low in record { ready = pre.ready; e_bound = omega arith }

pub known_values-count-requires : goal.known_values-count-requires
known_values-count-requires c = let pre = c.requires in let I = c.loop-args.invariant.0 in record { ready = pre.ready; job_in_bounds = I.memo.long; args_len_bound = c.arguments_at-args.ensures.few; by_index = λ j u. let l = c.arguments_at-args.ensures.lower j u in let h = I.low in omega arith }

pub put_value-requires : goal.put_value-requires
put_value-requires c = let I = c.loop-args.invariant.0 in let l = c.arguments_at-args.ensures.lower _ c.if-count-args.true in let h = I.low in let m = I.memo.long in let k = first-memo c.known_values-count.ensures.known in omega arith

pub loop-args-smaller-then-count-args : goal.loop-args-smaller-then-count-args
loop-args-smaller-then-count-args c = let a = c.args in let pre = c.requires in let prog = program_for a.scope.now.job.now in let σ = bindings_in a.scope.now.bound.now a.scope.now.pairs.now a.scope.now.globals.now in let n = (sizes_of a.scope.now.job.now).expressions in let args = arguments_for a.scope.now.job.now in let head = head_for a.scope.now.job.now in let expr = expr_for a.scope.now.job.now in let l = down-less a.fact prog a.scope.now.rule σ n args head expr (open_at a.fact prog a.scope.now.rule σ n args head expr c.wide-i.ensures c.loop-args.invariant.0) (node-for pre.ready) (no_arguments a.scope.now.job.now) c.arguments_at-args.ensures.is c.arguments_at-args.ensures.few c.arguments_at-args.ensures.lower c.loop-args.invariant.1 c.known_values-count.ensures.known c.if-count-args.true (c.known_values-count.ensures.next c.if-count-args.true) (c.put_value.ensures ∙ (λ j. put_value c.known_values-count.new.memo (c.wide.ensures j) (sym c.wide-i.ensures j))) in omega arith

pub loop-args-preserved-then-count-args : goal.loop-args-preserved-then-count-args
loop-args-preserved-then-count-args c = let a = c.args in let pre = c.requires in let prog = program_for a.scope.now.job.now in let σ = bindings_in a.scope.now.bound.now a.scope.now.pairs.now a.scope.now.globals.now in let n = (sizes_of a.scope.now.job.now).expressions in let args = arguments_for a.scope.now.job.now in let head = head_for a.scope.now.job.now in let expr = expr_for a.scope.now.job.now in (open-down a.fact prog a.scope.now.rule σ n args head expr (open_at a.fact prog a.scope.now.rule σ n args head expr c.wide-i.ensures c.loop-args.invariant.0) (node-for pre.ready) (no_arguments a.scope.now.job.now) c.arguments_at-args.ensures.is c.arguments_at-args.ensures.few c.arguments_at-args.ensures.lower c.loop-args.invariant.1 c.known_values-count.ensures.known c.if-count-args.true (c.known_values-count.ensures.next c.if-count-args.true) (c.put_value.ensures ∙ (λ j. put_value c.known_values-count.new.memo (c.wide.ensures j) (sym c.wide-i.ensures j))), (first-vals c.known_values-count.ensures.known ∙ c.loop-args.invariant.1), c.loop-args.invariant.2)

pub find_value-known-requires : goal.find_value-known-requires
find_value-known-requires c = let pre = c.requires in let u = first-upto c.known_values-count.ensures.known in let f = c.arguments_at-args.ensures.few in let h = c.loop-args.invariant.1 in let k = (first-vals c.known_values-count.ensures.known ∙ c.loop-args.invariant.1) in record { ready = pre.ready; keyed = pre.keyed; indexed = c.loop-args.invariant.0.grown.indexed; args_len_bound = simp length-take (omega arith); by_index = c.head_at-head.ensures.primitive }

pub value_of-above-requires : goal.value_of-above-requires
value_of-above-requires c = let I = c.loop-args.invariant.0 in let h = I.low in let m = I.memo.long in let k = first-memo c.known_values-count.ensures.known in omega arith

pub note-requires : goal.note-requires
note-requires c = let I = c.loop-args.invariant.0 in let h = I.low in let m = I.memo.long in let k = first-memo c.known_values-count.ensures.known in omega arith

pub shape_of-memo-then-at-e : goal.shape_of-memo-then-at-e
shape_of-memo-then-at-e c = c.note.auto.memo ∙ first-memo c.known_values-count.ensures.known ∙ c.loop-args.invariant.0.len_m

pub returns-then-at-e-clause-does : goal.returns-then-at-e-clause-does
returns-then-at-e-clause-does c = let a = c.args in let pre = c.requires in let prog = program_for a.scope.now.job.now in let σ = bindings_in a.scope.now.bound.now a.scope.now.pairs.now a.scope.now.globals.now in let n = (sizes_of a.scope.now.job.now).expressions in let args = arguments_for a.scope.now.job.now in let head = head_for a.scope.now.job.now in let expr = expr_for a.scope.now.job.now in evaluates-as a.fact prog a.scope.now.rule σ n args head expr c.pass-then-at-e.ensures (open_done a.fact prog a.scope.now.rule σ n args head expr (open_at a.fact prog a.scope.now.rule σ n args head expr c.wide-i.ensures c.loop-args.invariant.0) (node-for pre.ready) (no_arguments a.scope.now.job.now) c.arguments_at-args.ensures.is c.arguments_at-args.ensures.few c.arguments_at-args.ensures.lower c.loop-args.invariant.1 c.known_values-count.ensures.known {c = record { refusal = passed; value = c.in-Some.t; fill = c.loop-args.have }} c.if-count-args.false (at_head a.fact _ prog a.scope.now.rule σ _ _ c.head_at-head.ensures.is (found-does c.loop-args.store.kinds.now c.loop-args.store.ends.now c.loop-args.store.pool.now c.loop-args.store.index.now c.loop-args.have c.loop-args.invariant.0.grown.indexed (c.find_value-known.ensures a.scope.now.rule σ) c.in-Some.is)) refl c.note.ensures (c.wide-i.ensures ∙ c.if-at-e.true))

pub loop-args-smaller-in-Some : goal.loop-args-smaller-in-Some
loop-args-smaller-in-Some c = let a = c.args in let pre = c.requires in let prog = program_for a.scope.now.job.now in let σ = bindings_in a.scope.now.bound.now a.scope.now.pairs.now a.scope.now.globals.now in let n = (sizes_of a.scope.now.job.now).expressions in let args = arguments_for a.scope.now.job.now in let head = head_for a.scope.now.job.now in let expr = expr_for a.scope.now.job.now in let o = open_up a.fact prog a.scope.now.rule σ n args head expr (open_at a.fact prog a.scope.now.rule σ n args head expr c.wide-i.ensures c.loop-args.invariant.0) (node-for pre.ready) (no_arguments a.scope.now.job.now) c.arguments_at-args.ensures.is c.arguments_at-args.ensures.few c.arguments_at-args.ensures.lower c.loop-args.invariant.1 c.known_values-count.ensures.known {c = record { refusal = passed; value = c.in-Some.t; fill = c.loop-args.have }} c.if-count-args.false (at_head a.fact _ prog a.scope.now.rule σ _ _ c.head_at-head.ensures.is (found-does c.loop-args.store.kinds.now c.loop-args.store.ends.now c.loop-args.store.pool.now c.loop-args.store.index.now c.loop-args.have c.loop-args.invariant.0.grown.indexed (c.find_value-known.ensures a.scope.now.rule σ) c.in-Some.is)) refl c.note.ensures (λ z. c.if-at-e.false (sym c.wide-i.ensures ∙ z)) c.value_of-above.ensures in let l = up-less a.fact prog a.scope.now.rule σ n args head expr (open_at a.fact prog a.scope.now.rule σ n args head expr c.wide-i.ensures c.loop-args.invariant.0) (node-for pre.ready) (no_arguments a.scope.now.job.now) c.arguments_at-args.ensures.is c.arguments_at-args.ensures.few c.arguments_at-args.ensures.lower c.loop-args.invariant.1 c.known_values-count.ensures.known {c = record { refusal = passed; value = c.in-Some.t; fill = c.loop-args.have }} c.if-count-args.false (at_head a.fact _ prog a.scope.now.rule σ _ _ c.head_at-head.ensures.is (found-does c.loop-args.store.kinds.now c.loop-args.store.ends.now c.loop-args.store.pool.now c.loop-args.store.index.now c.loop-args.have c.loop-args.invariant.0.grown.indexed (c.find_value-known.ensures a.scope.now.rule σ) c.in-Some.is)) refl c.note.ensures o.low in omega arith

pub loop-args-preserved-in-Some : goal.loop-args-preserved-in-Some
loop-args-preserved-in-Some c = let a = c.args in let pre = c.requires in let prog = program_for a.scope.now.job.now in let σ = bindings_in a.scope.now.bound.now a.scope.now.pairs.now a.scope.now.globals.now in let n = (sizes_of a.scope.now.job.now).expressions in let args = arguments_for a.scope.now.job.now in let head = head_for a.scope.now.job.now in let expr = expr_for a.scope.now.job.now in (open_up a.fact prog a.scope.now.rule σ n args head expr (open_at a.fact prog a.scope.now.rule σ n args head expr c.wide-i.ensures c.loop-args.invariant.0) (node-for pre.ready) (no_arguments a.scope.now.job.now) c.arguments_at-args.ensures.is c.arguments_at-args.ensures.few c.arguments_at-args.ensures.lower c.loop-args.invariant.1 c.known_values-count.ensures.known {c = record { refusal = passed; value = c.in-Some.t; fill = c.loop-args.have }} c.if-count-args.false (at_head a.fact _ prog a.scope.now.rule σ _ _ c.head_at-head.ensures.is (found-does c.loop-args.store.kinds.now c.loop-args.store.ends.now c.loop-args.store.pool.now c.loop-args.store.index.now c.loop-args.have c.loop-args.invariant.0.grown.indexed (c.find_value-known.ensures a.scope.now.rule σ) c.in-Some.is)) refl c.note.ensures (λ z. c.if-at-e.false (sym c.wide-i.ensures ∙ z)) c.value_of-above.ensures, first-vals c.known_values-count.ensures.known ∙ c.loop-args.invariant.1, c.loop-args.invariant.2)

pub slice_bounds-vals-end : goal.slice_bounds-vals-end
slice_bounds-vals-end c = let u = first-upto c.known_values-count.ensures.known in let f = c.arguments_at-args.ensures.few in let h = c.loop-args.invariant.1 in let k = (first-vals c.known_values-count.ensures.known ∙ c.loop-args.invariant.1) in omega arith

pub slice_bounds-find_value-end : goal.slice_bounds-find_value-end
slice_bounds-find_value-end c = let u = first-upto c.known_values-count.ensures.known in let f = c.arguments_at-args.ensures.few in let h = c.loop-args.invariant.1 in let k = (first-vals c.known_values-count.ensures.known ∙ c.loop-args.invariant.1) in simp length-take (omega arith)

pub slice_bounds-vals-end-in-loop-args : goal.slice_bounds-vals-end-in-loop-args
slice_bounds-vals-end-in-loop-args c = let u = first-upto c.known_values-count.ensures.known in let f = c.arguments_at-args.ensures.few in let h = c.loop-args.invariant.1 in let k = (first-vals c.known_values-count.ensures.known ∙ c.loop-args.invariant.1) in omega arith

pub slice_bounds-head_value-end : goal.slice_bounds-head_value-end
slice_bounds-head_value-end c = let u = first-upto c.known_values-count.ensures.known in let f = c.arguments_at-args.ensures.few in let h = c.loop-args.invariant.1 in let k = (first-vals c.known_values-count.ensures.known ∙ c.loop-args.invariant.1) in simp length-take (omega arith)

pub head_value-r-requires : goal.head_value-r-requires
head_value-r-requires c = let pre = c.requires in let u = first-upto c.known_values-count.ensures.known in let f = c.arguments_at-args.ensures.few in let h = c.loop-args.invariant.1 in let k = (first-vals c.known_values-count.ensures.known ∙ c.loop-args.invariant.1) in record { ready = pre.ready; keyed = pre.keyed; indexed = c.loop-args.invariant.0.grown.indexed; args_len_bound = simp length-take (omega arith); by_index = c.head_at-head.ensures.primitive }

pub shape_of-memo-then-r-ne0 : goal.shape_of-memo-then-r-ne0
shape_of-memo-then-r-ne0 c = first-memo c.known_values-count.ensures.known ∙ c.loop-args.invariant.0.len_m

pub returns-then-r-ne0-clause-does : goal.returns-then-r-ne0-clause-does
returns-then-r-ne0-clause-does c = let a = c.args in let pre = c.requires in let prog = program_for a.scope.now.job.now in let σ = bindings_in a.scope.now.bound.now a.scope.now.pairs.now a.scope.now.globals.now in let n = (sizes_of a.scope.now.job.now).expressions in let args = arguments_for a.scope.now.job.now in let head = head_for a.scope.now.job.now in let expr = expr_for a.scope.now.job.now in open-stop a.fact prog a.scope.now.rule σ n args head expr (open_at a.fact prog a.scope.now.rule σ n args head expr c.wide-i.ensures c.loop-args.invariant.0) (node-for pre.ready) (no_arguments a.scope.now.job.now) c.arguments_at-args.ensures.is c.arguments_at-args.ensures.few c.arguments_at-args.ensures.lower c.loop-args.invariant.1 c.known_values-count.ensures.known c.if-count-args.false (at_head a.fact _ prog a.scope.now.rule σ _ _ c.head_at-head.ensures.is c.head_value-r.ensures.does) c.if-r-ne0.true

pub value_of-above-requires-in-loop-args : goal.value_of-above-requires-in-loop-args
value_of-above-requires-in-loop-args c = let I = c.loop-args.invariant.0 in let h = I.low in let m = I.memo.long in let k = first-memo c.known_values-count.ensures.known in omega arith

pub note-requires-in-loop-args : goal.note-requires-in-loop-args
note-requires-in-loop-args c = let I = c.loop-args.invariant.0 in let h = I.low in let m = I.memo.long in let k = first-memo c.known_values-count.ensures.known in omega arith

pub shape_of-memo-then-at-e-2 : goal.shape_of-memo-then-at-e-2
shape_of-memo-then-at-e-2 c = c.note-in-loop-args.auto.memo ∙ first-memo c.known_values-count.ensures.known ∙ c.loop-args.invariant.0.len_m

pub returns-then-at-e-2-clause-does : goal.returns-then-at-e-2-clause-does
returns-then-at-e-2-clause-does c = let a = c.args in let pre = c.requires in let prog = program_for a.scope.now.job.now in let σ = bindings_in a.scope.now.bound.now a.scope.now.pairs.now a.scope.now.globals.now in let n = (sizes_of a.scope.now.job.now).expressions in let args = arguments_for a.scope.now.job.now in let head = head_for a.scope.now.job.now in let expr = expr_for a.scope.now.job.now in open_done a.fact prog a.scope.now.rule σ n args head expr (open_at a.fact prog a.scope.now.rule σ n args head expr c.wide-i.ensures c.loop-args.invariant.0) (node-for pre.ready) (no_arguments a.scope.now.job.now) c.arguments_at-args.ensures.is c.arguments_at-args.ensures.few c.arguments_at-args.ensures.lower c.loop-args.invariant.1 c.known_values-count.ensures.known c.if-count-args.false (at_head a.fact _ prog a.scope.now.rule σ _ _ c.head_at-head.ensures.is c.head_value-r.ensures.does) c.if-r-ne0.false c.note-in-loop-args.ensures (c.wide-i.ensures ∙ c.if-at-e-2.true)

pub loop-args-smaller : goal.loop-args-smaller
loop-args-smaller c = let a = c.args in let pre = c.requires in let prog = program_for a.scope.now.job.now in let σ = bindings_in a.scope.now.bound.now a.scope.now.pairs.now a.scope.now.globals.now in let n = (sizes_of a.scope.now.job.now).expressions in let args = arguments_for a.scope.now.job.now in let head = head_for a.scope.now.job.now in let expr = expr_for a.scope.now.job.now in let o = open_up a.fact prog a.scope.now.rule σ n args head expr (open_at a.fact prog a.scope.now.rule σ n args head expr c.wide-i.ensures c.loop-args.invariant.0) (node-for pre.ready) (no_arguments a.scope.now.job.now) c.arguments_at-args.ensures.is c.arguments_at-args.ensures.few c.arguments_at-args.ensures.lower c.loop-args.invariant.1 c.known_values-count.ensures.known c.if-count-args.false (at_head a.fact _ prog a.scope.now.rule σ _ _ c.head_at-head.ensures.is c.head_value-r.ensures.does) c.if-r-ne0.false c.note-in-loop-args.ensures (λ z. c.if-at-e-2.false (sym c.wide-i.ensures ∙ z)) c.value_of-above-in-loop-args.ensures in let l = up-less a.fact prog a.scope.now.rule σ n args head expr (open_at a.fact prog a.scope.now.rule σ n args head expr c.wide-i.ensures c.loop-args.invariant.0) (node-for pre.ready) (no_arguments a.scope.now.job.now) c.arguments_at-args.ensures.is c.arguments_at-args.ensures.few c.arguments_at-args.ensures.lower c.loop-args.invariant.1 c.known_values-count.ensures.known c.if-count-args.false (at_head a.fact _ prog a.scope.now.rule σ _ _ c.head_at-head.ensures.is c.head_value-r.ensures.does) c.if-r-ne0.false c.note-in-loop-args.ensures o.low in omega arith

pub loop-args-preserved : goal.loop-args-preserved
loop-args-preserved c = let a = c.args in let pre = c.requires in let prog = program_for a.scope.now.job.now in let σ = bindings_in a.scope.now.bound.now a.scope.now.pairs.now a.scope.now.globals.now in let n = (sizes_of a.scope.now.job.now).expressions in let args = arguments_for a.scope.now.job.now in let head = head_for a.scope.now.job.now in let expr = expr_for a.scope.now.job.now in (open_up a.fact prog a.scope.now.rule σ n args head expr (open_at a.fact prog a.scope.now.rule σ n args head expr c.wide-i.ensures c.loop-args.invariant.0) (node-for pre.ready) (no_arguments a.scope.now.job.now) c.arguments_at-args.ensures.is c.arguments_at-args.ensures.few c.arguments_at-args.ensures.lower c.loop-args.invariant.1 c.known_values-count.ensures.known c.if-count-args.false (at_head a.fact _ prog a.scope.now.rule σ _ _ c.head_at-head.ensures.is c.head_value-r.ensures.does) c.if-r-ne0.false c.note-in-loop-args.ensures (λ z. c.if-at-e-2.false (sym c.wide-i.ensures ∙ z)) c.value_of-above-in-loop-args.ensures, first-vals c.known_values-count.ensures.known ∙ c.loop-args.invariant.1, let v = c.head_value-r.ensures.loans in let w = c.loop-args.invariant.2 in (v.0 ∙ w.0, v.1 ∙ w.1, v.2 ∙ w.2, v.3 ∙ w.3))

pub returns-then-at-e-clause-loans : goal.returns-then-at-e-clause-loans
returns-then-at-e-clause-loans c = c.loop-args.invariant.2

pub returns-then-r-ne0-clause-loans : goal.returns-then-r-ne0-clause-loans
returns-then-r-ne0-clause-loans c = let v = c.head_value-r.ensures.loans in let w = c.loop-args.invariant.2 in (v.0 ∙ w.0, v.1 ∙ w.1, v.2 ∙ w.2, v.3 ∙ w.3)

pub returns-then-at-e-2-clause-loans : goal.returns-then-at-e-2-clause-loans
returns-then-at-e-2-clause-loans c = let v = c.head_value-r.ensures.loans in let w = c.loop-args.invariant.2 in (v.0 ∙ w.0, v.1 ∙ w.1, v.2 ∙ w.2, v.3 ∙ w.3)
