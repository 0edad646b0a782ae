use native.Mathlib.Omega.{arith}
use mathlib.Core.Path.{refl}
use mathlib.Core.List.Memᴰ
use lib.ListN.{length-take}
use Rattle.steps.proofs.JobLaws.{reference-inside, first-cells}
use Rattle.steps.proofs.ConcludeLaws.{plain-arm, claim-here, justified-here, concludes-plain, concludes-merge, concludes-congr}
use borrow.Enum.Refused.{opened}
use Rattle.steps.proofs.conclude.Goals as goal

pub merge_at-requires : goal.merge_at-requires
merge_at-requires c = let a = c.args in let pre = c.requires in let J = justified-here a.job.now a.found.now a.unions.now a.store.now.kinds.now a.store.now.ends.now a.store.now.pool.now a.store.now.index.now a.fill a.memo.now a.scratch.now a.p pre.prepared c.wide-n.ensures c.claim_at-q.result c.justification_at-j.result c.claim_at-q.ensures c.justification_at-j.ensures in record { prepared = pre.prepared; x_bound = reference-inside J pre.p_bound c.in-MergeFn.is (Memᴰ.head refl) refl; y_bound = reference-inside J pre.p_bound c.in-MergeFn.is (Memᴰ.tail (Memᴰ.head refl)) refl }

pub congr_at-requires : goal.congr_at-requires
congr_at-requires c = let a = c.args in let pre = c.requires in let J = justified-here a.job.now a.found.now a.unions.now a.store.now.kinds.now a.store.now.ends.now a.store.now.pool.now a.store.now.index.now a.fill a.memo.now a.scratch.now a.p pre.prepared c.wide-n.ensures c.claim_at-q.result c.justification_at-j.result c.claim_at-q.ensures c.justification_at-j.ensures in record { ready = pre.prepared.ready; indexed = pre.prepared.indexed; terms_first = pre.prepared.terms; x_bound = reference-inside J pre.p_bound c.in-Congr.is (Memᴰ.head refl) refl; y_bound = reference-inside J pre.p_bound c.in-Congr.is (Memᴰ.tail (Memᴰ.head refl)) refl }

pub slice_bounds-plain_step-end-in_default : goal.slice_bounds-plain_step-end-in_default
slice_bounds-plain_step-end-in_default c = let a = c.args in let pre = c.requires in let h = pre.prepared.long in simp length-take (omega arith)

pub plain_step-refusal-requires : goal.plain_step-refusal-requires
plain_step-refusal-requires c = let a = c.args in let pre = c.requires in record { ready = pre.prepared.ready; keyed = pre.prepared.keyed; stored = pre.prepared.indexed.stored; job_bound = first-cells pre.prepared.ready a.store.now.kinds.now a.store.now.ends.now a.store.now.pool.now a.fill pre.prepared.terms; p_bound = pre.p_bound; claim_at = claim-here a.job.now a.found.now a.unions.now a.store.now.kinds.now a.store.now.ends.now a.store.now.pool.now a.store.now.index.now a.fill a.memo.now a.scratch.now a.p pre.prepared c.wide-n.ensures c.claim_at-q.result c.justification_at-j.result c.claim_at-q.ensures c.justification_at-j.ensures; justification_at = justified-here a.job.now a.found.now a.unions.now a.store.now.kinds.now a.store.now.ends.now a.store.now.pool.now a.store.now.index.now a.fill a.memo.now a.scratch.now a.p pre.prepared c.wide-n.ensures c.claim_at-q.result c.justification_at-j.result c.claim_at-q.ensures c.justification_at-j.ensures }

pub returns-in-MergeFn-clause-does : goal.returns-in-MergeFn-clause-does
returns-in-MergeFn-clause-does c = let a = c.args in let pre = c.requires in concludes-merge a.job.now a.found.now a.unions.now a.store.now.kinds.now a.store.now.ends.now a.store.now.pool.now a.store.now.index.now a.fill a.memo.now a.scratch.now a.p pre.prepared c.wide-n.ensures c.claim_at-q.result c.justification_at-j.result c.claim_at-q.ensures c.justification_at-j.ensures c.merge_at.result {k₁ = c.merge_at.new.store.kinds.now} {e₁ = c.merge_at.new.store.ends.now} {l₁ = c.merge_at.new.store.pool.now} {memo₁ = c.merge_at.new.memo} {W₁ = c.merge_at.new.scratch} c.in-MergeFn.is c.merge_at.ensures.checks c.merge_at.ensures.second_part

pub returns-in-Congr-clause-does : goal.returns-in-Congr-clause-does
returns-in-Congr-clause-does c = let a = c.args in let pre = c.requires in concludes-congr a.job.now a.found.now a.unions.now a.store.now.kinds.now a.store.now.ends.now a.store.now.pool.now a.store.now.index.now a.fill a.memo.now a.scratch.now a.p pre.prepared c.wide-n.ensures c.claim_at-q.result c.justification_at-j.result c.claim_at-q.ensures c.justification_at-j.ensures c.congr_at.result {k₁ = c.congr_at.new.store.kinds.now} {e₁ = c.congr_at.new.store.ends.now} {l₁ = c.congr_at.new.store.pool.now} c.in-Congr.is (reference-inside (justified-here a.job.now a.found.now a.unions.now a.store.now.kinds.now a.store.now.ends.now a.store.now.pool.now a.store.now.index.now a.fill a.memo.now a.scratch.now a.p pre.prepared c.wide-n.ensures c.claim_at-q.result c.justification_at-j.result c.claim_at-q.ensures c.justification_at-j.ensures) pre.p_bound c.in-Congr.is (Memᴰ.tail (Memᴰ.head refl)) refl) c.congr_at.ensures.does

pub returns-in_default-clause-does : goal.returns-in_default-clause-does
returns-in_default-clause-does c = let a = c.args in let pre = c.requires in concludes-plain a.job.now a.found.now a.unions.now a.store.now.kinds.now a.store.now.ends.now a.store.now.pool.now a.store.now.index.now a.fill a.memo.now a.scratch.now a.p pre.prepared c.wide-n.ensures c.claim_at-q.result c.justification_at-j.result c.claim_at-q.ensures c.justification_at-j.ensures (plain-arm c.justification_at-j.result (opened c.in_default.in_default-own.keys3)) c.plain_step-refusal.ensures
