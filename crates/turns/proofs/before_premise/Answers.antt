use Rattle.model.proofs.Store.{extends-same}
use Rattle.model.proofs.Post.{post-result}
use Rattle.outcome.proofs.Laws.{ok_of}
use Rattle.conditions.proofs.Keeping.{condition-sane}
use Rattle.turns.proofs.Planning.{before_offends, before-waits, before-condition}
use Rattle.evaluate.proofs.Checking.{checks-here, checks-as}
use Rattle.evaluate.specs.Value.{bindings_in}
use Rattle.program.specs.Read.{proofs_for, fact_for}
use Rattle.program.specs.Ready.{program_for}
use Rattle.termdag.specs.Store.{terms_in, room_of}
use Rattle.model.specs.Fact.{is_container_side_condition}
use native.Mathlib.Omega.{arith}
use Prim.Native.Nat.{ℕ}
use mathlib.Core.Path.{refl, sym, ap, ◌∙◌}
use mathlib.Core.Bool.{true≢false}
use Rattle.turns.proofs.before_premise.Goals as goal

pub returns-then-offence-ne0-clause-does : goal.returns-then-offence-ne0-clause-does
returns-then-offence-ne0-clause-does c = let a = c.args in let pre = c.requires in checks-here pre.indexed pre.past (before_offends (room_of a.store.now.kinds.now a.store.now.pool.now) (program_for a.scope.now.job.now) (proofs_for a.scope.now.job.now) a.strict a.scope.now.rule (fact_for a.scope.now.job.now a.i) 0 (bindings_in a.scope.now.bound.now a.scope.now.pairs.now a.scope.now.globals.now) (terms_in a.store.now.kinds.now a.store.now.ends.now a.store.now.pool.now a.fill) c.assert_body_proof_normal_form-offence.result (bindings_in a.scope.now.bound.now a.scope.now.pairs.now a.scope.now.globals.now) c.assert_body_proof_normal_form-offence.ensures c.if-offence-ne0.true)

pub returns-then-offence-ne0-clause-over : goal.returns-then-offence-ne0-clause-over
returns-then-offence-ne0-clause-over c = let a = c.args in let pre = c.requires in λ n. absurd (c.if-offence-ne0.true n)

pub returns-then-offence-ne0-clause-kept : goal.returns-then-offence-ne0-clause-kept
returns-then-offence-ne0-clause-kept c = let a = c.args in let pre = c.requires in λ n. absurd (c.if-offence-ne0.true n)

pub returns-then-offence-ne0-clause-waits : goal.returns-then-offence-ne0-clause-waits
returns-then-offence-ne0-clause-waits c = let a = c.args in let pre = c.requires in λ _. refl

pub is_container_side_condition-requires : goal.is_container_side_condition-requires
is_container_side_condition-requires c = let pre = c.requires in let h = pre.i_bound in record { ready = pre.ready; searched = pre.searched; i_bound = omega arith }

pub returns-then-not-is_container_side_condition-clause-does : goal.returns-then-not-is_container_side_condition-clause-does
returns-then-not-is_container_side_condition-clause-does c = let a = c.args in let pre = c.requires in let b = sym (c.is_container_side_condition.ensures ∙ ap (λ (i : ℕ). is_container_side_condition (program_for a.scope.now.job.now) (fact_for a.scope.now.job.now i)) c.wide.ensures) ∙ c.if-not-is_container_side_condition.true in checks-here pre.indexed pre.past (before-waits (room_of a.store.now.kinds.now a.store.now.pool.now) (program_for a.scope.now.job.now) (proofs_for a.scope.now.job.now) a.strict a.scope.now.rule (fact_for a.scope.now.job.now a.i) 0 (bindings_in a.scope.now.bound.now a.scope.now.pairs.now a.scope.now.globals.now) (terms_in a.store.now.kinds.now a.store.now.ends.now a.store.now.pool.now a.fill) c.assert_body_proof_normal_form-offence.result c.assert_body_proof_normal_form-offence.ensures c.if-offence-ne0.false b)

pub returns-then-not-is_container_side_condition-clause-over : goal.returns-then-not-is_container_side_condition-clause-over
returns-then-not-is_container_side_condition-clause-over c = let a = c.args in let pre = c.requires in let b = sym (c.is_container_side_condition.ensures ∙ ap (λ (i : ℕ). is_container_side_condition (program_for a.scope.now.job.now) (fact_for a.scope.now.job.now i)) c.wide.ensures) ∙ c.if-not-is_container_side_condition.true in λ _. sym b

pub returns-then-not-is_container_side_condition-clause-kept : goal.returns-then-not-is_container_side_condition-clause-kept
returns-then-not-is_container_side_condition-clause-kept c = let a = c.args in let pre = c.requires in let b = sym (c.is_container_side_condition.ensures ∙ ap (λ (i : ℕ). is_container_side_condition (program_for a.scope.now.job.now) (fact_for a.scope.now.job.now i)) c.wide.ensures) ∙ c.if-not-is_container_side_condition.true in λ _. (extends-same, pre.sane)

pub returns-then-not-is_container_side_condition-clause-waits : goal.returns-then-not-is_container_side_condition-clause-waits
returns-then-not-is_container_side_condition-clause-waits c = let a = c.args in let pre = c.requires in let b = sym (c.is_container_side_condition.ensures ∙ ap (λ (i : ℕ). is_container_side_condition (program_for a.scope.now.job.now) (fact_for a.scope.now.job.now i)) c.wide.ensures) ∙ c.if-not-is_container_side_condition.true in λ _. refl

pub check_side_condition-c-requires : goal.check_side_condition-c-requires
check_side_condition-c-requires c = let pre = c.requires in record { ready = pre.ready; keyed = pre.keyed; indexed = pre.indexed; job_in_bounds = pre.job_in_bounds; past = pre.past; i_bound = pre.i_bound }

pub shape_of-memo : goal.shape_of-memo
shape_of-memo c = c.check_side_condition-c.auto.memo

pub returns-clause-does : goal.returns-clause-does
returns-clause-does c = let a = c.args in let b = sym (c.is_container_side_condition.ensures ∙ ap (λ (i : ℕ). is_container_side_condition (program_for a.scope.now.job.now) (fact_for a.scope.now.job.now i)) c.wide.ensures) ∙ c.if-not-is_container_side_condition.false in checks-as (before-condition (room_of a.store.now.kinds.now a.store.now.pool.now) (program_for a.scope.now.job.now) (proofs_for a.scope.now.job.now) a.strict a.scope.now.rule (fact_for a.scope.now.job.now a.i) 0 (bindings_in a.scope.now.bound.now a.scope.now.pairs.now a.scope.now.globals.now) (terms_in a.store.now.kinds.now a.store.now.ends.now a.store.now.pool.now a.fill) c.assert_body_proof_normal_form-offence.result c.assert_body_proof_normal_form-offence.ensures c.if-offence-ne0.false b) c.check_side_condition-c.ensures.does

pub returns-clause-over : goal.returns-clause-over
returns-clause-over c = let a = c.args in let b = sym (c.is_container_side_condition.ensures ∙ ap (λ (i : ℕ). is_container_side_condition (program_for a.scope.now.job.now) (fact_for a.scope.now.job.now i)) c.wide.ensures) ∙ c.if-not-is_container_side_condition.false in λ _. sym b

pub returns-clause-kept : goal.returns-clause-kept
returns-clause-kept c = let a = c.args in let b = sym (c.is_container_side_condition.ensures ∙ ap (λ (i : ℕ). is_container_side_condition (program_for a.scope.now.job.now) (fact_for a.scope.now.job.now i)) c.wide.ensures) ∙ c.if-not-is_container_side_condition.false in λ n. post-result (condition-sane (room_of a.store.now.kinds.now a.store.now.pool.now) (program_for a.scope.now.job.now) a.scope.now.rule (bindings_in a.scope.now.bound.now a.scope.now.pairs.now a.scope.now.globals.now) a.strict (fact_for a.scope.now.job.now a.i) c.requires.sane) (sym c.check_side_condition-c.ensures.does.does.outcome ∙ ok_of _ _ _ n)

pub returns-clause-waits : goal.returns-clause-waits
returns-clause-waits c = let a = c.args in let b = sym (c.is_container_side_condition.ensures ∙ ap (λ (i : ℕ). is_container_side_condition (program_for a.scope.now.job.now) (fact_for a.scope.now.job.now i)) c.wide.ensures) ∙ c.if-not-is_container_side_condition.false in λ u. absurd (true≢false u)
