use mathlib.Core.Path.{refl, sym, ap, ◌∙◌}
use mathlib.Core.List.{List}
use Prim.Native.Nat.{ℕ}
use native.Mathlib.Omega.{arith}
use lib.ListN.{get_or}
use Rattle.program.specs.Read.{proofs_for, proof_cell, premises_for}
use Rattle.evaluate.specs.Value.{bindings_in}
use Rattle.turns.proofs.Planning.{reference-inside}
use Rattle.turns.proofs.Tying.{claim-by}
use Rattle.turns.proofs.Stages.{fact-turn, facts-count, after_none, after-fact}
use Rattle.turns.proofs.after_premise.Goals as goal

pub returns-then-count-i-clause-does : goal.returns-then-count-i-clause-does
returns-then-count-i-clause-does c = let a = c.args in after_none c.requires.planned c.if-count-i.true (bindings_in a.scope.now.bound.now a.scope.now.pairs.now a.scope.now.globals.now) c.requires.indexed c.requires.past c.pass.ensures

pub rule_facts_at-facts-requires : goal.rule_facts_at-facts-requires
rule_facts_at-facts-requires c = record { ready = c.requires.ready; r_bound = c.requires.planned.inside refl }

pub premises_at-premises-requires : goal.premises_at-premises-requires
premises_at-premises-requires c = let h = c.requires.p_bound in record { ready = c.requires.ready; p_bound = omega arith; p_value = ap (λ (n : ℕ). (proof_cell c.args.scope.now.job.now n).kind) c.wide.ensures ∙ c.requires.planned.kind refl }

pub offset_bounds-premises-i : goal.offset_bounds-premises-i
offset_bounds-premises-i c = let x = c.if-count-i.false in let f = c.requires.planned.few in omega arith

pub bounds-premises-i : goal.bounds-premises-i
bounds-premises-i c = let x = c.if-count-i.false in let n = reference-inside refl c.requires.planned (c.premises_at-premises.ensures.is ∙ ap (premises_for c.args.scope.now.job.now) c.wide.ensures) in omega arith

pub claim_at-q-requires : goal.claim_at-q-requires
claim_at-q-requires c = let x = c.if-count-i.false in let n = reference-inside refl c.requires.planned (c.premises_at-premises.ensures.is ∙ ap (premises_for c.args.scope.now.job.now) c.wide.ensures) in let l = c.premises_at-premises.ensures.lower c.args.i (omega arith) in let h = c.requires.p_bound in record { ready = c.requires.ready; p_bound = omega arith }

pub offset_bounds-facts-i : goal.offset_bounds-facts-i
offset_bounds-facts-i c = let x = c.if-count-i.false in let f = c.requires.planned.few in omega arith

pub bounds-facts-i : goal.bounds-facts-i
bounds-facts-i c = let x = c.if-count-i.false in let n = facts-count c.requires.planned c.rule_facts_at-facts.ensures.is in omega arith

pub check_fact_matches_proposition-requires : goal.check_fact_matches_proposition-requires
check_fact_matches_proposition-requires c = let x = c.if-count-i.false in let n = facts-count c.requires.planned c.rule_facts_at-facts.ensures.is in let pre = c.requires in record { ready = pre.ready; keyed = pre.keyed; indexed = pre.indexed; job_in_bounds = pre.job_in_bounds; past = pre.past; i_bound = c.rule_facts_at-facts.ensures.within c.args.i (omega arith) }

pub shape_of-memo : goal.shape_of-memo
shape_of-memo c = c.check_fact_matches_proposition.auto.memo

pub returns-clause-does : goal.returns-clause-does
returns-clause-does c =
    let a = c.args in
    let x = c.if-count-i.false in
    after-fact a.scope.now.job.now a.p a.r a.scope.now.rule a.i (bindings_in a.scope.now.bound.now a.scope.now.pairs.now a.scope.now.globals.now)
    (fact-turn c.requires.planned (omega arith) c.rule_facts_at-facts.ensures.is (sym (ap (λ (l : List ℕ). get_or l a.i 0) (c.premises_at-premises.ensures.is ∙ ap (premises_for a.scope.now.job.now) c.wide.ensures))))
    (claim-by (proofs_for a.scope.now.job.now) c.claim_at-q.ensures.is c.wide-2.ensures) c.check_fact_matches_proposition.ensures.does
