use mathlib.Core.Path.{refl, ap, ◌∙◌}
use Prim.Native.Nat.{ℕ}
use native.Mathlib.Omega.{arith}
use lib.ListN.{length}
use Rattle.program.specs.Ready.{program_for, rule_for}
use Rattle.program.specs.Read.{proofs_for, proof_cell, pairs_for}
use Rattle.marks.proofs.Bits.{words-hold, words-few}
use Rattle.steps.proofs.JobLaws.{second-long}
use Rattle.turns.proofs.Tying.{claim-by, part-long, part-front, part-back}
use Rattle.turns.proofs.Stages.{stage-before, stage-stops, stage-after, stage-ends, after_kept, after-pairs, sane-pairs, produces-pairs, fact-turn, facts-count, fresh-fact, late-fact}
use Rattle.turns.proofs.advance_rule.Goals as goal

pub substitution_at-pairs-requires : goal.substitution_at-pairs-requires
substitution_at-pairs-requires c = let h = c.requires.p_bound in record { ready = c.requires.ground.ready; p_bound = omega arith; p_value = ap (λ (n : ℕ). (proof_cell c.args.job.now n).kind) c.wide.ensures ∙ c.requires.planned.kind refl }

pub rule_facts_at-facts-requires : goal.rule_facts_at-facts-requires
rule_facts_at-facts-requires c = record { ready = c.requires.ground.ready; r_bound = c.requires.planned.inside refl }

pub offset_bounds-facts-i : goal.offset_bounds-facts-i
offset_bounds-facts-i c = let x = fresh-fact c.args.walked c.args.i c.args.count c.if-walked-i.true in let l = x.1 in let f = c.requires.planned.few in omega arith

pub bounds-facts-i : goal.bounds-facts-i
bounds-facts-i c = let x = fresh-fact c.args.walked c.args.i c.args.count c.if-walked-i.true in let l = x.1 in let n = facts-count c.requires.planned c.rule_facts_at-facts.ensures.is in omega arith

pub before_premise-requires : goal.before_premise-requires
before_premise-requires c = let a = c.args in let g = c.requires.ground in let x = fresh-fact c.args.walked c.args.i c.args.count c.if-walked-i.true in let l = x.1 in let n = facts-count c.requires.planned c.rule_facts_at-facts.ensures.is in record { ready = g.ready; keyed = g.keyed; searched = g.searched; indexed = g.indexed; job_in_bounds = g.fits; past = g.past; i_bound = c.rule_facts_at-facts.ensures.within a.i (omega arith); sane = sane-pairs (program_for a.job.now) a.bound.now a.globals.now (c.substitution_at-pairs.ensures.is ∙ ap (pairs_for a.job.now) c.wide.ensures) (c.requires.sane refl) }

pub shape_of-memo-then-walked-i : goal.shape_of-memo-then-walked-i
shape_of-memo-then-walked-i c = c.before_premise.auto.memo

pub returns-then-walked-i-clause-does : goal.returns-then-walked-i-clause-does
returns-then-walked-i-clause-does c = let a = c.args in let x = fresh-fact c.args.walked c.args.i c.args.count c.if-walked-i.true in stage-before c.args.job.now c.args.strict c.args.found.now c.args.globals.now c.args.unions.now c.args.p c.args.r c.args.name c.args.second c.args.count c.args.bound.now c.requires.ground c.requires.planned (c.requires.sane refl) a.i (fact-turn c.requires.planned x.1 c.rule_facts_at-facts.ensures.is refl) x.0 c.before_premise.result (c.substitution_at-pairs.ensures.is ∙ ap (pairs_for c.args.job.now) c.wide.ensures) ((c.before_premise.ensures.does, c.before_premise.ensures.over, c.before_premise.ensures.kept)) c.before_premise.ensures.waits c.before_premise.auto.memo

pub words_for-requires : goal.words_for-requires
words_for-requires c = c.requires.ground.indexed.stored.formed.few

pub overflow_add-d : goal.overflow_add-d
overflow_add-d c = let k = c.requires.ground.indexed.stored.formed.few in let w = words-few (length c.args.store.now.kinds.now) c.words_for.ensures in omega arith

pub after_premise-c-requires : goal.after_premise-c-requires
after_premise-c-requires c = let pre = c.requires in let g = pre.ground in record { ready = g.ready; keyed = g.keyed; indexed = g.indexed; job_in_bounds = g.fits; past = g.past; p_bound = pre.p_bound; planned = pre.planned }

pub shape_of-memo-then-c-ne0 : goal.shape_of-memo-then-c-ne0
shape_of-memo-then-c-ne0 c = c.after_premise-c.auto.memo

pub returns-then-c-ne0-clause-does : goal.returns-then-c-ne0-clause-does
returns-then-c-ne0-clause-does c = stage-stops c.args.job.now c.args.strict c.args.found.now c.args.globals.now c.args.unions.now c.args.p c.args.r c.args.name c.args.second c.args.count c.args.bound.now c.requires.ground c.requires.planned (c.requires.sane refl) c.args.i c.args.walked (late-fact c.args.walked c.args.i c.args.count c.if-walked-i.false) c.after_premise-c.result (after-pairs c.args.job.now c.args.p c.args.r c.args.name c.args.i c.args.bound.now c.args.globals.now (c.substitution_at-pairs.ensures.is ∙ ap (pairs_for c.args.job.now) c.wide.ensures) c.after_premise-c.ensures.does) c.if-c-ne0.true c.after_premise-c.auto.memo c.over.ensures

pub overflow_add-i : goal.overflow_add-i
overflow_add-i c = let f = c.requires.planned.few in let i = c.requires.i_le_count in omega arith

pub shape_of-memo-then-i-count : goal.shape_of-memo-then-i-count
shape_of-memo-then-i-count c = c.after_premise-c.auto.memo

pub returns-then-i-count-clause-does : goal.returns-then-i-count-clause-does
returns-then-i-count-clause-does c = stage-after c.args.job.now c.args.strict c.args.found.now c.args.globals.now c.args.unions.now c.args.p c.args.r c.args.name c.args.second c.args.count c.args.bound.now c.requires.ground c.requires.planned (c.requires.sane refl) c.args.i c.args.walked (late-fact c.args.walked c.args.i c.args.count c.if-walked-i.false) c.after_premise-c.result (after-pairs c.args.job.now c.args.p c.args.r c.args.name c.args.i c.args.bound.now c.args.globals.now (c.substitution_at-pairs.ensures.is ∙ ap (pairs_for c.args.job.now) c.wide.ensures) c.after_premise-c.ensures.does) c.if-c-ne0.false c.if-i-count.true c.after_premise-c.auto.memo c.over-then-i-count.ensures

pub claim_at-q-requires : goal.claim_at-q-requires
claim_at-q-requires c = let h = c.requires.p_bound in record { ready = c.requires.ground.ready; p_bound = omega arith }

pub offset_bounds-scratch-cells : goal.offset_bounds-scratch-cells
offset_bounds-scratch-cells c = let k = c.requires.ground.indexed.stored.formed.few in omega arith

pub slice_bounds-check_rule_produces_equality-end : goal.slice_bounds-check_rule_produces_equality-end
slice_bounds-check_rule_produces_equality-end c = let k = c.requires.ground.long in let w = words-few (length c.args.store.now.kinds.now) c.words_for.ensures in omega arith

pub check_rule_produces_equality-requires : goal.check_rule_produces_equality-requires
check_rule_produces_equality-requires c = let a = c.args in let pre = c.requires in let g = pre.ground in let S = pre.planned in let k = c.after_premise-c.ensures.does.does.grown.len_k in let m = c.after_premise-c.auto.memo in record { standing = record { ready = g.ready; keyed = g.keyed; indexed = c.after_premise-c.ensures.does.does.grown.indexed; sane = sane-pairs (program_for a.job.now) a.bound.now a.globals.now (c.substitution_at-pairs.ensures.is ∙ ap (pairs_for c.args.job.now) c.wide.ensures) (after_kept c.args.job.now c.args.strict c.args.found.now c.args.globals.now c.args.unions.now c.args.p c.args.r c.args.name c.args.second c.args.count c.args.bound.now c.requires.ground c.requires.planned (c.requires.sane refl) c.args.i c.args.walked (late-fact c.args.walked c.args.i c.args.count c.if-walked-i.false) c.after_premise-c.result (after-pairs c.args.job.now c.args.p c.args.r c.args.name c.args.i c.args.bound.now c.args.globals.now (c.substitution_at-pairs.ensures.is ∙ ap (pairs_for c.args.job.now) c.wide.ensures) c.after_premise-c.ensures.does) c.if-c-ne0.false).1; fits = let f = g.fits in omega arith; past = c.after_premise-c.ensures.does.past c.if-c-ne0.false; cells = let x = g.long in let y = words-hold (length a.store.now.kinds.now) c.words_for.ensures in rw (second-long (length a.store.now.kinds.now) c.words_for.result a.scratch.now (omega arith) (words-few (length a.store.now.kinds.now) c.words_for.ensures)) (omega arith) }; bound_len_bound = pre.bound_len_bound; r_bound = S.inside refl }

pub shape_of-memo : goal.shape_of-memo
shape_of-memo c = c.check_rule_produces_equality.auto.memo ∙ c.after_premise-c.auto.memo

pub shape_of-scratch : goal.shape_of-scratch
shape_of-scratch c = part-long c.args.scratch.now c.check_rule_produces_equality.new.marks (length c.args.store.now.kinds.now) c.words_for.result c.check_rule_produces_equality.auto.marks (let h = c.requires.ground.long in omega arith) (words-few (length c.args.store.now.kinds.now) c.words_for.ensures)

pub returns-clause-does : goal.returns-clause-does
returns-clause-does c = let a = c.args in stage-ends c.args.job.now c.args.strict c.args.found.now c.args.globals.now c.args.unions.now c.args.p c.args.r c.args.name c.args.second c.args.count c.args.bound.now c.requires.ground c.requires.planned (c.requires.sane refl) c.args.i c.args.walked (late-fact c.args.walked c.args.i c.args.count c.if-walked-i.false) c.after_premise-c.result (after-pairs c.args.job.now c.args.p c.args.r c.args.name c.args.i c.args.bound.now c.args.globals.now (c.substitution_at-pairs.ensures.is ∙ ap (pairs_for c.args.job.now) c.wide.ensures) c.after_premise-c.ensures.does) c.if-c-ne0.false (let l = c.if-i-count.false in omega arith) c.check_rule_produces_equality.result (produces-pairs (program_for a.job.now) (rule_for a.job.now a.r) a.bound.now a.globals.now (c.substitution_at-pairs.ensures.is ∙ ap (pairs_for c.args.job.now) c.wide.ensures) (claim-by (proofs_for a.job.now) c.claim_at-q.ensures.is c.wide-2.ensures) c.check_rule_produces_equality.ensures.does) (c.check_rule_produces_equality.auto.memo ∙ c.after_premise-c.auto.memo) (part-long c.args.scratch.now c.check_rule_produces_equality.new.marks (length c.args.store.now.kinds.now) c.words_for.result c.check_rule_produces_equality.auto.marks (let h = c.requires.ground.long in omega arith) (words-few (length c.args.store.now.kinds.now) c.words_for.ensures)) (part-front c.args.scratch.now c.check_rule_produces_equality.new.marks (length c.args.store.now.kinds.now) c.words_for.result c.check_rule_produces_equality.auto.marks (let h = c.requires.ground.long in omega arith) (words-few (length c.args.store.now.kinds.now) c.words_for.ensures)) (part-back c.args.scratch.now c.check_rule_produces_equality.new.marks (length c.args.store.now.kinds.now) c.words_for.result c.check_rule_produces_equality.auto.marks (let h = c.requires.ground.long in omega arith) (words-few (length c.args.store.now.kinds.now) c.words_for.ensures)) c.over-2.ensures
