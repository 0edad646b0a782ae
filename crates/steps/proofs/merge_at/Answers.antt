use native.Mathlib.Omega.{arith}
use lib.ListN.{length}
use Rattle.decode.specs.View.{proposition_of}
use Rattle.program.specs.Ready.{program_for}
use Rattle.marks.proofs.Bits.{words-few}
use Rattle.steps.proofs.JobLaws.{claim-of, term-small, second-part}
use Rattle.steps.proofs.ConcludeLaws.{merge-stands, merge-as}
use Rattle.steps.proofs.merge_at.Goals as goal

pub offset_bounds-scratch-c : goal.offset_bounds-scratch-c
offset_bounds-scratch-c c = let a = c.args in let pre = c.requires in let h = pre.prepared.indexed.stored.formed.few in omega arith

pub merge_step-requires : goal.merge_step-requires
merge_step-requires c = let a = c.args in let pre = c.requires in record { standing = merge-stands c.words_for.ensures pre.prepared; small = term-small pre.prepared.ready pre.prepared.terms c.claim_at-a.ensures.rhs; small_2 = term-small pre.prepared.ready pre.prepared.terms c.claim_at-b.ensures.rhs }

pub returns-clause-checks : goal.returns-clause-checks
returns-clause-checks c = let a = c.args in let pre = c.requires in merge-as (program_for a.job.now) a.p (proposition_of a.q) a.function {k = a.store.now.kinds.now} {e = a.store.now.ends.now} {l = a.store.now.pool.now} {f = a.fill} {k₁ = c.merge_step.new.store.kinds.now} {e₁ = c.merge_step.new.store.ends.now} {l₁ = c.merge_step.new.store.pool.now} {m = c.merge_step.new.memo} (claim-of c.claim_at-a.ensures c.wide.ensures) (claim-of c.claim_at-b.ensures c.wide-2.ensures) c.merge_step.ensures.does

pub returns-clause-second_part : goal.returns-clause-second_part
returns-clause-second_part c = let a = c.args in let pre = c.requires in second-part (length a.store.now.kinds.now) c.words_for.result a.scratch.now pre.prepared.long (words-few (length a.store.now.kinds.now) c.words_for.ensures) c.merge_step.new.marks c.merge_step.auto.marks
