use mathlib.Core.Path.{refl, ◌∙◌}
use native.Mathlib.Omega.{arith}
use lib.ListN.{length}
use Rattle.prepare.specs.Prepares.{arrays_of}
use Rattle.entry.proofs.Ending.{entry-unwritten}
use Rattle.entry.proofs.Laws.{refuses, job-given, job-asked, job-ready, terms-word, height-asked, tells}
use Rattle.entry.proofs.check_store.Goals as goal

pub returns-then-answer-ne8-clause-is : goal.returns-then-answer-ne8-clause-is
returns-then-answer-ne8-clause-is c = let a = c.args in entry-unwritten a.job.now a.asked a.mode (arrays_of a.store.now.kinds.now a.store.now.ends.now a.store.now.pool.now) (length a.store.now.index.now) (length a.scratch.now) a.answer.now c.if-answer-ne8.true

pub returns-then-p-ne0-clause-is : goal.returns-then-p-ne0-clause-is
returns-then-p-ne0-clause-is c = refuses c.prepare-p.ensures.does c.args.answer.now c.if-answer-ne8.false c.if-p-ne0.true c.write_refusal.ensures.is c.write_refusal.ensures.first

pub check_proof-r-requires : goal.check_proof-r-requires
check_proof-r-requires c = record { given = job-given c.prepare-p.ensures.does c.if-p-ne0.false refl; asked_bound = job-asked c.prepare-p.ensures.does c.if-p-ne0.false }

pub tell-requires : goal.tell-requires
tell-requires c = let S = c.prepare-p.ensures.does in let n = c.if-p-ne0.false in record { ready = job-ready S n; asked_bound = omega (arith, c.wide.ensures, job-asked S n); answer_len = c.if-answer-ne8.false; cells_bound = terms-word S n c.check_proof-r.ensures.does; value_value = height-asked c.args.job.now c.wide.ensures c.check_proof-r.ensures.high }

pub returns-clause-is : goal.returns-clause-is
returns-clause-is c = tells c.prepare-p.ensures.does c.if-p-ne0.false c.check_proof-r.ensures.does c.args.answer.now c.if-answer-ne8.false c.wide.ensures c.tell.ensures.is c.tell.ensures.first

pub returns-clause-len_k : goal.returns-clause-len_k
returns-clause-len_k c = c.check_proof-r.ensures.does.grown.len_k ∙ (c.prepare-p.ensures.does.started c.if-p-ne0.false).len_k

pub returns-clause-len_e : goal.returns-clause-len_e
returns-clause-len_e c = c.check_proof-r.ensures.does.grown.len_e ∙ (c.prepare-p.ensures.does.started c.if-p-ne0.false).len_e

pub returns-clause-len_p : goal.returns-clause-len_p
returns-clause-len_p c = c.check_proof-r.ensures.does.grown.len_p ∙ (c.prepare-p.ensures.does.started c.if-p-ne0.false).len_p

pub returns-then-p-ne0-clause-len_i : goal.returns-then-p-ne0-clause-len_i
returns-then-p-ne0-clause-len_i c = c.prepare-p.ensures.len_i

pub returns-clause-len_i : goal.returns-clause-len_i
returns-clause-len_i c = c.check_proof-r.ensures.does.grown.len_i ∙ c.prepare-p.ensures.len_i
