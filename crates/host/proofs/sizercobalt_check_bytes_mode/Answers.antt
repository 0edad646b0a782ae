use mathlib.Core.Path.{sym, ◌∙◌}
use Rattle.host.proofs.Laws.{unwritten, answered, too_long, no_words, whole_words}
use Rattle.host.proofs.sizercobalt_check_bytes_mode.Goals as goal

pub returns-then-answer-ne8 : goal.returns-then-answer-ne8
returns-then-answer-ne8 c = let a = c.args in unwritten a.job.now a.asked a.mode a.answer.now c.if-answer-ne8.true

pub returns-then-job-gt65536 : goal.returns-then-job-gt65536
returns-then-job-gt65536 c = let a = c.args in answered a.job.now a.asked a.mode a.answer.now c.if-answer-ne8.false (c.refuse_bytes.ensures.is ∙ sym (too_long a.job.now a.asked a.mode c.if-job-gt65536.true)) c.refuse_bytes.ensures.number

pub returns-then-job-ne0 : goal.returns-then-job-ne0
returns-then-job-ne0 c = let a = c.args in answered a.job.now a.asked a.mode a.answer.now c.if-answer-ne8.false (c.refuse_bytes-then-job-ne0.ensures.is ∙ sym (no_words a.job.now a.asked a.mode c.if-job-gt65536.false c.if-job-ne0.true)) c.refuse_bytes-then-job-ne0.ensures.number

pub returns : goal.returns
returns c = let a = c.args in answered a.job.now a.asked a.mode a.answer.now c.if-answer-ne8.false (c.check_whole.ensures.is ∙ sym (whole_words a.job.now a.asked a.mode c.if-job-gt65536.false c.if-job-ne0.false)) c.check_whole.ensures.number
