use Rattle.checkproof.proofs.Laws.{long-answer, last-answer}
use Rattle.checkproof.proofs.check_last.Goals as goal

pub returns-then-job-gt65536 : goal.returns-then-job-gt65536
returns-then-job-gt65536 c =
    long-answer c.args.job.now c.args.answer.now c.requires c.if-job-gt65536.true c.sizercobalt_check_bytes.ensures

pub returns : goal.returns
returns c =
    last-answer c.args.job.now c.args.answer.now c.requires c.last_proof-asked.ensures c.sizercobalt_check_bytes-2.ensures
