use Rattle.entry.proofs.Laws.{told-refusal, told-passed}
use Rattle.entry.proofs.tell.Goals as goal

pub returns-then-r-ne0 : goal.returns-then-r-ne0
returns-then-r-ne0 c = let a = c.args in record { is = told-refusal a.r.refusal a.r.fill.cells _ _ a.asked c.if-r-ne0.true c.write_refusal.ensures.is; first = c.write_refusal.ensures.first }

pub returns : goal.returns
returns c = let a = c.args in record { is = told-passed a.r.refusal a.r.fill.cells a.r.value c.if-r-ne0.false c.claim_at-q.ensures (c.requires.value_value c.if-r-ne0.false) c.write_passed.ensures.is; first = c.write_passed.ensures.first }
