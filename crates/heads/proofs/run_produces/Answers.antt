use mathlib.Core.List.{List}
use Rattle.model.specs.Term.{Term}
use Rattle.termdag.proofs.Viewing.{seen, stored-seen}
use Rattle.marks.specs.Marks.{is_marked, close}
use Rattle.heads.proofs.Lone.{standing-cleared, run-stops, run_is, run-marks}
use lib.ListN.{length}
use native.Mathlib.Omega.{arith}
use Rattle.heads.proofs.run_produces.Goals as goal

pub evaluate-v-requires : goal.evaluate-v-requires
evaluate-v-requires c = let P = c.requires in let S = P.standing in record { ready = S.ready; keyed = S.keyed; indexed = S.indexed; e_bound = P.e_bound; job_in_bounds = S.fits; past = S.past }

pub returns-then-v-ne0-clause-does : goal.returns-then-v-ne0-clause-does
returns-then-v-ne0-clause-does c = let P = c.requires in λ t u w. run-stops P.standing P.e_bound P.lhs_value c.evaluate-v.ensures.does t u w c.if-v-ne0.true

pub returns-then-v-q-clause-does : goal.returns-then-v-q-clause-does
returns-then-v-q-clause-does c = let P = c.requires in λ t u w. run_is P.standing P.e_bound P.lhs_value c.evaluate-v.ensures.does t u w c.if-v-ne0.false c.if-v-q.true c.pass.ensures

pub mark_values-requires : goal.mark_values-requires
mark_values-requires c = let f = c.requires.standing.fits in let k = c.evaluate-v.auto.memo in omega arith

pub is_covered-claimed-requires : goal.is_covered-claimed-requires
is_covered-claimed-requires c = stored-seen c.evaluate-v.new.store c.view.result c.evaluate-v.result.fill c.view.ensures c.evaluate-v.ensures.does.does.grown.indexed.stored

pub shape_of-memo : goal.shape_of-memo
shape_of-memo c = c.evaluate-v.auto.memo

pub returns-clause-does : goal.returns-clause-does
returns-clause-does c = let a = c.args in let P = c.requires in λ t u w. run-marks (standing-cleared P.standing c.clear.auto.marks) P.e_bound P.lhs_value c.evaluate-v.ensures.does t u w c.if-v-ne0.false (length a.marks.now) c.clear.ensures c.size.ensures c.mark_values.ensures c.mark_values.auto.marks (seen c.evaluate-v.new.store c.view.result c.evaluate-v.result.fill c.view.ensures (λ (ts : List Term). is_marked (close ts c.evaluate-v.result.fill.cells c.mark_values.new.marks) a.q.lhs) c.is_covered-claimed.ensures) (c.produced.ensures.fill_value, c.produced.ensures.s_value)
