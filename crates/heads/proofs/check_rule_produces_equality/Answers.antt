use mathlib.Core.List.{List}
use lib.Dec.{eqb}
use Rattle.model.specs.Term.{Term}
use Rattle.termdag.proofs.Viewing.{seen, stored-seen}
use Rattle.marks.specs.Marks.{is_marked, close}
use Rattle.heads.specs.Heading.{claimed_by}
use Rattle.heads.proofs.Claiming.{actions-for, produce-stops, produce-by, claimed-is}
use Rattle.heads.proofs.Lone.{standing-cleared}
use Rattle.evaluate.specs.Value.{bindings_in}
use Rattle.program.specs.Ready.{program_for, rule_for}
use Rattle.decode.specs.View.{proposition_of}
use native.Mathlib.Omega.{arith}
use borrow.Author.Tests.{eqb-true}
use mathlib.Core.Path.{refl, sym, ◌∙◌}
use Rattle.heads.proofs.check_rule_produces_equality.Goals as goal

pub rule_name_at-rule-requires : goal.rule_name_at-rule-requires
rule_name_at-rule-requires c = record { ready = c.requires.standing.ready; r_bound = c.requires.r_bound }

pub rule_actions_at-actions-requires : goal.rule_actions_at-actions-requires
rule_actions_at-actions-requires c = record { ready = c.requires.standing.ready; r_bound = c.requires.r_bound }

pub lone_run-lone-requires : goal.lone_run-lone-requires
lone_run-lone-requires c = record { ready = c.requires.standing.ready; by_index = c.rule_actions_at-actions.ensures.within }

pub run_produces-requires : goal.run_produces-requires
run_produces-requires c = let L = c.lone_run-lone.ensures _ c.in-Some.is in let q = c.args.q in record { standing = c.requires.standing; e_bound = L.within; lhs_value = eqb-true q.lhs q.rhs L.marked }

pub returns-in-Some-clause-does : goal.returns-in-Some-clause-does
returns-in-Some-clause-does c = let a = c.args in let L = c.lone_run-lone.ensures _ c.in-Some.is in c.run_produces.ensures.does (rule_for a.scope.now.job.now a.r) c.rule_name_at-rule.ensures (sym L.is ∙ actions-for a.scope.now.job.now a.r c.rule_actions_at-actions.ensures.is)

pub head_actions-h-requires : goal.head_actions-h-requires
head_actions-h-requires c = let P = c.requires in record { standing = standing-cleared P.standing c.clear_if.auto.marks; bound_len_bound = P.bound_len_bound; actions_len_bound = c.rule_actions_at-actions.ensures.few; by_index = c.rule_actions_at-actions.ensures.within }

pub shape_of-marks-then-h-ne0 : goal.shape_of-marks-then-h-ne0
shape_of-marks-then-h-ne0 c = c.head_actions-h.auto.marks ∙ c.clear_if.auto.marks

pub returns-then-h-ne0-clause-does : goal.returns-then-h-ne0-clause-does
returns-then-h-ne0-clause-does c = let a = c.args in produce-stops (program_for a.scope.now.job.now) (rule_for a.scope.now.job.now a.r) (bindings_in a.scope.now.bound.now a.scope.now.pairs.now a.scope.now.globals.now) (proposition_of a.q) c.rule_name_at-rule.ensures (actions-for a.scope.now.job.now a.r c.rule_actions_at-actions.ensures.is) c.head_actions-h.ensures.does c.if-h-ne0.true refl

pub is_claimed-claimed-requires : goal.is_claimed-claimed-requires
is_claimed-claimed-requires c = stored-seen c.head_actions-h.new.store c.view.result c.head_actions-h.result.fill c.view.ensures c.head_actions-h.ensures.does.does.grown.indexed.stored

pub shape_of-marks : goal.shape_of-marks
shape_of-marks c = c.is_claimed-claimed.auto.marks ∙ c.head_actions-h.auto.marks ∙ c.clear_if.auto.marks

pub returns-clause-does : goal.returns-clause-does
returns-clause-does c = let a = c.args in let H = c.head_actions-h.ensures.does in let n = c.if-h-ne0.false in let x = actions-for a.scope.now.job.now a.r c.rule_actions_at-actions.ensures.is in let l = c.requires.standing.cells in let g = H.does.grown.len_k in let u = c.head_actions-h.auto.marks in let v = c.clear_if.auto.marks in produce-by (program_for a.scope.now.job.now) (rule_for a.scope.now.job.now a.r) (bindings_in a.scope.now.bound.now a.scope.now.pairs.now a.scope.now.globals.now) (proposition_of a.q) c.rule_name_at-rule.ensures x H n (claimed-is (program_for a.scope.now.job.now) (rule_for a.scope.now.job.now a.r) (bindings_in a.scope.now.bound.now a.scope.now.pairs.now a.scope.now.globals.now) (proposition_of a.q) c.rule_name_at-rule.ensures x H n refl a.marks.now c.clear_if.ensures (omega arith) (seen c.head_actions-h.new.store c.view.result c.head_actions-h.result.fill c.view.ensures (λ (ts : List Term). claimed_by (eqb a.q.lhs a.q.rhs) c.head_actions-h.result.found (is_marked (close ts c.head_actions-h.result.fill.cells c.head_actions-h.new.marks) a.q.lhs)) c.is_claimed-claimed.ensures)) (c.produced.ensures.fill_value, c.produced.ensures.s_value)
