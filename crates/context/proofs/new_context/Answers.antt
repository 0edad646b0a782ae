use lib.ListN.{length}
use mathlib.Core.Path.{refl, ◌∙◌}
use native.Mathlib.Omega.{arith}
use Rattle.outcome.proofs.Laws.{grown-same}
use mathlib.Core.List.{List}
use Rattle.model.specs.Term.{Term}
use Rattle.termdag.proofs.Viewing.{seen}
use Rattle.marks.specs.Marks.{close}
use Rattle.marks.proofs.Marking.{marks-cleared}
use Rattle.actions.proofs.Acting.{standing-after}
use Rattle.context.proofs.Starting.{context-twice, context-stops, context-goes}
use Rattle.context.proofs.new_context.Goals as goal

pub returns-in-Some-clause-does : goal.returns-in-Some-clause-does
returns-in-Some-clause-does c = context-twice c.duplicate_rule_name-duplicate.ensures c.requires.standing.indexed c.in-Some.is

pub global_actions-r-requires : goal.global_actions-r-requires
global_actions-r-requires c = let S = c.requires.standing in record { standing = standing-after S (grown-same S.indexed) S.sane S.past refl c.clear.auto.marks; marks = marks-cleared _ _ (length c.args.marks.now) c.clear.ensures; table_len = c.requires.table_len; unions_len = c.requires.unions_len }

pub shape_of-marks-then-r-ne0 : goal.shape_of-marks-then-r-ne0
shape_of-marks-then-r-ne0 c = c.global_actions-r.auto.marks ∙ c.clear.auto.marks

pub returns-then-r-ne0-clause-does : goal.returns-then-r-ne0-clause-does
returns-then-r-ne0-clause-does c = context-stops c.duplicate_rule_name-duplicate.ensures c.in_default.is c.global_actions-r.ensures.does c.if-r-ne0.true

pub shape_of-marks : goal.shape_of-marks
shape_of-marks c = c.close.auto.marks ∙ c.global_actions-r.auto.marks ∙ c.clear.auto.marks

pub returns-clause-does : goal.returns-clause-does
returns-clause-does c = context-goes c.duplicate_rule_name-duplicate.ensures c.in_default.is c.global_actions-r.ensures.does (let x = c.requires.standing.cells in let y = c.global_actions-r.auto.marks in let z = c.clear.auto.marks in omega arith) (seen c.global_actions-r.new.store c.view.result c.global_actions-r.result.fill c.view.ensures (λ (ts : List Term). close ts c.global_actions-r.result.fill.cells c.global_actions-r.new.marks) c.close.ensures)
