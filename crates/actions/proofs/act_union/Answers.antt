use Rattle.program.specs.Read.{expr_for}
use mathlib.Core.Path.{◌≡◌, ◌∙◌}
use Rattle.actions.proofs.Acting.{standing-after, union-stops, acts-union}
use borrow.Author.Rules.{rules}
use Rattle.actions.proofs.act_union.Goals as goal

pub yield_value-a-requires : goal.yield_value-a-requires
yield_value-a-requires c = record { standing = c.requires.standing; going_2 = c.requires.going_2; e_bound = c.requires.left_bound }

pub returns-then-a-ne0-clause-acts : goal.returns-then-a-ne0-clause-acts
returns-then-a-ne0-clause-acts c = let a = c.args in union-stops a.scope.now.rule (expr_for a.scope.now.job.now a.left) (expr_for a.scope.now.job.now a.right) c.yield_value-a.ensures.yields (search rules)

pub returns-then-a-ne0-clause-going : goal.returns-then-a-ne0-clause-going
returns-then-a-ne0-clause-going c = let a = c.args in λ n. absurd (c.if-a-ne0.true n)

pub yield_value-b-requires : goal.yield_value-b-requires
yield_value-b-requires c = let y = c.yield_value-a.ensures.yields in let n : c.yield_value-a.result.refusal.number ≡ 0 = search rules in record { standing = standing-after c.requires.standing y.does.grown (y.sane n) (y.past n) (search rules) (search rules); going_2 = c.yield_value-a.ensures.going n; e_bound = c.requires.right_bound }

pub shape_of-memo : goal.shape_of-memo
shape_of-memo c = c.yield_value-b.auto.memo ∙ c.yield_value-a.auto.memo

pub shape_of-marks : goal.shape_of-marks
shape_of-marks c = c.yield_value-b.auto.marks ∙ c.yield_value-a.auto.marks

pub returns-clause-acts : goal.returns-clause-acts
returns-clause-acts c = let a = c.args in acts-union a.scope.now.rule (expr_for a.scope.now.job.now a.left) (expr_for a.scope.now.job.now a.right) c.yield_value-a.ensures.yields (search rules) c.yield_value-b.ensures.yields

pub returns-clause-going : goal.returns-clause-going
returns-clause-going c = let a = c.args in c.yield_value-b.ensures.going
