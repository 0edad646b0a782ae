use mathlib.Core.Path.{◌≡◌, sym, ap, ◌∙◌}
use Rattle.program.specs.Ready.{program_for, option_of}
use Rattle.decode.specs.View.{validates, validator_kind, primitive_of}
use Rattle.decode.specs.declared.Validator.{Validator}
use Rattle.model.specs.Evaluate.{primitive_at}
use Rattle.evaluate.proofs.HeadValues.{rows-kind, operation-kind, without-validator, computes-value, unknown-value, row-some, row-none}
use Rattle.evaluate.proofs.validated.Goals as goal

pub returns-in-Nothing-clause-does : goal.returns-in-Nothing-clause-does
returns-in-Nothing-clause-does c = let a = c.args in let prog = program_for a.job.now in let q = c.primitive_at-primitive.result in let is : primitive_of q ≡ primitive_at prog.primitives a.p = c.primitive_at-primitive.ensures ∙ ap (primitive_at prog.primitives) c.wide.ensures in without-validator prog a.n a.p a.args.now (primitive_of q) is c.requires.indexed _ c.requires.n_nonzero (ap validates c.in-Nothing.is) c.refuse1.ensures

pub returns-in-Some-clause-does : goal.returns-in-Some-clause-does
returns-in-Some-clause-does c = let a = c.args in let prog = program_for a.job.now in let q = c.primitive_at-primitive.result in let is : primitive_of q ≡ primitive_at prog.primitives a.p = c.primitive_at-primitive.ensures ∙ ap (primitive_at prog.primitives) c.wide.ensures in row-some prog a.n a.p a.args.now (primitive_of q) is c.requires.indexed (ap validates c.in-Rows.is) (rows-kind q c.in-Rows.is) c.row_value.ensures _ _ (ap option_of (sym c.in-Some.is)) c.pass.ensures

pub returns-in-None-clause-does : goal.returns-in-None-clause-does
returns-in-None-clause-does c = let a = c.args in let prog = program_for a.job.now in let q = c.primitive_at-primitive.result in let is : primitive_of q ≡ primitive_at prog.primitives a.p = c.primitive_at-primitive.ensures ∙ ap (primitive_at prog.primitives) c.wide.ensures in row-none prog a.n a.p a.args.now (primitive_of q) is c.requires.indexed (ap validates c.in-Rows.is) (rows-kind q c.in-Rows.is) c.row_value.ensures _ (ap option_of (sym c.in-None.is)) c.refuse1-in-None.ensures

pub returns-in-Computes-clause-does : goal.returns-in-Computes-clause-does
returns-in-Computes-clause-does c = let a = c.args in let prog = program_for a.job.now in let q = c.primitive_at-primitive.result in let is : primitive_of q ≡ primitive_at prog.primitives a.p = c.primitive_at-primitive.ensures ∙ ap (primitive_at prog.primitives) c.wide.ensures in computes-value prog a.n a.p a.args.now (primitive_of q) is _ (ap validates c.in-Computes.is) (ap (λ (v : Validator). validator_kind v q.container) c.in-Computes.is) (operation-kind _) c.compute.ensures.does

pub returns-in-Unknown-clause-does : goal.returns-in-Unknown-clause-does
returns-in-Unknown-clause-does c = let a = c.args in let prog = program_for a.job.now in let q = c.primitive_at-primitive.result in let is : primitive_of q ≡ primitive_at prog.primitives a.p = c.primitive_at-primitive.ensures ∙ ap (primitive_at prog.primitives) c.wide.ensures in unknown-value prog a.n a.p a.args.now (primitive_of q) is c.requires.indexed _ _ (ap validates c.in-Unknown.is) (ap (λ (v : Validator). validator_kind v q.container) c.in-Unknown.is) c.refuse1-in-Unknown.ensures
