use mathlib.Core.Path.{◌≡◌, refl, ap, ◌∙◌}
use Rattle.model.specs.Evaluate.{primitive_at}
use Rattle.termdag.specs.Store.{terms_in, room_of}
use Rattle.program.specs.Ready.{program_for}
use Rattle.decode.specs.View.{validates, validator_kind, primitive_of}
use Rattle.decode.specs.declared.Validator.{Validator}
use Rattle.evaluate.proofs.HeadValues.{rows-kind, operation-kind, finds-none, computes-found, row-found}
use Rattle.evaluate.proofs.find_validated.Goals as goal

pub returns-in-Nothing : goal.returns-in-Nothing
returns-in-Nothing c = λ n. finds-none refl

pub returns-in-Rows : goal.returns-in-Rows
returns-in-Rows c = let a = c.args in let prog = program_for a.job.now in let s = terms_in a.store.now.kinds.now a.store.now.ends.now a.store.now.pool.now a.fill in let q = c.primitive_at-primitive.result in let is : primitive_of q ≡ primitive_at prog.primitives a.p = c.primitive_at-primitive.ensures ∙ ap (primitive_at prog.primitives) c.wide.ensures in λ n. row-found prog n a.p a.args.now (primitive_of q) is (room_of a.store.now.kinds.now a.store.now.pool.now) s (ap validates c.in-Rows.is) (rows-kind q c.in-Rows.is) c.row_value.ensures

pub returns-in-Computes : goal.returns-in-Computes
returns-in-Computes c = let a = c.args in let prog = program_for a.job.now in let s = terms_in a.store.now.kinds.now a.store.now.ends.now a.store.now.pool.now a.fill in let q = c.primitive_at-primitive.result in let is : primitive_of q ≡ primitive_at prog.primitives a.p = c.primitive_at-primitive.ensures ∙ ap (primitive_at prog.primitives) c.wide.ensures in λ n. computes-found prog n a.p a.args.now (primitive_of q) is (room_of a.store.now.kinds.now a.store.now.pool.now) s _ (ap validates c.in-Computes.is) (ap (λ (v : Validator). validator_kind v q.container) c.in-Computes.is) (operation-kind _) (c.find_result.ensures.known q.name)
