use mathlib.Core.Path.{refl, ap, ◌∙◌}
use native.Mathlib.Omega.{arith}
use Rattle.model.specs.Program.{Primitive}
use Rattle.model.specs.Evaluate.{primitive_at}
use Rattle.program.specs.Ready.{program_for}
use Rattle.normal_form.proofs.Laws.{container-by}
use Rattle.normal_form.proofs.is_container_primitive.Goals as goal

pub primitive_at-primitive-requires : goal.primitive_at-primitive-requires
primitive_at-primitive-requires c = let h = c.head_at-h.ensures.primitive c.in-Primitive.p c.in-Primitive.is in
    record { ready = c.requires.ready; p_bound = omega (arith, c.wide.ensures) }

pub returns-in-Lit : goal.returns-in-Lit
returns-in-Lit c = let a = c.args in
    container-by a.job.now a.e c.head_at-h.result _ _ c.head_at-h.ensures c.in-Lit.is refl

pub returns-in-Var : goal.returns-in-Var
returns-in-Var c = let a = c.args in
    container-by a.job.now a.e c.head_at-h.result _ _ c.head_at-h.ensures c.in-Var.is refl

pub returns-in-Constructor : goal.returns-in-Constructor
returns-in-Constructor c = let a = c.args in
    container-by a.job.now a.e c.head_at-h.result _ _ c.head_at-h.ensures c.in-Constructor.is refl

pub returns-in-Custom : goal.returns-in-Custom
returns-in-Custom c = let a = c.args in
    container-by a.job.now a.e c.head_at-h.result _ _ c.head_at-h.ensures c.in-Custom.is refl

pub returns-in-Primitive : goal.returns-in-Primitive
returns-in-Primitive c = let a = c.args in
    container-by a.job.now a.e c.head_at-h.result _ _ c.head_at-h.ensures c.in-Primitive.is
    (ap (λ (p : Primitive). p.container) c.primitive_at-primitive.ensures ∙ ap (λ n. (primitive_at (program_for a.job.now).primitives n).container) c.wide.ensures)
