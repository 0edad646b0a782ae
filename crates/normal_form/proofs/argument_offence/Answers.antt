use mathlib.Core.Path.{refl, ◌∙◌}
use mathlib.Core.Bool.{◌&&◌}
use Rattle.model.specs.Fact.{is_func}
use Rattle.decode.specs.View.{head_of}
use Rattle.program.specs.Ready.{tables_for, program_for}
use native.Mathlib.Omega.{arith}
use Rattle.normal_form.proofs.Laws.{low_half, argument-by, says_first, says_second, says_none}
use Rattle.normal_form.proofs.argument_offence.Goals as goal

pub returns-then-is_primitive-func : goal.returns-then-is_primitive-func
returns-then-is_primitive-func c = let a = c.args in
    let prog = program_for a.job.now in
    let by = argument-by (tables_for a.job.now).expressions a.j prog (head_of a.h) (head_of c.head_at-g.result) c.wide.ensures c.wide-2.ensures c.head_at-g.ensures.is c.is_primitive.ensures c.is_func-func.ensures refl c.is_container_primitive-container.ensures in
    let l = low_half a.job.now a.j c.requires.ready c.requires.j_bound in
    record { says = says_first a.j _ (is_func (head_of a.h) && c.is_container_primitive-container.result) c.if-is_primitive-func.true ∙ by; low = omega arith }

pub returns-then-is_func-container : goal.returns-then-is_func-container
returns-then-is_func-container c = let a = c.args in
    let prog = program_for a.job.now in
    let by = argument-by (tables_for a.job.now).expressions a.j prog (head_of a.h) (head_of c.head_at-g.result) c.wide.ensures c.wide-2.ensures c.head_at-g.ensures.is c.is_primitive.ensures c.is_func-func.ensures c.is_func.ensures c.is_container_primitive-container.ensures in
    let l = low_half a.job.now a.j c.requires.ready c.requires.j_bound in
    record { says = says_second a.j _ _ c.if-is_primitive-func.false c.if-is_func-container.true ∙ by; low = omega arith }

pub returns : goal.returns
returns c = let a = c.args in
    let prog = program_for a.job.now in
    let by = argument-by (tables_for a.job.now).expressions a.j prog (head_of a.h) (head_of c.head_at-g.result) c.wide.ensures c.wide-2.ensures c.head_at-g.ensures.is c.is_primitive.ensures c.is_func-func.ensures c.is_func.ensures c.is_container_primitive-container.ensures in
    record { says = says_none a.j _ _ c.if-is_primitive-func.false c.if-is_func-container.false ∙ by; low = omega arith }
