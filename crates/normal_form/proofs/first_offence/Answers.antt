use mathlib.Core.Path.{◌∙◌}
use native.Mathlib.Omega.{arith}
use Rattle.decode.specs.View.{head_of}
use Rattle.normal_form.proofs.Laws.{rest_all, rest-none, rest-yes, rest-no}
use Rattle.normal_form.proofs.first_offence.Goals as goal

pub head_at-h-requires : goal.head_at-h-requires
head_at-h-requires c = record { ready = c.requires.ready; e_bound = c.requires.e_bound }

pub arguments_at-args-requires : goal.arguments_at-args-requires
arguments_at-args-requires c = record { ready = c.requires.ready; e_bound = c.requires.e_bound }

pub loop-j-init : goal.loop-j-init
loop-j-init c = let a = c.args in
    rest_all a.job.now c.requires.ready a.e c.head_at-h.result c.arguments_at-args.result.now c.head_at-h.ensures c.arguments_at-args.ensures

pub argument_offence-requires : goal.argument_offence-requires
argument_offence-requires c = let l = c.arguments_at-args.ensures.lower c.loop-j.j-index (omega arith) in
    record { ready = c.requires.ready; j_bound = omega (arith, l, c.requires.e_bound) }

pub offset_bounds-found-wide : goal.offset_bounds-found-wide
offset_bounds-found-wide c = let l = c.arguments_at-args.ensures.lower c.loop-j.j-index (omega arith) in
    omega (arith, l, c.wide.ensures, c.requires.e_bound)

pub bounds-found-wide : goal.bounds-found-wide
bounds-found-wide c = let l = c.arguments_at-args.ensures.lower c.loop-j.j-index (omega arith) in
    omega (arith, l, c.wide.ensures, c.requires.searched_to.long)

pub returns-then-w-ne0 : goal.returns-then-w-ne0
returns-then-w-ne0 c = let a = c.args in
    let xs = c.arguments_at-args.result.now in
    let k = c.loop-j.j-index in record { says = rest-yes a.job.now (head_of c.head_at-h.result) xs a.found.now a.e k c.argument_offence.result c.wide.result c.first_of-w.result c.requires.searched_to (omega arith) (c.arguments_at-args.ensures.lower k (omega arith)) c.wide.ensures c.argument_offence.ensures.says c.first_of-w.ensures.says c.if-w-ne0.true ∙ c.loop-j.invariant; low = c.first_of-w.ensures.low 32768 c.argument_offence.ensures.low (omega (arith, c.requires.searched_to.low c.wide.result (omega (arith, c.arguments_at-args.ensures.lower k (omega arith), c.wide.ensures)))) }

pub loop-j-preserved : goal.loop-j-preserved
loop-j-preserved c = let a = c.args in
    let xs = c.arguments_at-args.result.now in
    let k = c.loop-j.j-index in
    rest-no a.job.now (head_of c.head_at-h.result) xs a.found.now a.e k c.argument_offence.result c.wide.result c.first_of-w.result c.requires.searched_to (omega arith) (c.arguments_at-args.ensures.lower k (omega arith)) c.wide.ensures c.argument_offence.ensures.says c.first_of-w.ensures.says c.if-w-ne0.false ∙ c.loop-j.invariant

pub returns : goal.returns
returns c = let a = c.args in
    record { says = rest-none a.job.now (head_of c.head_at-h.result) c.arguments_at-args.result.now c.loop-j.j-index (omega arith) ∙ c.loop-j.invariant; low = omega arith }
