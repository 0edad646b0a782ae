use mathlib.Core.Path.{◌≡◌, refl, ap, subst, ◌∙◌}
use native.Mathlib.Omega.{arith}
use Prim.Native.Nat.{ℕ}
use lib.ListN.{length-set}
use Rattle.model.specs.Layout.{sizes_of}
use Rattle.normal_form.specs.Search.{offence_in, SearchedTo}
use Rattle.normal_form.proofs.Laws.{searched-none, searched-more}
use Rattle.normal_form.proofs.find_offences.Goals as goal

pub loop-e-init : goal.loop-e-init
loop-e-init c = let a = c.args in
    (searched-none a.job.now a.found.now, refl)

pub first_offence-offence-requires : goal.first_offence-offence-requires
first_offence-offence-requires c = record { ready = c.requires.ready; searched_to = c.loop-e.invariant.0; e_bound = omega arith }

pub is_container_primitive-requires : goal.is_container_primitive-requires
is_container_primitive-requires c = record { ready = c.requires.ready; e_bound = omega arith }

pub word_of-requires : goal.word_of-requires
word_of-requires c = c.first_offence-offence.ensures.low

pub loop-e-preserved : goal.loop-e-preserved
loop-e-preserved c = let a = c.args in
    let l = c.loop-e in
    (searched-more a.job.now l.found l.e c.word_of.result l.invariant.0 (omega arith) c.word_of.ensures.low (ap offence_in c.word_of.ensures.half ∙ c.first_offence-offence.ensures.says) (c.word_of.ensures.calls ∙ c.is_container_primitive.ensures), simp length-set l.invariant.1)

pub shape_of-found : goal.shape_of-found
shape_of-found c = c.loop-e.invariant.1

pub returns : goal.returns
returns c = let a = c.args in
    let l = c.loop-e in
    let e : l.e ≡ (sizes_of a.job.now).expressions = omega arith in
    subst (λ (n : ℕ). SearchedTo a.job.now n l.found) e l.invariant.0
