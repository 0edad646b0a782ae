use mathlib.Core.Path.{refl, sym, ap, ◌∙◌}
use mathlib.Core.Option.{some}
use native.Mathlib.Omega.{arith}
use lib.ListN.{get_or}
use Rattle.model.specs.Layout.{sizes_of}
use Rattle.model.specs.Program.{Normaliser}
use Rattle.model.specs.Normalize.{normaliser_of}
use Rattle.program.specs.Ready.{tables_for}
use Rattle.program.proofs.Laws.{normalisers-read, normaliser-words}
use Rattle.lookups.proofs.Laws.{look-found, look-nothing, normaliser-looks}
use Rattle.lookups.proofs.normaliser_of.Goals as goal

pub find_named-place-requires : goal.find_named-place-requires
find_named-place-requires c = record { held = c.requires.ready.held; start_bound = omega arith; by_name = refl; chained_table = c.requires.keyed.normalisers }

pub returns-in_default : goal.returns-in_default
returns-in_default c = let a = c.args in
    let J = a.job.now in
    sym (ap (λ ns. normaliser_of ns a.head) (normalisers-read (sizes_of J).globals (tables_for J)) ∙ look-nothing (normaliser-looks a.head) (tables_for J).normalisers (sym c.find_named-place.ensures.is ∙ c.in_default.is))

pub words_at-requires : goal.words_at-requires
words_at-requires c = record { held = c.requires.ready.held; i_bound = c.find_named-place.ensures.within c.in-Some.i c.in-Some.is }

pub read_normaliser-n-requires : goal.read_normaliser-n-requires
read_normaliser-n-requires c = let i = c.in-Some.i in normaliser-words c.requires.ready i c.words_at.ensures (c.find_named-place.ensures.within i c.in-Some.is)

pub returns : goal.returns
returns c = let a = c.args in
    let J = a.job.now in
    ap (λ (n : Normaliser). some n.primitive) c.read_normaliser-n.ensures ∙ ap (λ us. some (get_or us 1 0)) c.words_at.ensures
    ∙ sym (ap (λ ns. normaliser_of ns a.head) (normalisers-read (sizes_of J).globals (tables_for J)) ∙ look-found (normaliser-looks a.head) (tables_for J).normalisers c.in-Some.i (sym c.find_named-place.ensures.is ∙ c.in-Some.is))
