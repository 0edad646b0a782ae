use lib.Dec.{eqb}
use lib.ListN.{get_or}
use borrow.Author.Tests.{eqb-true}
use Rattle.model.proofs.Tests.{and_left, and_right}
use Rattle.normal_form.proofs.Laws.{word_read, equal-ordinary, bare-ordinary}
use Rattle.normal_form.proofs.is_ordinary.Goals as goal

pub bounds-found-wide : goal.bounds-found-wide
bounds-found-wide c = word_read c.requires.searched (c.fact_at-f.ensures.equal c.in-Equal.l c.in-Equal.r c.in-Equal.is).0 c.wide.ensures

pub bounds-found-wide-in-Equal : goal.bounds-found-wide-in-Equal
bounds-found-wide-in-Equal c = word_read c.requires.searched (c.fact_at-f.ensures.equal c.in-Equal.l c.in-Equal.r c.in-Equal.is).1 c.wide-in-Equal.ensures

pub bounds-found-wide-in-Bare : goal.bounds-found-wide-in-Bare
bounds-found-wide-in-Bare c = word_read c.requires.searched (c.fact_at-f.ensures.bare c.in-Bare.e c.in-Bare.is) c.wide-in-Bare.ensures

pub returns-in-Equal : goal.returns-in-Equal
returns-in-Equal c = let a = c.args in
    λ u. equal-ordinary a.job.now a.i c.fact_at-f.result c.fact_at-f.ensures a.found.now c.in-Equal.l c.in-Equal.r c.wide.result c.wide-in-Equal.result c.in-Equal.is c.requires.searched c.wide.ensures c.wide-in-Equal.ensures (eqb-true _ 0 (and_left _ _ u)) (eqb-true _ 0 (and_right (eqb (get_or a.found.now c.wide.result 0) 0) _ u))

pub returns-in-Bare : goal.returns-in-Bare
returns-in-Bare c = let a = c.args in
    λ u. bare-ordinary a.job.now a.i c.fact_at-f.result c.fact_at-f.ensures a.found.now c.in-Bare.e c.wide-in-Bare.result c.in-Bare.is c.requires.searched c.wide-in-Bare.ensures (eqb-true _ 0 u)
