use Rattle.normal_form.proofs.Laws.{word_read, equal-side, bare-side}
use Rattle.normal_form.proofs.is_container_side_condition.Goals as goal

pub bounds-found-wide : goal.bounds-found-wide
bounds-found-wide c = word_read c.requires.searched (c.fact_at-f.ensures.equal c.in-Equal.l c.in-Equal.r c.in-Equal.is).0 c.wide.ensures

pub bounds-found-wide-in-Equal : goal.bounds-found-wide-in-Equal
bounds-found-wide-in-Equal c = word_read c.requires.searched (c.fact_at-f.ensures.equal c.in-Equal.l c.in-Equal.r c.in-Equal.is).1 c.wide-in-Equal.ensures

pub bounds-found-wide-in-Bare : goal.bounds-found-wide-in-Bare
bounds-found-wide-in-Bare c = word_read c.requires.searched (c.fact_at-f.ensures.bare c.in-Bare.e c.in-Bare.is) c.wide-in-Bare.ensures

pub returns-in-Equal : goal.returns-in-Equal
returns-in-Equal c = let a = c.args in
    equal-side a.job.now a.i c.fact_at-f.result c.fact_at-f.ensures a.found.now c.in-Equal.l c.in-Equal.r c.wide.result c.wide-in-Equal.result c.in-Equal.is c.requires.searched c.wide.ensures c.wide-in-Equal.ensures c.calls_container-left.ensures c.calls_container-right.ensures

pub returns-in-Bare : goal.returns-in-Bare
returns-in-Bare c = let a = c.args in
    bare-side a.job.now a.i c.fact_at-f.result c.fact_at-f.ensures a.found.now c.in-Bare.e c.wide-in-Bare.result c.in-Bare.is c.requires.searched c.wide-in-Bare.ensures c.calls_container.ensures
