use mathlib.Core.Path.{◌∙◌}
use Rattle.normal_form.proofs.Laws.{word_read, equal-offence, bare-offence}
use Rattle.normal_form.proofs.fact_offence.Goals as goal

pub bounds-found-wide : goal.bounds-found-wide
bounds-found-wide c = word_read c.requires.searched (c.fact_at-f.ensures.equal c.in-Equal.l c.in-Equal.r c.in-Equal.is).0 c.wide.ensures

pub bounds-found-wide-in-Equal : goal.bounds-found-wide-in-Equal
bounds-found-wide-in-Equal c = word_read c.requires.searched (c.fact_at-f.ensures.equal c.in-Equal.l c.in-Equal.r c.in-Equal.is).1 c.wide-in-Equal.ensures

pub bounds-found-wide-in-Bare : goal.bounds-found-wide-in-Bare
bounds-found-wide-in-Bare c = word_read c.requires.searched (c.fact_at-f.ensures.bare c.in-Bare.e c.in-Bare.is) c.wide-in-Bare.ensures

pub returns-in-Equal : goal.returns-in-Equal
returns-in-Equal c = let a = c.args in
    c.read_offence.ensures ∙ equal-offence a.job.now a.i c.fact_at-f.result c.fact_at-f.ensures a.found.now c.in-Equal.l c.in-Equal.r c.wide.result c.wide-in-Equal.result c.first_of.result c.in-Equal.is c.requires.searched c.wide.ensures c.wide-in-Equal.ensures c.first_of.ensures.says

pub returns-in-Bare : goal.returns-in-Bare
returns-in-Bare c = let a = c.args in
    c.read_offence-in-Bare.ensures ∙ bare-offence a.job.now a.i c.fact_at-f.result c.fact_at-f.ensures a.found.now c.in-Bare.e c.wide-in-Bare.result c.in-Bare.is c.requires.searched c.wide-in-Bare.ensures
