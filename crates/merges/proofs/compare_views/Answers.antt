use lib.ListN.{length-take}
use native.Mathlib.Omega.{arith}
use Rattle.merges.proofs.ViewLaws.{heads-differ, old-empty, new-empty, views-compared}
use Rattle.merges.proofs.compare_views.Goals as goal

pub returns-then-f-g : goal.returns-then-f-g
returns-then-f-g c = let a = c.args in λ s. heads-differ a.p a.f a.g a.xs.now a.ys.now s c.if-f-g.true c.refused_views.ensures

pub returns-then-m-eq0 : goal.returns-then-m-eq0
returns-then-m-eq0 c = let a = c.args in λ s. old-empty a.p a.f a.g a.xs.now a.ys.now s c.if-f-g.false c.if-m-eq0.true c.refused_views-then-m-eq0.ensures

pub returns-then-n-eq0 : goal.returns-then-n-eq0
returns-then-n-eq0 c = let a = c.args in λ s. new-empty a.p a.f a.g a.xs.now a.ys.now s c.if-f-g.false c.if-m-eq0.false c.if-n-eq0.true c.refused_views-then-n-eq0.ensures

pub slice_bounds-same_words-end : goal.slice_bounds-same_words-end
slice_bounds-same_words-end c = simp length-take (omega arith)

pub slice_bounds-same_words-end-2 : goal.slice_bounds-same_words-end-2
slice_bounds-same_words-end-2 c = simp length-take (omega arith)

pub returns : goal.returns
returns c = let a = c.args in λ s. views-compared a.p a.f a.g a.xs.now a.ys.now s c.check_that-refusal.result c.if-f-g.false c.if-m-eq0.false c.if-n-eq0.false c.same_words.ensures c.check_that-refusal.ensures
