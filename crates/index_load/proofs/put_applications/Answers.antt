use mathlib.Core.Path.{refl, ◌∙◌}
use borrow.Author.Rules.{rules}
use Rattle.index_load.proofs.put_applications.Goals as goal

pub loop-i-init : goal.loop-i-init
loop-i-init c = (search rules, refl, refl, refl)

pub loop-i-preserved : goal.loop-i-preserved
loop-i-preserved c = let r = c.append-a.ensures in let l = c.loop-i.invariant in (r.formed, r.len_k ∙ l.1, r.len_e ∙ l.2, r.len_p ∙ l.3)

pub returns : goal.returns
returns c = c.loop-i.invariant.0
