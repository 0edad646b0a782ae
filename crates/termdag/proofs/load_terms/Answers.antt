use native.Mathlib.Omega.{arith}
use lib.ListN.{length-take}
use Rattle.termdag.proofs.Loading.{words_inside, front, loaded}
use Rattle.termdag.proofs.load_terms.Goals as goal

pub copy-requires : goal.copy-requires
copy-requires c = simp length-take (omega arith)

pub copy-requires-2 : goal.copy-requires-2
copy-requires-2 c = simp length-take (omega arith)

pub copy-requires-3 : goal.copy-requires-3
copy-requires-3 c = simp length-take (omega arith)

pub returns-clause-does : goal.returns-clause-does
returns-clause-does c = let s = c in
    loaded s.requires c.start-words.ensures
    (front c.copy.ensures (omega arith) (omega arith))
    (front c.copy-2.ensures (omega arith) (omega arith))
    (front c.copy-3.ensures (omega (arith, words_inside s.requires)) (omega arith))
    s.args.multiplier
