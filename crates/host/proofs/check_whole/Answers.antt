use native.Mathlib.Omega.{arith}
use lib.ListN.{length-take}
use Rattle.host.proofs.Laws.{own-words}
use Rattle.host.proofs.check_whole.Goals as goal

pub slice_bounds-check_words-end : goal.slice_bounds-check_words-end
slice_bounds-check_words-end c = simp length-take (omega (arith, c.words_of_bytes-count.ensures.inside))

pub returns : goal.returns
returns c = let a = c.args in let made = own-words _ a.job.now a.asked a.mode c.words_of_bytes-count.ensures.count c.words_of_bytes-count.ensures.words (c.check_words.ensures.is, c.check_words.ensures.number) in record { is = made.0; number = made.1 }
