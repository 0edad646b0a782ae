use Rattle.std.proofs.Common.{arith}
use Rattle.console.proofs.Writing.{line-more}
use Rattle.console.proofs.write_words.Goals as goal

pub loop-i-preserved : goal.loop-i-preserved
loop-i-preserved g c =
    let e = c.in_ok-write_word.ensures in
    line-more _ _ _ c.args.words.now c.loop-i.i (omega arith) c.loop-i.invariant e.first e.later
