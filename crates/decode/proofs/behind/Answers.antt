use Prim.Native.Nat.{◌+◌}
use lib.ListN.{get_or}
use Rattle.decode.proofs.Laws.{rest_of}
use Rattle.decode.proofs.behind.Goals as goal

pub returns : goal.returns
returns c = let a = c.args in let ws = a.words.now in
    rw c.wide.ensures (rest_of (a.at + 1) (get_or ws a.at 0) ws)
