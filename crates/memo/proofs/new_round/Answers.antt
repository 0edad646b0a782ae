use Rattle.memo.proofs.Laws.{next-started, first-started}
use Rattle.memo.specs.Memo.{Started}
use lib.ListN.{length}
use mathlib.Core.Path.{refl, subst⁻¹}
use Rattle.memo.proofs.new_round.Goals as goal

pub returns-then-round-lt4294967295 : goal.returns-then-round-lt4294967295
returns-then-round-lt4294967295 c = subst⁻¹ Started c.set_round.ensures (next-started c.args.memo.now c.requires.memo_nonzero c.requires.past _ refl)

pub returns-else-round-lt4294967295 : goal.returns-else-round-lt4294967295
returns-else-round-lt4294967295 c = subst⁻¹ Started c.restart.ensures (first-started (length c.args.memo.now) c.requires.memo_nonzero)
