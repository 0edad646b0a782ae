use Rattle.pairs.proofs.Laws.{value-no, value-yes}
use Rattle.std.proofs.lemmas.Bool.{not_from_false, not_from_true}
use Rattle.pairs.proofs.mark_value.Goals as goal

pub returns-then-not-is_noted : goal.returns-then-not-is_noted
returns-then-not-is_noted c = let a = c.args in
    value-no a.memo.now a.k a.marks.now c.is_noted.ensures (not_from_false _ c.if-not-is_noted.true)

pub returns : goal.returns
returns c = let a = c.args in
    value-yes a.memo.now a.k a.marks.now c.is_noted.ensures (not_from_true _ c.if-not-is_noted.false) c.value_of-t.ensures c.mark.ensures
