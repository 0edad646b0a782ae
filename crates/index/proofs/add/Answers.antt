use Rattle.std.proofs.Common.{refl, arith}
use Rattle.model.specs.Cell.{Cell}
use Rattle.index.proofs.Indexing.{kept-old, slot-free, number_fits, kept_new, kept-as}
use Rattle.index.proofs.add.Goals as goal

pub find-p-requires : goal.find-p-requires
find-p-requires c = let r = c.requires in record { formed = r.formed; m_le_cells = omega arith; m_in_bounds = omega (arith, r.formed.kinds, r.room); once = r.once; lists = r.lists }

pub add-a-requires : goal.add-a-requires
add-a-requires c = record { formed = c.requires.formed; found_value = c.find-p.ensures.found }

pub returns-then-a-n-clause-does : goal.returns-then-a-n-clause-does
returns-then-a-n-clause-does c = let s = c in let k : Cell = record { kind = s.args.kind; words = s.args.ws.now } in
    kept-as c.with_multiplier.ensures (kept-old s.requires k c.find-p.result c.find-p.ensures c.add-a.ensures refl c.if-a-n.true)

pub insert-requires : goal.insert-requires
insert-requires c = let s = c in let k : Cell = record { kind = s.args.kind; words = s.args.ws.now } in
    record { slot_in_bounds = slot-free s.requires k c.find-p.result c.find-p.ensures c.add-a.ensures refl c.if-a-n.false; number_bound = number_fits s.requires k c.find-p.result c.find-p.ensures c.add-a.ensures refl c.if-a-n.false }

pub returns-clause-does : goal.returns-clause-does
returns-clause-does c = let s = c in let k : Cell = record { kind = s.args.kind; words = s.args.ws.now } in
    kept-as c.with_multiplier-2.ensures (kept_new s.requires k c.find-p.result c.find-p.ensures c.add-a.ensures refl c.if-a-n.false c.insert.ensures)
