use Rattle.std.proofs.Common.{refl, arith}
use Rattle.index.proofs.Indexing.{free-within, no-none}
use Rattle.index.proofs.Filling.{look-cell}
use Rattle.index.proofs.enlist.Goals as goal

pub find-p-requires : goal.find-p-requires
find-p-requires c = let p = c.requires in record { formed = p.formed; m_le_cells = omega arith; m_in_bounds = p.i_in_bounds; once = p.once; lists = p.lists }

pub returns-in-Some : goal.returns-in-Some
returns-in-Some c = let s = c in record { looked = look-cell s.args.i c.words-ws.result.now s.requires.formed s.requires.i_lt_cells c.words-ws.ensures c.find-p.ensures; same = λ _. refl; more = λ e. absurd (no-none c.in-Some.is e) }

pub insert-requires : goal.insert-requires
insert-requires c = let p = c.requires in record { slot_in_bounds = free-within (c.find-p.ensures.free c.in_default.is); number_bound = omega (arith, p.formed.kinds, p.formed.few, p.i_lt_cells) }

pub returns : goal.returns
returns c = let s = c in record { looked = look-cell s.args.i c.words-ws.result.now s.requires.formed s.requires.i_lt_cells c.words-ws.ensures c.find-p.ensures; same = λ e. absurd (e c.in_default.is); more = λ _. c.insert.ensures }
