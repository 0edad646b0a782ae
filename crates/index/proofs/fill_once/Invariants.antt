use Rattle.model.specs.Cell.{cell_at}
use Rattle.std.proofs.Common.{◌≡◌, ◌-◌, length}
use Rattle.index.proofs.Filling.{Going}
use Rattle.index.proofs.fill_once.Given as goal

abbrev pub invariant-loop-listed : goal.invariant-loop-listed
invariant-loop-listed l = Going l.x (cell_at l.kinds l.ends l.pool) l.m l.index l.listed l.compared × (length l.index ≡ length l.initial.index)
