use Rattle.std.proofs.Common.{◌-◌, length}
use Rattle.model.specs.Cell.{cells_of}
use Rattle.index.specs.Listing.{hits}
use Rattle.index.proofs.Probing.{Passed}
use Rattle.index.proofs.find.Given as goal

abbrev pub invariant-loop-compared : goal.invariant-loop-compared
invariant-loop-compared l = Passed l.index (hits (cells_of l.kinds l.ends l.pool l.m) (record { kind = l.kind; words = l.ws })) l.first l.compared
