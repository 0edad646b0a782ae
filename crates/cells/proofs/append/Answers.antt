use native.Mathlib.Omega.{arith}
use Rattle.cells.proofs.Appending.{no_cell_lem, no_words, appended}
use Rattle.cells.proofs.append.Goals as goal

pub returns-then-kinds-n : goal.returns-then-kinds-n
returns-then-kinds-n c = let s = c in no_cell_lem s.requires (record { kind = s.args.kind; words = s.args.ws.now }) c.if-kinds-n.true

pub returns-then-pool-m : goal.returns-then-pool-m
returns-then-pool-m c = let s = c in no_words s.requires (record { kind = s.args.kind; words = s.args.ws.now }) (omega arith) (omega arith)

pub returns : goal.returns
returns c = let s = c in
    rw c.copy.ensures (appended s.requires (record { kind = s.args.kind; words = s.args.ws.now }) (omega arith) (omega arith))
