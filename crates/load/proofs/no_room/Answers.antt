use Rattle.load.proofs.Rounds.{room-many, room-few}
use Rattle.load.specs.Held.{sizes_in}
use native.Mathlib.Omega.{arith}
use Rattle.load.proofs.no_room.Goals as goal

pub returns-then-kinds-gt65536 : goal.returns-then-kinds-gt65536
returns-then-kinds-gt65536 c = let a = c.args in λ slots. room-many (sizes_in a.z) a.words (record { kinds = a.kinds; ends = a.ends; pool = a.pool; index = slots; scratch = a.scratch }) c.if-kinds-gt65536.true

pub returns : goal.returns
returns c = let a = c.args in let h = c.if-kinds-gt65536.false in λ slots. room-few (sizes_in a.z) a.words (record { kinds = a.kinds; ends = a.ends; pool = a.pool; index = slots; scratch = a.scratch }) (omega arith)
