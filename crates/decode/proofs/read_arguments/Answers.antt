use mathlib.Core.Path.{◌∙◌}
use Rattle.decode.proofs.Laws.{arguments-none, arguments-some}
use Rattle.cells.proofs.Laws.{to_end}
use Rattle.decode.proofs.read_arguments.Goals as goal

pub returns-then-kind-lt2 : goal.returns-then-kind-lt2
returns-then-kind-lt2 c = arguments-none _ c.args.words.now c.if-kind-lt2.true

pub returns : goal.returns
returns c = let a = c.args in
    to_end 1 a.words.now ∙ arguments-some a.kind a.words.now c.if-kind-lt2.false
