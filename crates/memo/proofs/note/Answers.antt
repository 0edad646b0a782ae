use Rattle.memo.proofs.Laws.{note-is}
use Rattle.memo.proofs.note.Goals as goal

pub returns : goal.returns
returns c = note-is _ _ _
