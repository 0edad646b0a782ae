use Prim.Native.Nat.{ℕ}
use mathlib.Core.Path.{◌∙◌}
use lib.ListN.{get_or, set, replicate, length-set, length-replicate}
use Rattle.host.proofs.Laws.{own-checks}
use Rattle.host.proofs.check_words.Goals as goal

pub returns : goal.returns
returns c = let a = c.args in let made = own-checks a.words.now a.asked a.mode a.answer.now (set (replicate {A = ℕ} 8192 0) 0 (get_or a.answer.now 0 0)) c.requires (length-set (replicate {A = ℕ} 8192 0) 0 (get_or a.answer.now 0 0) ∙ length-replicate {A = ℕ} 8192 0) c.check.ensures in record { is = made.0; number = made.1 }
