-- DEMAND 3, about what `check` answers.
use Prim.Native.Nat.{ℕ}
use mathlib.Core.Path.{◌≡◌, sym, ap, ◌∙◌}
use mathlib.Core.List.{List}
use lib.ListN.{length}
use Rattle.model.specs.Decode.{job_of}
use Rattle.model.specs.Load.{is_strict}
use Rattle.model.specs.Answer.{entry}
use Rattle.model.specs.Tree.{Tree}
use Rattle.model.specs.Relation.{ClosedFor}
use Rattle.model.proofs.Sound.{ClaimRelated, accepted}
use Rattle.prepare.specs.Prepares.{arrays_of}

-- The first premise is what `check`'s contract says of every call. Whatever words, asked proof, mode, store, index, scratch and answer's buffer are lent, if the number
-- that `check` returns is 0, every relation of the job that is closed in that mode relates the trees of the two sides that the asked proof claims.
pub check_sound {ℓ} : (R : Tree → Tree → Type ℓ) (words : List ℕ) (asked mode : ℕ) (K E P I : List ℕ) (scratch : ℕ) (A : List ℕ) {x : ℕ} {A₁ K₁ E₁ P₁ : List ℕ}
    → record { number = x; answer = A₁; arrays = arrays_of K₁ E₁ P₁ } ≡ entry words asked mode (arrays_of K E P) (length I) scratch A
    → x ≡ 0 → ClosedFor (is_strict mode) (job_of words) R → ClaimRelated (job_of words) R asked
check_sound R words asked mode K E P I scratch A is zero = accepted R words asked mode (arrays_of K E P) (length I) scratch A (sym (ap (λ l. l.number) is) ∙ zero)
