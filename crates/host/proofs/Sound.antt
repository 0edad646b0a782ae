-- DEMAND 3, about what the host entries answer.
use Prim.Native.Nat.{ℕ, ◌%◌}
use native.Mathlib.Omega.{arith}
use mathlib.Core.Path.{◌≡◌, refl, sym, ap, ◌∙◌}
use mathlib.Core.List.{List, [], ◌∷◌}
use mathlib.Core.Bool.{Bool, true, false, not, ◌||◌}
use lib.ListN.{length, get_or}
use lib.Dec.{eqb, ltb}
use Rattle.model.specs.Decode.{job_of}
use Rattle.model.specs.Load.{is_strict}
use Rattle.model.specs.Answer.{Left, refusal_words, check}
use Rattle.model.specs.Host.{words_of, own_arrays, own_slots, own_scratch, host_answer, Answered, host_entry_mode}
use Rattle.model.specs.Tree.{Tree}
use Rattle.model.specs.Relation.{ClosedFor}
use Rattle.model.proofs.Sound.{ClaimRelated, accepted}
use Rattle.entry.proofs.Ending.{entry-check}
use Rattle.host.proofs.Laws.{first_word}

-- The first premise is what `sizercobalt_check_bytes_mode`'s contract says of every call, and with mode 0 `sizercobalt_check_bytes`'s. Whatever bytes, asked proof, mode and
-- answer's buffer are handed in, if the number returned is 0, every relation of the job that is closed in that mode relates the trees of the two sides that the asked
-- proof claims.
pub host-sound {ℓ} : (R : Tree → Tree → Type ℓ) (bytes : List ℕ) (asked mode : ℕ) (A : List ℕ) {x : ℕ} {A₁ : List ℕ}
    → record { number = x; answer = A₁ } ≡ host_entry_mode bytes asked mode A
    → x ≡ 0 → ClosedFor (is_strict mode) (job_of (words_of bytes)) R → ClaimRelated (job_of (words_of bytes)) R asked
unfolding host_entry_mode host_answer
host-sound R bytes asked mode A is zero closed = go (eqb (length A) 8) (sym (ap (λ (l : Answered). l.number) is) ∙ zero)
  where
    eight : List ℕ
    eight = 0 ∷ 0 ∷ 0 ∷ 0 ∷ 0 ∷ 0 ∷ 0 ∷ 0 ∷ []

    words : Bool → List ℕ
    words b = elim b [ true ↦ refusal_words (record { number = 1; fields = [] }) 0 | false ↦ (check (words_of bytes) asked mode own_arrays own_slots own_scratch).answer ]

    by : (b : Bool) → get_or (words b) 0 0 ≡ 0
        → ClaimRelated (job_of (words_of bytes)) R asked
    by true e = absurd (omega arith)
    by false e = accepted R (words_of bytes) asked mode own_arrays own_slots own_scratch eight
        (ap (λ (l : Left). l.number) (entry-check (words_of bytes) asked mode own_arrays own_slots own_scratch eight refl) ∙ first_word (words_of bytes) asked mode own_arrays own_slots own_scratch ∙ e) closed

    left : Bool → Answered
    left b = elim b [ true ↦ record { number = get_or (host_answer bytes asked mode) 0 0; answer = host_answer bytes asked mode } | false ↦ record { number = 10; answer = A } ]

    go : (b : Bool) → (left b).number ≡ 0
        → ClaimRelated (job_of (words_of bytes)) R asked
    go true e = by (ltb 65536 (length bytes) || not (eqb (length bytes % 4) 0)) e
    go false e = absurd (omega arith)
