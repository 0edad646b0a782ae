-- The number of proofs that a job's words tell, and the answer for the last.
use mathlib.Core.Path.{◌≡◌, refl, sym, ap, ◌∙◌}
use mathlib.Core.List.{List, [], ◌∷◌, ◌++◌}
use Prim.Native.Nat.{ℕ, zero, suc, ◌+◌, ◌-◌, ◌<◌}
use lib.ListN.{length, get_or, drop, replicate}
use lib.Seq.{get_or-drop}
use Rattle.cells.specs.Table.{put}
use Rattle.model.specs.Layout.{sizes_of}
use Rattle.model.specs.Host.{words_of, host_answer, host_entry, program_answer}
use Rattle.marks.proofs.Bits.{zeros-word}
use Rattle.host.proofs.Laws.{too_long, entry-answer}

-- zeros behind a list are what is read past it
zeros-behind : (ws zs : List ℕ) → ((i : ℕ) → get_or zs i 0 ≡ 0) → (i : ℕ) → get_or (ws ++ zs) i 0 ≡ get_or ws i 0
zeros-behind [] zs z i = z i
zeros-behind (w ∷ ws) zs z zero = refl
zeros-behind (w ∷ ws) zs z (suc i) = zeros-behind ws zs z i

-- the word that tells how many proofs there are, in an array of zeros with the job's words at its front
pub proofs-word : (n : ℕ) (bytes : List ℕ) {W : List ℕ} → W ≡ put (replicate n 0) 0 (words_of bytes) → get_or W 10 0 ≡ (sizes_of (words_of bytes)).proofs
unfolding put sizes_of
proofs-word n bytes q =
    let m = 0 + length (words_of bytes) in
    ap (λ (l : List ℕ). get_or l 10 0) q
    ∙ zeros-behind (words_of bytes) (drop m (replicate n 0)) (λ i. get_or-drop m (replicate n 0) i 0 ∙ zeros-word n (m + i)) 10

-- the answer for the last proof, and, where the bytes are too many, for any
pub last-answer : {x p : ℕ} {A₁ : List ℕ} (bytes A : List ℕ) → length A ≡ 8 → p ≡ (sizes_of (words_of bytes)).proofs - 1 → record { number = x; answer = A₁ } ≡ host_entry bytes p A → A₁ ≡ program_answer bytes
last-answer {p = p} bytes A eight e q = entry-answer bytes p 0 A eight q ∙ ap (λ (n : ℕ). host_answer bytes n 0) e

pub long-answer : {x : ℕ} {A₁ : List ℕ} (bytes A : List ℕ) → length A ≡ 8 → 65536 < length bytes → record { number = x; answer = A₁ } ≡ host_entry bytes 0 A → A₁ ≡ program_answer bytes
long-answer bytes A eight l q = entry-answer bytes 0 0 A eight q ∙ too_long bytes 0 0 l ∙ sym (too_long bytes ((sizes_of (words_of bytes)).proofs - 1) 0 l)
