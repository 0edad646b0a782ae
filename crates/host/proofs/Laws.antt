-- What the host entries answer, by the length of what they are handed.
use mathlib.Core.Path.{◌≡◌, refl, sym, ap, ◌∙◌}
use mathlib.Core.List.{List, [], ◌++◌}
use mathlib.Core.Bool.{Bool, true, false, not, ◌||◌}
use mathlib.Core.Option.{Option, none, some}
use Prim.Native.Nat.{ℕ, ◌+◌, ◌<◌, ◌≤◌, ◌%◌}
use lib.ListN.{length, get_or, take, drop, replicate, length-replicate}
use lib.Dec.{eqb, ltb}
use lib.Seq.{take_at}
use borrow.Author.Tests.{lt-ltb, le-ltb, eq-eqb, ne_eqb}
use Rattle.model.specs.Program.{Proposition}
use Rattle.model.specs.Check.{Refusal, Outcome, ok, refused}
use Rattle.model.specs.Walk.{check_proof}
use Rattle.model.specs.Decode.{job_of}
use Rattle.model.specs.Load.{is_strict, load_refusal}
use Rattle.model.specs.Answer.{Arrays, Left, lent_by, refusal_words, checked_by, checked, loaded, check, entry}
use Rattle.model.specs.Host.{words_of, own_arrays, own_slots, own_scratch, host_answer, Answered, host_entry_mode}
use Rattle.cells.specs.Table.{put}
use Rattle.entry.proofs.Ending.{entry-check}

-- the number of a check is its answer's first word
pub first_word : (ws : List ℕ) (p mode : ℕ) (a : Arrays) (index scratch : ℕ) → (check ws p mode a index scratch).number ≡ get_or (check ws p mode a index scratch).answer 0 0
unfolding check checked
first_word ws p mode a index scratch = go (load_refusal ws p mode (lent_by a index scratch))
  where
    by : (o : Outcome Proposition) → (checked_by (job_of ws) p a o).number ≡ get_or (checked_by (job_of ws) p a o).answer 0 0
    by (ok q s) = refl
    by (refused r s) = refl

    go : (o : Option Refusal) → (loaded (job_of ws) p (is_strict mode) a o).number ≡ get_or (loaded (job_of ws) p (is_strict mode) a o).answer 0 0
    go none = by (check_proof (record { cells = length a.kinds; words = length a.pool }) (job_of ws).program (job_of ws).proofs (is_strict mode) p (job_of ws).terms)
    go (some r) = refl

-- an entry's answer in a buffer of eight words
pub checks : {x : ℕ} {A₁ : List ℕ} {a₁ : Arrays} (ws : List ℕ) (p mode : ℕ) (a : Arrays) (index scratch : ℕ) (A : List ℕ) → length A ≡ 8
    → record { number = x; answer = A₁; arrays = a₁ } ≡ entry ws p mode a index scratch A → (A₁ ≡ (check ws p mode a index scratch).answer) × (x ≡ get_or A₁ 0 0)
checks ws p mode a index scratch A eight e =
    let q = e ∙ entry-check ws p mode a index scratch A eight in
    (ap (λ (l : Left). l.answer) q, ap (λ (l : Left). l.number) q ∙ first_word ws p mode a index scratch ∙ sym (ap (λ (l : Left). get_or l.answer 0 0) q))

-- the same with the host's own store, index and scratch
pub own-checks : {x : ℕ} {A₁ : List ℕ} {a₁ : Arrays} (ws : List ℕ) (p mode : ℕ) (A I : List ℕ) → length A ≡ 8 → length I ≡ own_slots
    → record { number = x; answer = A₁; arrays = a₁ } ≡ entry ws p mode own_arrays (length I) (length (replicate {A = ℕ} 16384 0)) A → (A₁ ≡ (check ws p mode own_arrays own_slots own_scratch).answer) × (x ≡ get_or A₁ 0 0)
own-checks ws p mode A I eight l e = checks ws p mode own_arrays own_slots own_scratch A eight (e ∙ (λ i. entry ws p mode own_arrays (l i) (length-replicate {A = ℕ} 16384 0 i) A))

-- the words of a job's bytes stand at the front
pub front-words : (bytes W : List ℕ) (n : ℕ) → n ≡ length (words_of bytes) → take n (put W 0 (words_of bytes)) ≡ words_of bytes
unfolding put
front-words bytes W n e = ap (λ (k : ℕ). take k (words_of bytes ++ drop (0 + length (words_of bytes)) W)) e ∙ take_at (words_of bytes) _ (length (words_of bytes)) refl

pub own-words : {x n : ℕ} {A₁ W₁ : List ℕ} (W bytes : List ℕ) (p mode : ℕ) → n ≡ length (words_of bytes) → W₁ ≡ put W 0 (words_of bytes)
    → (A₁ ≡ (check (take n W₁) p mode own_arrays own_slots own_scratch).answer) × (x ≡ get_or A₁ 0 0) → (A₁ ≡ (check (words_of bytes) p mode own_arrays own_slots own_scratch).answer) × (x ≡ get_or A₁ 0 0)
own-words {n = n} W bytes p mode e q (a, f) =
    (a ∙ ap (λ (ws : List ℕ). (check ws p mode own_arrays own_slots own_scratch).answer) (ap (take n) q ∙ front-words bytes W n e), f)

module _ (bytes : List ℕ) (p mode : ℕ) where
  answer-by : (b : Bool) → (ltb 65536 (length bytes) || not (eqb (length bytes % 4) 0)) ≡ b
      → host_answer bytes p mode ≡ elim b [ true ↦ refusal_words (record { number = 1; fields = [] }) 0 | false ↦ (check (words_of bytes) p mode own_arrays own_slots own_scratch).answer ]
  unfolding host_answer
  answer-by b h = ap (λ (t : Bool). elim t [ true ↦ refusal_words (record { number = 1; fields = [] }) 0 | false ↦ (check (words_of bytes) p mode own_arrays own_slots own_scratch).answer ]) h

  -- too many bytes, no whole words, and a job that is checked
  pub too_long : 65536 < length bytes → host_answer bytes p mode ≡ refusal_words (record { number = 1; fields = [] }) 0
  too_long h = answer-by true (ap (λ (t : Bool). t || not (eqb (length bytes % 4) 0)) (lt-ltb 65536 (length bytes) h))

  pub no_words : (length bytes ≤ 65536) → (length bytes % 4 ≡ 0 → ⊥) → host_answer bytes p mode ≡ refusal_words (record { number = 1; fields = [] }) 0
  no_words l h = answer-by true (λ i. le-ltb 65536 (length bytes) l i || not (ne_eqb (length bytes % 4) 0 h i))

  pub whole_words : (length bytes ≤ 65536) → length bytes % 4 ≡ 0 → host_answer bytes p mode ≡ (check (words_of bytes) p mode own_arrays own_slots own_scratch).answer
  whole_words l h = answer-by false (λ i. le-ltb 65536 (length bytes) l i || not (eq-eqb (length bytes % 4) 0 h i))

  module _ (A : List ℕ) where
    entry-by : (b : Bool) → eqb (length A) 8 ≡ b
        → host_entry_mode bytes p mode A ≡ elim b [ true ↦ record { number = get_or (host_answer bytes p mode) 0 0; answer = host_answer bytes p mode } | false ↦ record { number = 10; answer = A } ]
    unfolding host_entry_mode
    entry-by b h = ap (λ (t : Bool). elim t [ true ↦ record { number = get_or (host_answer bytes p mode) 0 0; answer = host_answer bytes p mode } | false ↦ record { number = 10; answer = A } ]) h

    -- an answer's buffer of another length, and of eight words
    pub unwritten : (length A ≡ 8 → ⊥) → record { number = 10; answer = A } ≡ host_entry_mode bytes p mode A
    unwritten h = sym (entry-by false (ne_eqb (length A) 8 h))

    pub answered : {x : ℕ} {A₁ : List ℕ} → length A ≡ 8 → A₁ ≡ host_answer bytes p mode → x ≡ get_or A₁ 0 0 → record { number = x; answer = A₁ } ≡ host_entry_mode bytes p mode A
    answered {x} {A₁} eight w f =
        (λ i. record { number = f i; answer = A₁ }) ∙ ap (λ (l : List ℕ). record { number = get_or l 0 0; answer = l }) w ∙ sym (entry-by true (eq-eqb (length A) 8 eight))

    -- what is left in a buffer of eight words
    pub entry-answer : {x : ℕ} {A₁ : List ℕ} → length A ≡ 8 → record { number = x; answer = A₁ } ≡ host_entry_mode bytes p mode A → A₁ ≡ host_answer bytes p mode
    entry-answer eight q = ap (λ (l : Answered). l.answer) (q ∙ entry-by true (eq-eqb (length A) 8 eight))
