-- The host entries and the program: a job as bytes, and a store of their own.
use Rattle.std.specs.Prelude.{ℕ, ◌+◌, ◌*◌, ◌-◌, ◌%◌, List, [], ◌∷◌, true, false, not, ◌||◌, length, get_or, replicate, eqb, ltb}
use Rattle.model.specs.Layout.{sizes_of}
use Rattle.model.specs.Answer.{Arrays, refusal_words, check}

-- The words of bytes, four each, the lowest first.
unfoldable pub words_of : List ℕ → List ℕ
words_of [] = []
words_of (a ∷ []) = []
words_of (a ∷ b ∷ []) = []
words_of (a ∷ b ∷ c ∷ []) = []
words_of (a ∷ b ∷ c ∷ d ∷ bs) = (a + 256 * b + 65536 * c + 16777216 * d) ∷ words_of bs

-- The host's own store, index and scratch: C = 4,096, W = 16,384.
abbrev pub own_arrays : Arrays
own_arrays = record { kinds = replicate 4096 0; ends = replicate 4096 0; pool = replicate 16384 0 }

abbrev pub own_slots : ℕ
own_slots = 8192

abbrev pub own_scratch : ℕ
own_scratch = 16384

-- The eight words for a job's bytes; too many bytes, or no whole words, are 1.
unfoldable pub host_answer : List ℕ → ℕ → ℕ → List ℕ
host_answer bytes p mode =
    elim (ltb 65536 (length bytes) || not (eqb (length bytes % 4) 0)) [
      | true ↦ refusal_words (record { number = 1; fields = [] }) 0
      | false ↦ (check (words_of bytes) p mode own_arrays own_slots own_scratch).answer
    ]

-- The number that the host entry returns and what it leaves in the answer's buffer.
pub record Answered : Type 0 where
  pub number : ℕ
  pub answer : List ℕ

-- THE HOST ENTRY WITH A MODE: an answer's buffer of another length than 8 gives 10 at once, unwritten.
unfoldable pub host_entry_mode : List ℕ → ℕ → ℕ → List ℕ → Answered
host_entry_mode bytes p mode answer =
    elim (eqb (length answer) 8) [
      | true ↦ record { number = get_or (host_answer bytes p mode) 0 0; answer = host_answer bytes p mode }
      | false ↦ record { number = 10; answer = answer }
    ]

-- THE HOST ENTRY, at mode 0.
abbrev pub host_entry : List ℕ → ℕ → List ℕ → Answered
host_entry bytes p answer = host_entry_mode bytes p 0 answer

-- The program asks for the last proof, at mode 0; without proofs that is none, and 3.
abbrev pub program_answer : List ℕ → List ℕ
program_answer bytes = host_answer bytes ((sizes_of (words_of bytes)).proofs - 1) 0
