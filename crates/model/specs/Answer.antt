-- The answer's eight words and the words of the lent store, for every input: what the entry returns and leaves.
use Rattle.std.specs.Prelude.{ℕ, zero, suc, ◌+◌, List, [], ◌∷◌, ◌++◌, map, Bool, true, false, length, get_or, drop, eqb}
use Rattle.std.proofs.Math.Option.{Option, none, some}
use Rattle.model.specs.Term.{Term, term_kind, term_words, width}
use Rattle.model.specs.Program.{Proposition, Job}
use Rattle.model.specs.Check.{Refusal, Outcome, ok, refused}
use Rattle.model.specs.Decode.{job_of}
use Rattle.model.specs.Load.{Lent, is_strict, load_refusal}
use Rattle.model.specs.Walk.{check_proof}
use Rattle.model.specs.Height.{height}

-- The first n words, unused ones 0.
abbrev pub padded : ℕ → List ℕ → List ℕ
padded zero xs = []
padded (suc n) [] = 0 ∷ padded n []
padded (suc n) (x ∷ xs) = x ∷ padded n xs

-- The eight words of a refusal, where the store has so many terms.
abbrev pub refusal_words : Refusal → ℕ → List ℕ
refusal_words r terms = r.number ∷ terms ∷ padded 6 r.fields

-- New words over the first of what was lent.
abbrev pub over : List ℕ → List ℕ → List ℕ
over new lent = new ++ drop (length new) lent

-- The ends of terms whose words start at a place of the pool.
abbrev pub term_ends : ℕ → List Term → List ℕ
term_ends start [] = []
term_ends start (t ∷ ts) = (start + width t) ∷ term_ends (start + width t) ts

abbrev pub term_pool : List Term → List ℕ
term_pool [] = []
term_pool (t ∷ ts) = term_words t ++ term_pool ts

-- The three arrays of the lent store.
pub record Arrays : Type 0 where
  pub kinds : List ℕ
  pub ends : List ℕ
  pub pool : List ℕ

-- The terms of the store, over what was lent.
abbrev pub stored : List Term → Arrays → Arrays
stored s a = record {
  kinds = over (map term_kind s) a.kinds;
  ends = over (term_ends 0 s) a.ends;
  pool = over (term_pool s) a.pool;
}

-- What the entry leaves in the answer's buffer and in the store; the number returned is the answer's first word.
pub record Left : Type 0 where
  pub number : ℕ
  pub answer : List ℕ
  pub arrays : Arrays

abbrev pub left : List ℕ → Arrays → Left
left answer a = record { number = get_or answer 0 0; answer = answer; arrays = a }

abbrev pub checked_by : Job → ℕ → Arrays → Outcome Proposition → Left
checked_by job p a (ok q s) = left (0 ∷ length s ∷ q.lhs ∷ q.rhs ∷ height job.program job.proofs p ∷ 0 ∷ 0 ∷ 0 ∷ []) (stored s a)
checked_by job p a (refused r s) = left (refusal_words r (length s)) (stored s a)

-- An admitted job, checked in the room that the arrays give.
unfoldable pub checked : Job → ℕ → Bool → Arrays → Left
checked job p strict a =
    checked_by job p a (check_proof (record { cells = length a.kinds; words = length a.pool }) job.program job.proofs strict p job.terms)

-- Below 20 the terms are 0 and the store stays as it was lent.
abbrev pub loaded : Job → ℕ → Bool → Arrays → Option Refusal → Left
loaded job p strict a none = checked job p strict a
loaded job p strict a (some r) = left (refusal_words r 0) a

abbrev pub lent_by : Arrays → ℕ → ℕ → Lent
lent_by a index scratch = record { kinds = length a.kinds; ends = length a.ends; pool = length a.pool; index = index; scratch = scratch }

-- The check of a job's words for an asked proof in a mode, with the lent arrays, so many slots of an index and so many words of scratch.
unfoldable pub check : List ℕ → ℕ → ℕ → Arrays → ℕ → ℕ → Left
check ws p mode a index scratch = loaded (job_of ws) p (is_strict mode) a (load_refusal ws p mode (lent_by a index scratch))

-- THE ENTRY: an answer's buffer of another length than 8 gives 10 at once, unwritten.
unfoldable pub entry : List ℕ → ℕ → ℕ → Arrays → ℕ → ℕ → List ℕ → Left
entry ws p mode a index scratch answer =
    elim (eqb (length answer) 8) [ true ↦ check ws p mode a index scratch | false ↦ record { number = 10; answer = answer; arrays = a } ]
