-- What preparing a job leaves: the refusal below 20, or the job's terms in the lent arrays and the lent index.
use Rattle.std.specs.Prelude.{◌≡◌, List, [], ℕ, zero, suc, ◌+◌, ◌*◌, ◌≤◌, ◌<◌, length, drop}
use Rattle.index.specs.declared.Store.{Store}
use Rattle.std.proofs.Math.Option.{Option, none, some}
use Rattle.model.specs.Layout.{sizes_of}
use Rattle.model.specs.Decode.{job_of}
use Rattle.model.specs.Check as model
use Rattle.model.specs.Load.{load_refusal}
use Rattle.model.specs.Answer.{Arrays, lent_by}
use Rattle.index.specs.declared.Fill.{Fill}
use Rattle.termdag.specs.Store.{terms_in, Indexed}
use Rattle.outcome.specs.Does.{refusal_of}
use Rattle.outcome.specs.declared.Refusal.{Refusal}
use Rattle.program.specs.Ready.{Ready, program_for}
use Rattle.evaluate.specs.Evaluation.{Sane}
use Rattle.prepare.specs.declared.Prepared.{Prepared}

-- Three arrays as the store.
abbrev pub arrays_of : List ℕ → List ℕ → List ℕ → Arrays
arrays_of K E P = record { kinds = K; ends = E; pool = P }

-- The refusal, unless its number is 0.
abbrev pub refusal_by : ℕ → Refusal → Option model.Refusal
refusal_by zero r = none
refusal_by (suc n) r = some (refusal_of r)

-- The words load, for some asked proof, mode, slots and scratch, with the arrays lent.
pub record Loads (ws K E P : List ℕ) : Type 0 where
  pub asked : ℕ
  pub mode : ℕ
  pub slots : ℕ
  pub scratch : ℕ
  pub passes : load_refusal ws asked mode (lent_by (arrays_of K E P) slots scratch) ≡ none

-- The same, of a store.
abbrev pub LoadsIn : List ℕ → Store → Type 0
LoadsIn ws s = Loads ws s.kinds.now s.ends.now s.pool.now

-- The lent arrays K, E, P now hold the job's terms, which the index I' lists, and past these are as they were; the job is admitted.
pub record Started (ws K E P K' E' P' I' : List ℕ) (f : Fill) : Type 0 where
  pub ready : Ready ws
  pub indexed : Indexed K' E' P' I' f
  pub terms : terms_in K' E' P' f ≡ (job_of ws).terms
  pub cells : f.cells ≡ (sizes_of ws).terms
  pub len_k : length K' ≡ length K
  pub len_e : length E' ≡ length E
  pub len_p : length P' ≡ length P
  pub kinds : drop f.cells K' ≡ drop f.cells K
  pub ends : drop f.cells E' ≡ drop f.cells E
  pub pool : drop f.words P' ≡ drop f.words P
  pub even : length E ≡ length K
  pub few : length K ≤ 65536
  pub small : length P ≤ 1048576
  pub sane : Sane (program_for ws) [] (terms_in K' E' P' f)

-- The contract of `prepare`: the refusal is the definition's, with the arrays as they were; without one the terms are loaded and listed, the proof is there, and the scratch is enough.
pub record Prepares (ws : List ℕ) (asked mode : ℕ) (K E P I : List ℕ) (scratch : ℕ) (K' E' P' I' : List ℕ) (p : Prepared) : Type 0 where
  pub refusal : refusal_by p.refusal.number p.refusal ≡ load_refusal ws asked mode (lent_by (arrays_of K E P) (length I) scratch)
  pub kept : (p.refusal.number ≡ 0 → ⊥) → arrays_of K' E' P' ≡ arrays_of K E P
  pub started : p.refusal.number ≡ 0 → Started ws K E P K' E' P' I' p.fill
  pub there : p.refusal.number ≡ 0 → asked < (sizes_of ws).proofs
  pub enough : p.refusal.number ≡ 0 → 2 * (length K + (sizes_of ws).proofs) ≤ scratch

-- The same, of a store.
abbrev pub PreparesIn : List ℕ → ℕ → ℕ → Store → ℕ → Store → Prepared → Type 0
PreparesIn ws asked mode s scratch s' p = Prepares ws asked mode s.kinds.now s.ends.now s.pool.now s.index.now scratch s'.kinds.now s'.ends.now s'.pool.now s'.index.now p
