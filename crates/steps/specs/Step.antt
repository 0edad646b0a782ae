-- The contracts of proof steps.
use Rattle.std.specs.Prelude.{ℕ, ◌+◌, ◌≤◌, ◌<◌, ◌≡◌, List, [], map, Bool, true, false, length, get_or, take, drop}
use Rattle.index.specs.declared.Store.{Store}
use Rattle.model.specs.Layout.{sizes_of}
use Rattle.model.specs.Term.{Term, read_term, Extends}
use Rattle.model.specs.Program as program
use Rattle.model.specs.Program.{Binding}
use Rattle.model.specs.Check.{Room}
use Rattle.model.specs.Walk.{no_proof, claim_at}
use Rattle.index.specs.declared.Fill.{Fill}
use Rattle.decode.specs.View.{justification_of}
use Rattle.decode.specs.declared.Justification.{Justification}
use Rattle.termdag.specs.Store.{terms_in, Indexed, room_of}
use Rattle.memo.specs.Memo.{Past}
use Rattle.outcome.specs.Does.{Grown, outcome_of, Does}
use Rattle.outcome.specs.declared.Refusal.{Refusal}
use Rattle.outcome.specs.declared.Checked.{Checked}
use Rattle.program.specs.Ready.{tables_for, Ready, program_for}
use Rattle.program.specs.Read.{proofs_for, premises_for, pairs_for}
use Rattle.lookups.specs.Keyed.{Keyed}
use Rattle.evaluate.specs.Evaluation.{Sane}
use Rattle.context.specs.Contexts.{GlobalPairs}
use Rattle.steps.specs.Concluding.{concludes}

-- A step that adds no term.
abbrev pub is_plain : Justification → Bool
is_plain Justification.Fiat = true
is_plain (Justification.Rule s) = true
is_plain (Justification.MergeFn s) = false
is_plain (Justification.Trans a b) = true
is_plain (Justification.Sym a) = true
is_plain (Justification.Congr s) = false
is_plain (Justification.ContainerNormalize a) = true
is_plain Justification.Eval = true

-- The step of proof p that adds no term: the outcome is the definition's for whatever pairs the unions U and the marks m stand for.
pub record PlainStep (J : List ℕ) (U m : List ℕ) (s : List Term) (p : ℕ) (q : program.Proposition) (j : Justification) (r : Refusal) : Type 0 where
  pub outcome : (room : Room) (ps : List program.Proposition) → GlobalPairs ps U m → is_plain j ≡ true
      → outcome_of r tt s ≡ concludes room (program_for J) (proofs_for J) ps p q (justification_of j (premises_for J p) (pairs_for J p)) s

-- The store has the job's terms first.
pub record TermsFirst (J : List ℕ) (s : List Term) : Type 0 where
  pub extends : Extends (map read_term (tables_for J).terms) s

-- Of some words only the second c are written.
pub record SecondPart (c : ℕ) (W W' : List ℕ) : Type 0 where
  pub before : take c W' ≡ take c W
  pub behind : drop (c + c) W' ≡ drop (c + c) W

-- What a step may be handed: an admitted job with the chains of its tables in F, a sane store that has the job's terms first, a memo, and two words of scratch for each cell of the store.
pub record Prepared (J F : List ℕ) (k e p ix : List ℕ) (f : Fill) (memo scratch : List ℕ) : Type 0 where
  pub ready : Ready J
  pub keyed : Keyed J F
  pub indexed : Indexed k e p ix f
  pub sane : Sane (program_for J) [] (terms_in k e p f)
  pub terms : TermsFirst J (terms_in k e p f)
  pub fits : (sizes_of J).expressions + (sizes_of J).expressions < length memo
  pub past : Past memo
  pub long : length k + length k ≤ length scratch

-- The same, of a store.
abbrev pub PreparedIn : List ℕ → List ℕ → Store → Fill → List ℕ → List ℕ → Type 0
PreparedIn J F s f memo scratch = Prepared J F s.kinds.now s.ends.now s.pool.now s.index.now f memo scratch

-- The step of proof n, where the first words of the scratch W are the marks of the global pairs: the outcome is the definition's for whatever pairs these and the unions U stand for.
-- After a value the memo can be used again, and the store grew and is sane; of the scratch only the second C words are written.
pub record Concludes (J : List ℕ) (U k e p ix : List ℕ) (f : Fill) (W : List ℕ) (n : ℕ) (k' e' p' ix' : List ℕ) (r : Checked) (memo' W' : List ℕ) : Type 0 where
  pub grown : Grown k e p ix f k' e' p' ix' r.fill
  pub does : (ps : List program.Proposition) → GlobalPairs ps U (take (length k) W) → Does k e p ix f k' e' p' ix' r.fill r.refusal tt
      (concludes (room_of k p) (program_for J) (proofs_for J) ps n (claim_at (proofs_for J) n) (get_or (proofs_for J) n no_proof).justification (terms_in k e p f))
  pub past : r.refusal.number ≡ 0 → Past memo'
  pub grows : r.refusal.number ≡ 0 → Extends (terms_in k e p f) (terms_in k' e' p' r.fill)
  pub sane : r.refusal.number ≡ 0 → (σ : List Binding) → Sane (program_for J) σ (terms_in k e p f) → Sane (program_for J) σ (terms_in k' e' p' r.fill)
  pub scratch : SecondPart (length k) W W'

-- The same, of a store.
abbrev pub ConcludesIn : List ℕ → List ℕ → Store → Fill → List ℕ → ℕ → Store → Checked → List ℕ → List ℕ → Type 0
ConcludesIn J U s f W n s' r memo' W' = Concludes J U s.kinds.now s.ends.now s.pool.now s.index.now f W n s'.kinds.now s'.ends.now s'.pool.now s'.index.now r memo' W'
