-- The contract of the walk over the proofs. Scratch has a mark for each cell of the store, for the global pairs; one more for each, for the head at hand; and a word for each
-- proof: its height where it is checked, else 0.
use Rattle.std.specs.Prelude.{ℕ, ◌+◌, ◌<◌, ◌≤◌, ◌≡◌, List, [], ◌∷◌, map, Bool, true, false, ltb, length, get_or, take}
use Rattle.index.specs.declared.Store.{Store}
use Rattle.model.specs.Layout.{sizes_of}
use Rattle.model.specs.Term.{read_term, Extends}
use Rattle.model.specs.Program.{Proposition, Binding, Program, Rule, Proof, rule, references}
use Rattle.model.specs.Decode.{read_bindings}
use Rattle.model.specs.Check.{Outcome, Check, ◌>>=◌, pure, Room}
use Rattle.model.specs.Action.{ActionContext, check_rule_produces_equality}
use Rattle.model.specs.Walk.{no_proof, member, check_premises}
use Rattle.model.specs.Height.{height}
use Rattle.index.specs.declared.Fill.{Fill}
use Rattle.termdag.specs.Store.{terms_in, Indexed, room_of}
use Rattle.memo.specs.Memo.{Past}
use Rattle.outcome.specs.Does.{Grown, Does}
use Rattle.outcome.specs.declared.Refusal.{Refusal}
use Rattle.program.specs.Ready.{tables_for, Ready, program_for}
use Rattle.normal_form.specs.Search.{Searched}
use Rattle.lookups.specs.Keyed.{Keyed}
use Rattle.evaluate.specs.Evaluation.{Sane}
use Rattle.context.specs.Contexts.{GlobalPairs}
use Rattle.program.specs.Read.{proofs_for, proof_cell, premises_for, pairs_for}
use Rattle.steps.specs.Concluding.{is_rule}
use Rattle.turns.specs.declared.Needs.{Needs}

-- Of n proofs those in `done` are checked, by the words of W behind two for each of c cells.
pub record Flags (c : ℕ) (W : List ℕ) (n : ℕ) (done : List ℕ) : Type 0 where
  pub is : (p : ℕ) → p < n → ltb 0 (get_or W (c + c + p) 0) ≡ member p done

-- The word of a proof that is checked is its height.
pub record Heights (J : List ℕ) (c : ℕ) (W : List ℕ) : Type 0 where
  pub is : (p : ℕ) → p < (sizes_of J).proofs → 0 < get_or W (c + c + p) 0 → get_or W (c + c + p) 0 ≡ height (program_for J) (proofs_for J) p

-- What the walk is handed: an admitted job with its offences and the chains of its tables in F, and the global bindings G, a store that has the job's terms and is sane, a memo, and scratch.
pub record Ground (J : List ℕ) (F G k e p ix : List ℕ) (f : Fill) (memo W : List ℕ) : Type 0 where
  pub ready : Ready J
  pub searched : Searched J F
  pub keyed : Keyed J F
  pub indexed : Indexed k e p ix f
  pub sane : Sane (program_for J) (read_bindings G) (terms_in k e p f)
  pub terms : Extends (map read_term (tables_for J).terms) (terms_in k e p f)
  pub fits : (sizes_of J).expressions + (sizes_of J).expressions < length memo
  pub past : Past memo
  pub long : length k + length k + (sizes_of J).proofs ≤ length W
  pub heights : Heights J (length k) W

-- The same, of a store.
abbrev pub GroundIn : List ℕ → List ℕ → List ℕ → Store → Fill → List ℕ → List ℕ → Type 0
GroundIn J F G s f memo W = Ground J F G s.kinds.now s.ends.now s.pool.now s.index.now f memo W

-- The context of the global bindings and pairs.
abbrev pub context_of : List ℕ → List Proposition → ActionContext
context_of G ps = record { bindings = read_bindings G; pairs = ps }

-- What a check that walks leaves: the proofs checked, and the outcome o, whose value is a of them.
pub record Walked {A : Type 0} (n : ℕ) (k e p ix : List ℕ) (f : Fill) (k' e' p' ix' : List ℕ) (f' : Fill) (r : Refusal) (W' : List ℕ) (a : List ℕ → A) (o : Outcome A) : Type 0 where
  pub done : List ℕ
  pub does : Does k e p ix f k' e' p' ix' f' r (a done) o
  pub flags : r.number ≡ 0 → Flags (length k) W' n done

-- What it hands on after a value.
pub record After (J : List ℕ) (F G k e p ix : List ℕ) (f : Fill) (W k' e' p' ix' : List ℕ) (f' : Fill) (memo' W' : List ℕ) : Type 0 where
  pub ground : Ground J F G k' e' p' ix' f' memo' W'
  pub grows : Extends (terms_in k e p f) (terms_in k' e' p' f')
  pub globals : take (length k) W' ≡ take (length k) W

-- The contract of a check that walks. U and the first marks stand for the global pairs, whatever these are; the check o of room, global pairs and proofs checked before is the definition's.
pub record Walks {A : Type 0} (J : List ℕ) (F G U k e p ix : List ℕ) (f : Fill) (W k' e' p' ix' : List ℕ) (f' : Fill) (r : Refusal) (memo' W' : List ℕ) (a : List ℕ → A)
    (o : Room → List Proposition → List ℕ → Check A) : Type 0 where
  pub grown : Grown k e p ix f k' e' p' ix' f'
  pub after : r.number ≡ 0 → After J F G k e p ix f W k' e' p' ix' f' memo' W'
  pub walked : (ps : List Proposition) (done : List ℕ) → GlobalPairs ps U (take (length k) W) → Flags (length k) W (sizes_of J).proofs done
      → Walked (sizes_of J).proofs k e p ix f k' e' p' ix' f' r W' a (o (room_of k p) ps done (terms_in k e p f))

-- The same, of a store.
abbrev pub WalksIn : {A : Type 0} → List ℕ → List ℕ → List ℕ → List ℕ → Store → Fill → List ℕ → Store → Fill → Refusal → List ℕ → List ℕ → (List ℕ → A) → (Room → List Proposition → List ℕ → Check A) → Type 0
WalksIn J F G U s f W s' f' r memo' W' a o = Walks J F G U s.kinds.now s.ends.now s.pool.now s.index.now f W s'.kinds.now s'.ends.now s'.pool.now s'.index.now f' r memo' W' a o

-- What a step of proof p refers to: a rule's has a name, premises and pairs; another has at most two references, each lower.
pub record Operates (J : List ℕ) (p : ℕ) (r : Needs) : Type 0 where
  pub rule : r.rule ≡ true → ((proof_cell J p).kind ≡ 1) × ((get_or (proofs_for J) p no_proof).justification ≡ rule r.name (premises_for J p) (read_bindings (pairs_for J p)))
  pub other : r.rule ≡ false → (is_rule (get_or (proofs_for J) p no_proof).justification ≡ false)
      × (take r.count (r.first ∷ r.second ∷ []) ≡ references (get_or (proofs_for J) p no_proof).justification)
  pub few : r.count ≤ 2
  pub lower : (i : ℕ) → i < r.count → get_or (r.first ∷ r.second ∷ []) i 0 < p

-- The body of a rule's step: each fact with its premise, then the head, which must produce q.
unfoldable pub check_body : Room → Program → List Proof → ActionContext → (ℕ → List ℕ → Check (List ℕ)) → Bool → ℕ → Rule → List ℕ → List Binding → Proposition → List ℕ → Check (List ℕ)
check_body room prog proofs ctx sub strict name r ps σ q done =
    check_premises room prog proofs ctx sub strict name r.facts ps σ done >>= λ b.
    check_rule_produces_equality room prog r b.0 q >>= λ _.
    pure b.1
