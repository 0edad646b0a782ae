-- The step of a proof, turn by turn: each proof that it needs, between what is done before it and after it; then what the step does itself.
use Rattle.std.specs.Prelude.{None}
use Rattle.index.specs.declared.Store.{Store}
use Rattle.std.specs.Prelude.{ℕ, zero, suc, ◌<◌, ◌≤◌, ◌≡◌, Bool, true, false, List, [], ◌∷◌, map, length, get_or, take, drop}
use Rattle.std.proofs.Math.Option.{Option, none, some}
use Rattle.model.specs.Layout.{sizes_of}
use Rattle.model.specs.Term.{Term}
use Rattle.model.specs.Program.{Proposition, Binding, Program, Fact, Rule, Proof, Justification, rule}
use Rattle.model.specs.Decode.{read_bindings}
use Rattle.model.specs.Check.{Check, ◌>>=◌, pure, choose, Room}
use Rattle.model.specs.Fact.{assert_body_proof_normal_form, is_container_side_condition, check_side_condition, check_fact_matches_proposition}
use Rattle.model.specs.Action.{check_rule_produces_equality}
use Rattle.model.specs.Walk.{no_proof, claim_at, check_justification}
use Rattle.model.specs.Height.{follow_unless, followed}
use Rattle.index.specs.declared.Fill.{Fill}
use Rattle.termdag.specs.Store.{terms_in}
use Rattle.outcome.specs.Does.{outcome_of}
use Rattle.program.specs.Ready.{program_for, rule_for}
use Rattle.program.specs.Read.{proofs_for, proof_cell, premises_for, pairs_for}
use Rattle.evaluate.specs.Value.{bindings_in}
use Rattle.evaluate.specs.Evaluation.{Sane}
use Rattle.conditions.specs.Bound.{bound_over}
use Rattle.conditions.specs.declared.Bound as code
use Rattle.steps.specs.Concluding.{concludes}
use Rattle.turns.specs.declared.Plan.{Plan}
use Rattle.turns.specs.declared.Stage.{Stage}
use Rattle.turns.specs.Walking.{Walks, context_of}

-- A turn: a fact of a rule with its premise, or a proof that another step refers to.
pub data Turn : Type 0 where
  of_fact : Fact → ℕ → Turn
  of_proof : ℕ → Turn

abbrev pub proof_of : Turn → ℕ
proof_of (of_fact f p) = p
proof_of (of_proof p) = p

-- The turns of a rule's step.
abbrev pub fact_turns : List Fact → List ℕ → List Turn
fact_turns [] ps = []
fact_turns (f ∷ fs) [] = []
fact_turns (f ∷ fs) (p ∷ ps) = of_fact f p ∷ fact_turns fs ps

-- A side condition is settled without its premise.
abbrev pub is_settled : Program → Turn → Bool
is_settled prog (of_fact f p) = is_container_side_condition prog f
is_settled prog (of_proof p) = false

-- The proofs that turns walk.
abbrev pub followed_turns : Program → List Turn → List ℕ
followed_turns prog [] = []
followed_turns prog (t ∷ ts) = follow_unless (is_settled prog t) (proof_of t) (followed_turns prog ts)

-- After the proof: what it must prove.
abbrev pub after_proof : Room → Program → List Proof → ℕ → Turn → List Binding → Check (Unit {0})
after_proof room prog proofs name (of_fact f p) σ = check_fact_matches_proposition room prog name σ f (claim_at proofs p)
after_proof room prog proofs name (of_proof p) σ = pure tt

-- After the proof of the first turn that is left, if there is one.
abbrev pub after_turn : Room → Program → List Proof → ℕ → List Turn → List Binding → Check (Unit {0})
after_turn room prog proofs name [] σ = pure tt
after_turn room prog proofs name (t ∷ ts) σ = after_proof room prog proofs name t σ

module _ (room : Room) (prog : Program) (proofs : List Proof) (strict : Bool) (name : ℕ) where
  -- Before the proof: the normal form and a side condition; the bindings then.
  abbrev pub before_proof : Turn → List Binding → Check (List Binding)
  before_proof (of_fact f p) σ = assert_body_proof_normal_form prog name f >>= λ _. choose (is_container_side_condition prog f) (check_side_condition room prog name σ strict f) (pure σ)
  before_proof (of_proof p) σ = pure σ

  module _ (sub : ℕ → List ℕ → Check (List ℕ)) where
    -- The proof itself, unless the turn is settled.
    abbrev pub walk_proof : Turn → List Binding → List ℕ → Check (List Binding × List ℕ)
    walk_proof t σ done = choose (is_settled prog t) (pure (σ, done)) (sub (proof_of t) done >>= λ d. after_proof room prog proofs name t σ >>= λ _. pure (σ, d))

    abbrev pub take_turn : Turn → List Binding × List ℕ → Check (List Binding × List ℕ)
    take_turn t b = before_proof t b.0 >>= λ τ. walk_proof t τ b.1

    unfoldable pub take_turns : List Turn → List Binding × List ℕ → Check (List Binding × List ℕ)
    take_turns [] b = pure b
    take_turns (t ∷ ts) b = take_turn t b >>= take_turns ts

-- What ends a step: the head of its rule, or what a step of its kind does.
abbrev pub end_step : Room → Program → List Proof → List Proposition → ℕ → Proposition → Justification → Option Rule → List Binding → Check (Unit {0})
end_step room prog proofs ps p q j none σ = concludes room prog proofs ps p q j
end_step room prog proofs ps p q j (some r) σ = check_rule_produces_equality room prog r σ q

-- The turns, then the end.
abbrev pub finish_step : Room → Program → List Proof → List Proposition → ℕ → Proposition → Justification → Option Rule → List Binding × List ℕ → Check (List ℕ)
finish_step room prog proofs ps p q j h b = end_step room prog proofs ps p q j h b.0 >>= λ _. pure b.1

-- The turns that a plan stands for: those of the rule of number r, or the first so many of two proofs.
abbrev pub turns_by : List ℕ → ℕ → Bool → ℕ → ℕ → ℕ → ℕ → List Turn
turns_by J p true r first second count = fact_turns (rule_for J r).facts (premises_for J p)
turns_by J p false r first second count = map of_proof (take count (first ∷ second ∷ []))

abbrev pub head_by : List ℕ → Bool → ℕ → Option Rule
head_by J true r = some (rule_for J r)
head_by J false r = none

-- The bindings of a step, where X is what conditions bound and G the globals.
abbrev pub bindings_by : List ℕ → ℕ → Bool → List ℕ → List ℕ → List Binding
bindings_by J p true X G = bindings_in X (pairs_for J p) G
bindings_by J p false X G = read_bindings G

abbrev pub no_turn : Turn
no_turn = of_proof 0

-- Proof p's step is taken by these turns.
pub record Planned (J : List ℕ) (p : ℕ) (rule : Bool) (r first second count : ℕ) : Type 0 where
  pub long : length (turns_by J p rule r first second count) ≡ count
  pub few : count ≤ 16
  pub lower : (i : ℕ) → i < count → proof_of (get_or (turns_by J p rule r first second count) i no_turn) < p
  pub kind : rule ≡ true → (proof_cell J p).kind ≡ 1
  pub inside : rule ≡ true → r < (sizes_of J).rules
  pub plain : rule ≡ false → count ≤ 2
  pub follows : followed_turns (program_for J) (turns_by J p rule r first second count) ≡ followed (program_for J) (get_or (proofs_for J) p no_proof).justification
  pub step : (room : Room) (strict : Bool) (G : List ℕ) (ps : List Proposition) (sub : ℕ → List ℕ → Check (List ℕ)) (done : List ℕ) (s : List Term)
      → (take_turns room (program_for J) (proofs_for J) strict first sub (turns_by J p rule r first second count) (bindings_by J p rule [] G, done)
      >>= finish_step room (program_for J) (proofs_for J) ps p (claim_at (proofs_for J) p) (get_or (proofs_for J) p no_proof).justification (head_by J rule r)) s
      ≡ check_justification room (program_for J) (proofs_for J) (context_of G ps) sub strict p (claim_at (proofs_for J) p) (get_or (proofs_for J) p no_proof).justification done s

-- Proof p is a rule's step, by the rule of that name.
pub record RuleStep (J : List ℕ) (p name : ℕ) : Type 0 where
  pub kind : (proof_cell J p).kind ≡ 1
  pub is : (get_or (proofs_for J) p no_proof).justification ≡ rule name (premises_for J p) (read_bindings (pairs_for J p))

-- A plan: the refusal of a rule's step whose rule or premises do not fit, or how the step is taken.
pub record Plans (J : List ℕ) (p : ℕ) (s : Plan) : Type 0 where
  pub stops : (s.refusal.number ≡ 0 → ⊥) → (room : Room) (strict : Bool) (G : List ℕ) (ps : List Proposition) (sub : ℕ → List ℕ → Check (List ℕ)) (done : List ℕ) (u : List Term)
      → outcome_of s.refusal done u
      ≡ check_justification room (program_for J) (proofs_for J) (context_of G ps) sub strict p (claim_at (proofs_for J) p) (get_or (proofs_for J) p no_proof).justification done u
  pub goes : s.refusal.number ≡ 0 → Planned J p s.rule s.r s.first s.second s.count

-- What a stage does, with the turns that are left: before a proof; or after it, and the end of the step where no other turn is left; the bindings then.
module _ (room : Room) (prog : Program) (proofs : List Proof) (strict : Bool) (name : ℕ) (ps : List Proposition) (p : ℕ) (q : Proposition) (j : Justification) (h : Option Rule) where
  abbrev pub end_if : List Turn → List Binding → Check (List Binding)
  end_if [] σ = end_step room prog proofs ps p q j h σ >>= λ _. pure σ
  end_if (t ∷ ts) σ = pure σ

  abbrev pub stage_of : List Turn → ℕ → List Binding → Check (List Binding)
  stage_of [] w σ = end_if [] σ
  stage_of (t ∷ ts) zero σ = before_proof room prog proofs strict name t σ
  stage_of (t ∷ ts) (suc w) σ = after_proof room prog proofs name t σ >>= λ _. end_if ts σ

-- After it no proof is walked.
abbrev pub is_over : Program → List Turn → ℕ → Bool
is_over prog [] w = true
is_over prog (t ∷ ts) zero = is_settled prog t
is_over prog (t ∷ ts) (suc w) = true

-- The contract of a stage, under the bindings that conditions bound, X.
pub record Advances (J : List ℕ) (strict : Bool) (F G U : List ℕ) (p : ℕ) (rule : Bool) (r first second count : ℕ) (X k e q ix : List ℕ) (f : Fill) (W : List ℕ) (i walked : ℕ) (k' e' q' ix' : List ℕ) (c : Stage) (memo' W' : List ℕ) : Type 0 where
  pub walks : Walks {A = List Binding × List ℕ} J F G U k e q ix f W k' e' q' ix' c.fill c.refusal memo' W' (λ d. (bound_over c.binds (bindings_by J p rule X G), d))
      (λ room ps done. stage_of room (program_for J) (proofs_for J) strict first ps p (claim_at (proofs_for J) p) (get_or (proofs_for J) p no_proof).justification (head_by J rule r)
      (drop i (turns_by J p rule r first second count)) walked (bindings_by J p rule X G) >>= λ τ. pure (τ, done))
  pub over : c.refusal.number ≡ 0 → c.settled ≡ is_over (program_for J) (drop i (turns_by J p rule r first second count)) walked
  pub sane : rule ≡ true → c.refusal.number ≡ 0 → Sane (program_for J) (bound_over c.binds (bindings_by J p rule X G)) (terms_in k' e' q' c.fill)
  pub plain : rule ≡ false → c.binds ≡ None
  pub waits : c.settled ≡ false → c.binds ≡ None

-- The same, of a store.
abbrev pub AdvancesIn : List ℕ → Bool → List ℕ → List ℕ → List ℕ → ℕ → Bool → ℕ → ℕ → ℕ → ℕ → List ℕ → Store → Fill → List ℕ → ℕ → ℕ → Store → Stage → List ℕ → List ℕ → Type 0
AdvancesIn J strict F G U p ruled r first second count X s f W i walked s' c memo' W' = Advances J strict F G U p ruled r first second count X s.kinds.now s.ends.now s.pool.now s.index.now f W i walked s'.kinds.now s'.ends.now s'.pool.now s'.index.now c memo' W'
