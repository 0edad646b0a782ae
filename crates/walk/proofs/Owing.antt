-- What a step still owes, turn by turn.
use Rattle.std.specs.Prelude as prelude
use mathlib.Core.Path.{◌≡◌, refl, sym, ap, subst, subst⁻¹, ◌∙◌}
use mathlib.Core.Bool.{Bool, true, false, true≢false}
use mathlib.Core.List.{List, [], ◌∷◌, map, nil≢cons, head-eq_of_cons-eq}
use mathlib.Core.Option.{Option}
use Prim.Native.Nat.{ℕ, zero, suc, ◌+◌, ◌-◌, ◌<◌, ◌≤◌, max}
use native.Mathlib.Numerals.{add-one}
use native.Mathlib.Omega.{arith}
use native.Mathlib.Decide.{dec_lt}
use lib.ListN.{length, get_or, take, drop, drop_of_length-le}
use lib.Seq.{drop-cons}
use Rattle.model.specs.Layout.{sizes_of}
use Rattle.model.specs.Term.{Term}
use Rattle.model.specs.Program.{Proposition, Binding, Program, Fact, Rule, Proof, Justification}
use Rattle.model.specs.Check.{Outcome, ok, refused, Check, and_then, ◌>>=◌, pure, choose, Room}
use Rattle.model.specs.Fact.{is_container_side_condition, check_side_condition}
use Rattle.model.specs.Walk.{no_proof, claim_at, check_justification, check_proof_with_context}
use Rattle.model.specs.Height.{follow_unless, followed, maximum, height}
use Rattle.index.specs.declared.Fill.{Fill}
use Rattle.termdag.specs.Store.{terms_in, room_of}
use Rattle.outcome.specs.Does.{passed, Grown}
use Rattle.outcome.specs.declared.Refusal.{Refusal}
use Rattle.outcome.proofs.Laws.{does-here, grown-same}
use Rattle.program.specs.Ready.{Ready, program_for}
use Rattle.program.specs.Read.{fact_for, proofs_for, premises_for, pairs_for}
use Rattle.evaluate.specs.Evaluation.{Sane}
use Rattle.actions.specs.Acting.{effect_bindings, Pushed}
use Rattle.actions.specs.declared.Effect.{Effect}
use Rattle.conditions.specs.Bound.{bound_over}
use Rattle.conditions.specs.declared.Bound as code
use Rattle.heads.proofs.Heading.{pushed-bindings, sane-fewer}
use Rattle.outcome.specs.declared.Checked.{Checked}
use Rattle.program.proofs.Proving.{substitution-read}
use Rattle.turns.specs.declared.Plan.{Plan}
use Rattle.turns.specs.declared.Stage.{Stage}
use Rattle.turns.proofs.Stages.{fact-turn}
use Rattle.turns.proofs.Tying.{sane-substitution}
use Rattle.turns.specs.Walking.{Ground, Walks, context_of}
use Rattle.normal_form.specs.Search.{Ordinary}
use Rattle.walk.specs.Start.{Starts, Follows, fact_numbers, StartsFact}
use Rattle.walk.proofs.Justifying.{height-for, height-few}
use Rattle.turns.specs.Turning.{Turn, of_fact, of_proof, proof_of, no_turn, is_settled, followed_turns, before_proof, after_proof, walk_proof, take_turns, end_step, end_if, finish_step, stage_of, is_over, turns_by, head_by, bindings_by, Planned, Plans, Advances}
use Rattle.turns.proofs.Walking.{walks-here, walks-then, walks-stop, walks-as, walks-passed}
use Rattle.model.proofs.Sequence.{then-assoc, then-alike}

-- what is owed before a turn, and after its proof; and after a stage
module _ (room : Room) (prog : Program) (proofs : List Proof) (strict : Bool) (name : ℕ) (sub : ℕ → List ℕ → Check (List ℕ)) (ps : List Proposition) (p : ℕ) (q : Proposition) (j : Justification) (h : Option Rule) where
  abbrev pub finish : List Binding × List ℕ → Check (List ℕ)
  finish b = finish_step room prog proofs ps p q j h b

  abbrev pub rest_of : List Turn → ℕ → List Binding × List ℕ → Check (List ℕ)
  rest_of ts zero b = take_turns room prog proofs strict name sub ts b >>= finish
  rest_of [] (suc v) b = finish b
  rest_of (t ∷ ts) (suc v) b = after_proof room prog proofs name t b.0 >>= λ _. take_turns room prog proofs strict name sub ts b >>= finish

  abbrev pub stage_part : List Turn → ℕ → List Binding × List ℕ → Check (List Binding × List ℕ)
  stage_part ts v b = stage_of room prog proofs strict name ps p q j h ts v b.0 >>= λ τ. pure (τ, b.1)

  abbrev pub left_of : List Turn → List Binding × List ℕ → Check (List ℕ)
  left_of [] b = pure b.1
  left_of (t ∷ ts) b = take_turns room prog proofs strict name sub (t ∷ ts) b >>= finish

  abbrev pub next_of : List Turn → ℕ → List Binding × List ℕ → Check (List ℕ)
  next_of [] v b = pure b.1
  next_of (t ∷ ts) zero b = walk_proof room prog proofs strict name sub t b.0 b.1 >>= λ d. take_turns room prog proofs strict name sub ts d >>= finish
  next_of (t ∷ ts) (suc v) b = left_of ts b

  abbrev paired : List ℕ → List Binding → Check (List Binding × List ℕ)
  paired d τ = pure (τ, d)

  ends : (o : Outcome (Unit {0})) (σ : List Binding) (d : List ℕ) → and_then o (λ _. pure d) ≡ and_then (and_then (and_then o (λ _. pure σ)) (paired d)) (λ b. pure b.1)
  ends (ok u s) σ d = refl
  ends (refused r s) σ d = refl

  before : (o : Outcome (List Binding)) (d : List ℕ) (w : List Binding → List ℕ → Check (List Binding × List ℕ)) (ts : List Turn)
      → and_then (and_then (and_then o (λ τ. w τ d)) (take_turns room prog proofs strict name sub ts)) finish
      ≡ and_then (and_then o (paired d)) (λ b. w b.0 b.1 >>= λ x. take_turns room prog proofs strict name sub ts x >>= finish)
  before (ok τ s) d w ts = then-assoc (w τ d s) (take_turns room prog proofs strict name sub ts) finish
  before (refused r s) d w ts = refl

  after : (o : Outcome (Unit {0})) (σ : List Binding) (d : List ℕ) (ts : List Turn) → and_then o (λ _. take_turns room prog proofs strict name sub ts (σ, d) >>= finish)
      ≡ and_then (and_then (and_then o (λ _. end_if room prog proofs strict name ps p q j h ts σ)) (paired d)) (left_of ts)
  unfolding take_turns
  after (ok u s) σ d [] = ends (end_step room prog proofs ps p q j h σ s) σ d
  after (ok u s) σ d (t ∷ ts) = refl
  after (refused r s) σ d [] = refl
  after (refused r s) σ d (t ∷ ts) = refl

  -- a stage, then what is owed after it
  pub rest-next : (ts : List Turn) (v : ℕ) (b : List Binding × List ℕ) (s : List Term) → rest_of ts v b s ≡ and_then (stage_part ts v b s) (next_of ts v)
  unfolding take_turns
  rest-next [] zero (σ, d) s = ends (end_step room prog proofs ps p q j h σ s) σ d
  rest-next [] (suc v) (σ, d) s = ends (end_step room prog proofs ps p q j h σ s) σ d
  rest-next (t ∷ ts) zero (σ, d) s = before (before_proof room prog proofs strict name t σ s) d (walk_proof room prog proofs strict name sub t) ts
  rest-next (t ∷ ts) (suc v) (σ, d) s = after (after_proof room prog proofs name t σ s) σ d ts

  -- a turn that is settled
  pub next-settled : (t : Turn) (ts : List Turn) (b : List Binding × List ℕ) (s : List Term) → is_settled prog t ≡ true → next_of (t ∷ ts) zero b s ≡ rest_of ts zero b s
  next-settled t ts (σ, d) s e =
      ap (λ (c : Bool). and_then (choose c (pure (σ, d)) (sub (proof_of t) d >>= λ x. after_proof room prog proofs name t σ >>= λ _. pure (σ, x)) s) (λ y. take_turns room prog proofs strict name sub ts y >>= finish)) e

  -- and one whose proof is walked
  abbrev pub walk_part : Turn → List Binding × List ℕ → Check (List Binding × List ℕ)
  walk_part t b = sub (proof_of t) b.1 >>= λ d. pure (b.0, d)

  matched : (o : Outcome (Unit {0})) (σ : List Binding) (d : List ℕ) (ts : List Turn) → and_then (and_then o (λ _. pure (σ, d))) (λ y. take_turns room prog proofs strict name sub ts y >>= finish)
      ≡ and_then o (λ _. take_turns room prog proofs strict name sub ts (σ, d) >>= finish)
  matched (ok u s) σ d ts = refl
  matched (refused r s) σ d ts = refl

  walked : (o : Outcome (List ℕ)) (t : Turn) (ts : List Turn) (σ : List Binding)
      → and_then (and_then o (λ x. after_proof room prog proofs name t σ >>= λ _. pure (σ, x))) (λ y. take_turns room prog proofs strict name sub ts y >>= finish)
      ≡ and_then (and_then o (λ d. pure (σ, d))) (rest_of (t ∷ ts) 1)
  walked (ok d s) t ts σ = matched (after_proof room prog proofs name t σ s) σ d ts
  walked (refused r s) t ts σ = refl

  pub next-walk : (t : Turn) (ts : List Turn) (b : List Binding × List ℕ) (s : List Term) → is_settled prog t ≡ false → next_of (t ∷ ts) zero b s ≡ and_then (walk_part t b s) (rest_of (t ∷ ts) 1)
  next-walk t ts (σ, d) s e =
      ap (λ (c : Bool). and_then (choose c (pure (σ, d)) (sub (proof_of t) d >>= λ x. after_proof room prog proofs name t σ >>= λ _. pure (σ, x)) s) (λ y. take_turns room prog proofs strict name sub ts y >>= finish)) e
      ∙ walked (sub (proof_of t) d s) t ts σ

-- the step of proof p, of which a part is done
module _ (J : List ℕ) (strict : Bool) (F G U : List ℕ) (p : ℕ) where
  abbrev prog : Program
  prog = program_for J

  abbrev proofs : List Proof
  proofs = proofs_for J

  abbrev pub sub : Room → List Proposition → ℕ → List ℕ → Check (List ℕ)
  sub room ps = check_proof_with_context room prog proofs (context_of G ps) strict p

  abbrev pub step_of : Room → List Proposition → List ℕ → Check (List ℕ)
  step_of room ps done = check_justification room prog proofs (context_of G ps) (sub room ps) strict p (claim_at proofs p) (get_or proofs p no_proof).justification done

  -- from the store k₀ on the step came to the store k with the bindings σ, and the rest is owed
  pub record Owes (k₀ e₀ p₀ ix₀ : List ℕ) (f₀ : Fill) (W₀ k e q ix : List ℕ) (f : Fill) (memo W : List ℕ) (σ : List Binding) (rest : Room → List Proposition → List Binding × List ℕ → Check (List ℕ)) : Type 0 where
    pub part : Room → List Proposition → List ℕ → Check (List Binding × List ℕ)
    pub walks : Walks {A = List Binding × List ℕ} J F G U k₀ e₀ p₀ ix₀ f₀ W₀ k e q ix f passed memo W (λ d. (σ, d)) part
    pub same : (ps : List Proposition) (done : List ℕ) → and_then (part (room_of k₀ p₀) ps done (terms_in k₀ e₀ p₀ f₀)) (rest (room_of k₀ p₀) ps) ≡ step_of (room_of k₀ p₀) ps done (terms_in k₀ e₀ p₀ f₀)

  module _ {k₀ e₀ p₀ ix₀ : List ℕ} {f₀ : Fill} {W₀ k e q ix : List ℕ} {f : Fill} {memo W : List ℕ} {σ : List Binding} {rest : Room → List Proposition → List Binding × List ℕ → Check (List ℕ)}
      (O : Owes k₀ e₀ p₀ ix₀ f₀ W₀ k e q ix f memo W σ rest) where
    -- the rest in other words
    pub owes-as : {rest' : Room → List Proposition → List Binding × List ℕ → Check (List ℕ)} → ((room : Room) (ps : List Proposition) (b : List Binding × List ℕ) (s : List Term) → rest room ps b s ≡ rest' room ps b s)
        → Owes k₀ e₀ p₀ ix₀ f₀ W₀ k e q ix f memo W σ rest'
    owes-as h = record { part = O.part; walks = O.walks; same = λ ps done. sym (then-alike (O.part (room_of k₀ p₀) ps done (terms_in k₀ e₀ p₀ f₀)) (h (room_of k₀ p₀) ps)) ∙ O.same ps done }

    module _ (c : Room → List Proposition → List Binding × List ℕ → Check (List Binding × List ℕ)) (next : Room → List Proposition → List Binding × List ℕ → Check (List ℕ))
        (eq : (room : Room) (ps : List Proposition) (b : List Binding × List ℕ) (s : List Term) → rest room ps b s ≡ and_then (c room ps b s) (next room ps))
        {k₁ e₁ p₁ ix₁ : List ℕ} {f₁ : Fill} {r : Refusal} {memo₁ W₁ : List ℕ} {τ : List Binding} (v : Walks {A = List Binding × List ℕ} J F G U k e q ix f W k₁ e₁ p₁ ix₁ f₁ r memo₁ W₁ (λ d. (τ, d)) (λ room ps done. c room ps (σ, done))) where
      abbrev longer : Room → List Proposition → List ℕ → Check (List Binding × List ℕ)
      longer room ps done s = and_then (O.part room ps done s) (c room ps)

      all_same : (ps : List Proposition) (done : List ℕ) → and_then (longer (room_of k₀ p₀) ps done (terms_in k₀ e₀ p₀ f₀)) (next (room_of k₀ p₀) ps) ≡ step_of (room_of k₀ p₀) ps done (terms_in k₀ e₀ p₀ f₀)
      all_same ps done =
          then-assoc (O.part (room_of k₀ p₀) ps done (terms_in k₀ e₀ p₀ f₀)) (c (room_of k₀ p₀) ps) (next (room_of k₀ p₀) ps)
          ∙ sym (then-alike (O.part (room_of k₀ p₀) ps done (terms_in k₀ e₀ p₀ f₀)) (eq (room_of k₀ p₀) ps)) ∙ O.same ps done

      pub owes-then : r.number ≡ 0 → Owes k₀ e₀ p₀ ix₀ f₀ W₀ k₁ e₁ p₁ ix₁ f₁ memo₁ W₁ τ next
      owes-then n = record { part = longer; walks = walks-passed n (walks-then O.walks c refl v); same = all_same }

      pub owes-stop : (r.number ≡ 0 → ⊥) → Walks J F G U k₀ e₀ p₀ ix₀ f₀ W₀ k₁ e₁ p₁ ix₁ f₁ r memo₁ W₁ (λ d. d) step_of
      owes-stop n = walks-as {o = λ room ps done s. and_then (longer room ps done s) (next room ps)} all_same (walks-stop (walks-then O.walks c refl v) (λ d. d) next n)

  -- nothing is owed
  pub owes-none : {k₀ e₀ p₀ ix₀ : List ℕ} {f₀ : Fill} {W₀ k e q ix : List ℕ} {f : Fill} {memo W : List ℕ} {σ : List Binding} → Owes k₀ e₀ p₀ ix₀ f₀ W₀ k e q ix f memo W σ (λ room ps b. pure b.1)
      → Walks J F G U k₀ e₀ p₀ ix₀ f₀ W₀ k e q ix f passed memo W (λ d. d) step_of
  owes-none O = walks-as {o = λ room ps done s. and_then (O.part room ps done s) (λ b. pure b.1)} O.same
      (walks-then O.walks (λ room ps b. pure b.1) refl (walks-here (O.walks.after refl).ground (λ ps done y. does-here (O.walks.after refl).ground.indexed refl)))

-- a step, turn by turn
module _ (J : List ℕ) (strict : Bool) (F G U : List ℕ) (p : ℕ) (rule : Bool) (r first second count : ℕ) where
  abbrev turns : List Turn
  turns = turns_by J p rule r first second count

  abbrev bindings : List ℕ → List Binding
  bindings X = bindings_by J p rule X G

  abbrev rest : List Turn → ℕ → Room → List Proposition → List Binding × List ℕ → Check (List ℕ)
  rest ts v room ps = rest_of room (prog J strict F G U p) (proofs J strict F G U p) strict first (sub J strict F G U p room ps) ps p (claim_at (proofs J strict F G U p) p) (get_or (proofs J strict F G U p) p no_proof).justification (head_by J rule r) ts v

  abbrev next : List Turn → ℕ → Room → List Proposition → List Binding × List ℕ → Check (List ℕ)
  next ts v room ps = next_of room (prog J strict F G U p) (proofs J strict F G U p) strict first (sub J strict F G U p room ps) ps p (claim_at (proofs J strict F G U p) p) (get_or (proofs J strict F G U p) p no_proof).justification (head_by J rule r) ts v

  abbrev stage : List Turn → ℕ → Room → List Proposition → List Binding × List ℕ → Check (List Binding × List ℕ)
  stage ts v room ps = stage_part room (prog J strict F G U p) (proofs J strict F G U p) strict first (sub J strict F G U p room ps) ps p (claim_at (proofs J strict F G U p) p) (get_or (proofs J strict F G U p) p no_proof).justification (head_by J rule r) ts v

  advance-is : (ts : List Turn) (v : ℕ) (room : Room) (ps : List Proposition) (b : List Binding × List ℕ) (s : List Term) → rest ts v room ps b s ≡ and_then (stage ts v room ps b s) (next ts v room ps)
  advance-is ts v room ps b s = rest-next room (prog J strict F G U p) (proofs J strict F G U p) strict first (sub J strict F G U p room ps) ps p (claim_at (proofs J strict F G U p) p) (get_or (proofs J strict F G U p) p no_proof).justification (head_by J rule r) ts v b s

  settled_is : (t : Turn) (ts : List Turn) → is_settled (program_for J) t ≡ true → (room : Room) (ps : List Proposition) (b : List Binding × List ℕ) (s : List Term) → next (t ∷ ts) 0 room ps b s ≡ rest ts 0 room ps b s
  settled_is t ts e room ps b s = next-settled room (prog J strict F G U p) (proofs J strict F G U p) strict first (sub J strict F G U p room ps) ps p (claim_at (proofs J strict F G U p) p) (get_or (proofs J strict F G U p) p no_proof).justification (head_by J rule r) t ts b s e

  abbrev walks : Turn → Room → List Proposition → List Binding × List ℕ → Check (List Binding × List ℕ)
  walks t room ps = walk_part room (prog J strict F G U p) (proofs J strict F G U p) strict first (sub J strict F G U p room ps) ps p (claim_at (proofs J strict F G U p) p) (get_or (proofs J strict F G U p) p no_proof).justification (head_by J rule r) t

  walk_is : (t : Turn) (ts : List Turn) → is_settled (program_for J) t ≡ false → (room : Room) (ps : List Proposition) (b : List Binding × List ℕ) (s : List Term) → next (t ∷ ts) 0 room ps b s ≡ and_then (walks t room ps b s) (rest (t ∷ ts) 2 room ps)
  walk_is t ts e room ps b s = next-walk room (prog J strict F G U p) (proofs J strict F G U p) strict first (sub J strict F G U p room ps) ps p (claim_at (proofs J strict F G U p) p) (get_or (proofs J strict F G U p) p no_proof).justification (head_by J rule r) t ts b s e

  proof-turn : (m : Bool) → m ≡ false → (j : ℕ) → (x : ℕ) × (get_or (turns_by J p m r first second count) j no_turn ≡ of_proof x)
  proof-turn true e j = absurd (true≢false e)
  proof-turn false e j = go (take count (first ∷ second ∷ [])) j
    where
      go : (xs : List ℕ) (j : ℕ) → (x : ℕ) × (get_or (map of_proof xs) j no_turn ≡ of_proof x)
      go [] j = (0, refl)
      go (x ∷ xs) zero = (x, refl)
      go (x ∷ xs) (suc j) = go xs j

  -- the greatest height among the proofs that turns walk
  abbrev highest : List Turn → ℕ
  highest ts = maximum (map (height (program_for J) (proofs_for J)) (followed_turns (program_for J) ts))

  highest-of : (t : Turn) (ts : List Turn) {b : Bool} → is_settled (program_for J) t ≡ b → highest (t ∷ ts) ≡ maximum (map (height (program_for J) (proofs_for J)) (follow_unless b (proof_of t) (followed_turns (program_for J) ts)))
  highest-of t ts e = ap (λ (b : Bool). maximum (map (height (program_for J) (proofs_for J)) (follow_unless b (proof_of t) (followed_turns (program_for J) ts)))) e

  -- the first turn whose proof may still be walked
  abbrev reached : ℕ → ℕ → ℕ
  reached i zero = i
  reached i (suc zero) = i
  reached i (suc (suc s)) = suc i

  reached-low : (i s : ℕ) → s ≤ 1 → reached i s ≡ i
  reached-low i zero l = refl
  reached-low i (suc zero) l = refl
  reached-low i (suc (suc s)) l = absurd (omega arith)

  reached-least : (i s : ℕ) → i ≤ reached i s
  reached-least i zero = omega arith
  reached-least i (suc zero) = omega arith
  reached-least i (suc (suc s)) = omega arith

  -- the step came to its turn i. In state 0 the turn is at its start, in state 1 its proof is to be walked, in state 2 it was; `most` is the greatest height of those that were
  pub record Task (k₀ e₀ p₀ ix₀ : List ℕ) (f₀ : Fill) (memo₀ W₀ k e q ix : List ℕ) (f : Fill) (memo W T : List ℕ) (at most i s : ℕ) : Type 0 where
    pub few : s ≤ 2
    pub upto : i ≤ suc count
    pub full : length T ≡ 34
    pub low : at ≤ 34
    pub free : i ≤ count → (count - i) + (count - i) + 2 ≤ at
    pub len_memo : length memo ≡ length memo₀
    pub len_w : length W ≡ length W₀
    pub grown : Grown k₀ e₀ p₀ ix₀ f₀ k e q ix f
    pub sane : rule ≡ true → i ≤ count → Sane (program_for J) (bindings (drop at T)) (terms_in k e q f)
    pub owes : i ≤ count → (s ≡ 1 → ⊥) → Owes J strict F G U p k₀ e₀ p₀ ix₀ f₀ W₀ k e q ix f memo W (bindings (drop at T)) (rest (drop i turns) s)
    pub due : s ≡ 1 → (i < count) × (is_settled (program_for J) (get_or turns i no_turn) ≡ false) × Owes J strict F G U p k₀ e₀ p₀ ix₀ f₀ W₀ k e q ix f memo W (bindings (drop at T)) (next (get_or turns i no_turn ∷ drop (suc i) turns) 0)
    pub ends : rule ≡ false → (s ≡ 1 → ⊥) → count ≤ i
    pub high : max most (highest (drop (reached i s) turns)) ≡ highest turns
    pub ended : i ≡ suc count → Walks J F G U k₀ e₀ p₀ ix₀ f₀ W₀ k e q ix f passed memo W (λ d. d) (step_of J strict F G U p)

  module _ (S : Planned J p rule r first second count) where
    left_at : {i : ℕ} → i < count → drop i turns ≡ get_or turns i no_turn ∷ drop (suc i) turns
    left_at {i} l = drop-cons turns i no_turn (let m = S.long in omega arith)

    -- a turn that starts
    module _ {k₀ e₀ p₀ ix₀ : List ℕ} {f₀ : Fill} {W₀ k e q ix : List ℕ} {f : Fill} {memo W : List ℕ} {σ : List Binding} {i s : ℕ} (O : Owes J strict F G U p k₀ e₀ p₀ ix₀ f₀ W₀ k e q ix f memo W σ (rest (drop i turns) 0)) (x : Starts rule count i s) where
      starts-owes : (s ≡ 1 → ⊥) → Owes J strict F G U p k₀ e₀ p₀ ix₀ f₀ W₀ k e q ix f memo W σ (rest (drop i turns) s)
      starts-owes n = go s x.few n
        where
          go : (m : ℕ) → m ≤ 1 → (m ≡ 1 → ⊥) → Owes J strict F G U p k₀ e₀ p₀ ix₀ f₀ W₀ k e q ix f memo W σ (rest (drop i turns) m)
          go zero l n = O
          go (suc zero) l n = absurd (n refl)
          go (suc (suc m)) l n = absurd (omega arith)

      starts-due : s ≡ 1 → (i < count) × (is_settled (program_for J) (get_or turns i no_turn) ≡ false) × Owes J strict F G U p k₀ e₀ p₀ ix₀ f₀ W₀ k e q ix f memo W σ (next (get_or turns i no_turn ∷ drop (suc i) turns) 0)
      starts-due u =
          let l = x.walks u in
          let y = proof-turn rule l.0 i in (
            l.1,
            ap (is_settled (program_for J)) y.1,
            subst⁻¹ (λ (t : Turn). Owes J strict F G U p k₀ e₀ p₀ ix₀ f₀ W₀ k e q ix f memo W σ (next (t ∷ drop (suc i) turns) 0)) y.1
                (owes-as J strict F G U p {rest = rest (of_proof y.0 ∷ drop (suc i) turns) 0} (subst (λ (ts : List Turn). Owes J strict F G U p k₀ e₀ p₀ ix₀ f₀ W₀ k e q ix f memo W σ (rest ts 0)) (left_at l.1 ∙ ap (λ (t : Turn). t ∷ drop (suc i) turns) y.1) O)
                (advance-is (of_proof y.0 ∷ drop (suc i) turns) 0)),
          )

    -- a rule's step, before its first fact
    pub starts-rule : rule ≡ true → {i : ℕ} → Starts rule count i 0
    starts-rule is = record { few = omega arith; walks = λ u. absurd (omega arith); ends = λ u _. absurd (true≢false (sym is ∙ u)) }

    pub task-as : {k₀ e₀ p₀ ix₀ : List ℕ} {f₀ : Fill} {memo₀ W₀ k e q ix : List ℕ} {f : Fill} {memo W T : List ℕ} {at most i s s' : ℕ} → s ≡ s' → Task k₀ e₀ p₀ ix₀ f₀ memo₀ W₀ k e q ix f memo W T at most i s' → Task k₀ e₀ p₀ ix₀ f₀ memo₀ W₀ k e q ix f memo W T at most i s
    task-as {k₀} {e₀} {p₀} {ix₀} {f₀} {memo₀} {W₀} {k} {e} {q} {ix} {f} {memo} {W} {T} {at} {most} {i} u t = subst⁻¹ (Task k₀ e₀ p₀ ix₀ f₀ memo₀ W₀ k e q ix f memo W T at most i) u t

    pub task-start : {k e q ix : List ℕ} {f : Fill} {memo W T : List ℕ} {s : ℕ} → Ground J F G k e q ix f memo W → (rule ≡ true → Sane (program_for J) (bindings []) (terms_in k e q f)) → length T ≡ 34 → Starts rule count 0 s
        → Task k e q ix f memo W k e q ix f memo W T 34 0 0 s
    task-start {k} {e} {q} {ix} {f} {memo} {W} {T} {s} g w l x = record {
      few = let m = x.few in omega arith;
      upto = omega arith;
      full = l;
      low = omega arith;
      free = λ _. let h = S.few in omega arith;
      len_memo = refl;
      len_w = refl;
      grown = grown-same g.indexed;
      sane = λ u _. subst⁻¹ (λ (X : List ℕ). Sane (program_for J) (bindings X) (terms_in k e q f)) nothing (w u);
      owes = λ _. starts-owes whole x;
      due = starts-due whole x;
      ends = x.ends;
      high = let m = ap (λ (n : ℕ). highest (drop n turns)) (reached-low 0 s x.few) in omega arith;
      ended = λ u. absurd (omega arith);
    }
      where
        nothing : drop 34 T ≡ []
        nothing = drop_of_length-le T {i = 34} (omega arith)

        whole : Owes J strict F G U p k e q ix f W k e q ix f memo W (bindings (drop 34 T)) (rest turns 0)
        whole = subst⁻¹ (λ (X : List ℕ). Owes J strict F G U p k e q ix f W k e q ix f memo W (bindings X) (rest turns 0)) nothing (record {
          part = λ room ps done. pure (bindings [], done);
          walks = walks-here {A = List Binding × List ℕ} {r = passed} {a = λ d. (bindings [], d)} {o = λ room ps done. pure (bindings [], done)} g (λ ps done y. does-here g.indexed refl);
          same = λ ps done. S.step (room_of k q) strict G ps (sub J strict F G U p (room_of k q) ps) done (terms_in k e q f);
        })

    -- a fact that is ordinary: its premise is walked at once
    module _ {k₀ e₀ p₀ ix₀ : List ℕ} {f₀ : Fill} {memo₀ W₀ k e q ix : List ℕ} {f : Fill} {memo W T : List ℕ} {at most i : ℕ} (t : Task k₀ e₀ p₀ ix₀ f₀ memo₀ W₀ k e q ix f memo W T at most i 0) (is : rule ≡ true) where
      ordinary-turn : (m : Bool) → m ≡ true → Planned J p m r first second count → i < count → get_or (turns_by J p m r first second count) i no_turn ≡ of_fact (fact_for J (get_or (fact_numbers J r) i 0)) (get_or (premises_for J p) i 0)
      ordinary-turn true e P l = head-eq_of_cons-eq (sym (drop-cons (turns_by J p true r first second count) i no_turn (let m = P.long in omega arith)) ∙ fact-turn P l refl refl)
      ordinary-turn false e P l = absurd (true≢false (sym e))

      module _ (l : i < count) (o : Ordinary (program_for J) (fact_for J (get_or (fact_numbers J r) i 0))) where
        abbrev due-turn : Turn
        due-turn = get_or turns i no_turn

        quiet-before : (room : Room) (σ : List Binding) (s : List Term) → before_proof room (program_for J) (proofs_for J) strict first due-turn σ s ≡ ok σ s
        quiet-before room σ s =
            ap (λ (u : Turn). before_proof room (program_for J) (proofs_for J) strict first u σ s) (ordinary-turn rule is S l)
            ∙ ap (λ (x : Outcome (Unit {0})). and_then x (λ _. choose (is_container_side_condition (program_for J) fact) (check_side_condition room (program_for J) first σ strict fact) (pure σ))) (o.normal first s)
            ∙ ap (λ (b : Bool). choose b (check_side_condition room (program_for J) first σ strict fact) (pure σ) s) o.premised
          where
            fact : Fact
            fact = fact_for J (get_or (fact_numbers J r) i 0)

        task-due : Task k₀ e₀ p₀ ix₀ f₀ memo₀ W₀ k e q ix f memo W T at most i 1
        task-due = record {
          few = omega arith;
          upto = t.upto;
          full = t.full;
          low = t.low;
          free = t.free;
          len_memo = t.len_memo;
          len_w = t.len_w;
          grown = t.grown;
          sane = t.sane;
          owes = λ _ u. absurd (u refl);
          due = λ _. (
            l,
            ap (is_settled (program_for J)) (ordinary-turn rule is S l) ∙ o.premised,
            owes-as J strict F G U p (subst (λ (ts : List Turn). Owes J strict F G U p k₀ e₀ p₀ ix₀ f₀ W₀ k e q ix f memo W (bindings (drop at T)) (rest ts 0)) (left_at l) (t.owes (omega arith) (λ u. absurd (omega arith))))
                (λ room ps b s. advance-is (due-turn ∷ drop (suc i) turns) 0 room ps b s
                ∙ ap (λ (x : Outcome (List Binding)). and_then (and_then x (λ τ. pure (τ, b.1))) (next (due-turn ∷ drop (suc i) turns) 0 room ps)) (quiet-before room b.0 s)),
          );
          ends = λ _ u. absurd (u refl);
          high = t.high;
          ended = λ u. absurd (omega arith);
        }

      pub task-fact : {s : ℕ} → StartsFact J r count i s → Task k₀ e₀ p₀ ix₀ f₀ memo₀ W₀ k e q ix f memo W T at most i s
      task-fact {s} x = go s x.few x.walks
        where
          go : (s : ℕ) → s ≤ 1 → (s ≡ 1 → (i < count) × Ordinary (program_for J) (fact_for J (get_or (fact_numbers J r) i 0))) → Task k₀ e₀ p₀ ix₀ f₀ memo₀ W₀ k e q ix f memo W T at most i s
          go zero l w = t
          go (suc zero) l w = task-due (w refl).0 (w refl).1
          go (suc (suc s)) l w = absurd (omega arith)

    -- a stage
    module _ {k₀ e₀ p₀ ix₀ : List ℕ} {f₀ : Fill} {memo₀ W₀ k e q ix : List ℕ} {f : Fill} {memo W T : List ℕ} {at most i v : ℕ} (t : Task k₀ e₀ p₀ ix₀ f₀ memo₀ W₀ k e q ix f memo W T at most i v) (h : i ≤ count) (v≢1 : v ≡ 1 → ⊥) where
      pub task-ground : Ground J F G k e q ix f memo W
      task-ground = ((t.owes h v≢1).walks.after refl).ground

      module _ {k₁ e₁ p₁ ix₁ : List ℕ} (c : Stage) {memo₁ W₁ : List ℕ} {X : List ℕ} (x : X ≡ drop at T) (d : Advances J strict F G U p rule r first second count X k e q ix f W i v k₁ e₁ p₁ ix₁ c memo₁ W₁) where
        abbrev σ : List Binding
        σ = bindings (drop at T)

        here : Advances J strict F G U p rule r first second count (drop at T) k e q ix f W i v k₁ e₁ p₁ ix₁ c memo₁ W₁
        here = subst (λ (Y : List ℕ). Advances J strict F G U p rule r first second count Y k e q ix f W i v k₁ e₁ p₁ ix₁ c memo₁ W₁) x d

        pub task-refused : (c.refusal.number ≡ 0 → ⊥) → Walks J F G U k₀ e₀ p₀ ix₀ f₀ W₀ k₁ e₁ p₁ ix₁ c.fill c.refusal memo₁ W₁ (λ y. y) (step_of J strict F G U p)
        task-refused n = owes-stop J strict F G U p (t.owes h v≢1) (stage (drop i turns) v) (next (drop i turns) v)
            (advance-is (drop i turns) v) here.walks n

        advanced : c.refusal.number ≡ 0 → Owes J strict F G U p k₀ e₀ p₀ ix₀ f₀ W₀ k₁ e₁ p₁ ix₁ c.fill memo₁ W₁ (bound_over c.binds σ) (next (drop i turns) v)
        advanced n = owes-then J strict F G U p (t.owes h v≢1) (stage (drop i turns) v) (next (drop i turns) v)
            (advance-is (drop i turns) v) here.walks n

        -- no proof is walked: the next turn, or the end
        after-over : c.refusal.number ≡ 0 → c.settled ≡ true → i < count → ((v ≡ 0 → ⊥) → suc i < count) → Owes J strict F G U p k₀ e₀ p₀ ix₀ f₀ W₀ k₁ e₁ p₁ ix₁ c.fill memo₁ W₁ (bound_over c.binds σ) (rest (drop (suc i) turns) 0)
        after-over n s l m = go v (get_or turns i no_turn) (left_at l) (sym (here.over n) ∙ s) m (advanced n)
          where
            go : (w : ℕ) (u : Turn) → drop i turns ≡ u ∷ drop (suc i) turns → is_over (program_for J) (drop i turns) w ≡ true → ((w ≡ 0 → ⊥) → suc i < count)
                → Owes J strict F G U p k₀ e₀ p₀ ix₀ f₀ W₀ k₁ e₁ p₁ ix₁ c.fill memo₁ W₁ (bound_over c.binds σ) (next (drop i turns) w)
                → Owes J strict F G U p k₀ e₀ p₀ ix₀ f₀ W₀ k₁ e₁ p₁ ix₁ c.fill memo₁ W₁ (bound_over c.binds σ) (rest (drop (suc i) turns) 0)
            go zero u y o m O = owes-as J strict F G U p (subst (λ (ts : List Turn). Owes J strict F G U p k₀ e₀ p₀ ix₀ f₀ W₀ k₁ e₁ p₁ ix₁ c.fill memo₁ W₁ (bound_over c.binds σ) (next ts 0)) y O)
                (settled_is u (drop (suc i) turns) (sym (ap (λ (ts : List Turn). is_over (program_for J) ts 0) y) ∙ o))
            go (suc w) u y o m O =
                let x = left_at (m (λ z. absurd (omega arith))) in
                subst⁻¹ (λ (ts : List Turn). Owes J strict F G U p k₀ e₀ p₀ ix₀ f₀ W₀ k₁ e₁ p₁ ix₁ c.fill memo₁ W₁ (bound_over c.binds σ) (rest ts 0)) x
                (subst (λ (ts : List Turn). Owes J strict F G U p k₀ e₀ p₀ ix₀ f₀ W₀ k₁ e₁ p₁ ix₁ c.fill memo₁ W₁ (bound_over c.binds σ) (next ts (suc w))) (y ∙ ap (λ (ts : List Turn). u ∷ ts) x) O)

        -- the end came with the last
        after_last : c.refusal.number ≡ 0 → (v ≡ 0 → ⊥) → suc i ≡ count → Walks J F G U k₀ e₀ p₀ ix₀ f₀ W₀ k₁ e₁ p₁ ix₁ c.fill passed memo₁ W₁ (λ y. y) (step_of J strict F G U p)
        after_last n z l = go v z (advanced n)
          where
            only : drop i turns ≡ get_or turns i no_turn ∷ []
            only = left_at (omega arith) ∙ ap (λ (ts : List Turn). get_or turns i no_turn ∷ ts) (drop_of_length-le turns {i = suc i} (let m = S.long in omega arith))

            go : (w : ℕ) → (w ≡ 0 → ⊥) → Owes J strict F G U p k₀ e₀ p₀ ix₀ f₀ W₀ k₁ e₁ p₁ ix₁ c.fill memo₁ W₁ (bound_over c.binds σ) (next (drop i turns) w)
                → Walks J F G U k₀ e₀ p₀ ix₀ f₀ W₀ k₁ e₁ p₁ ix₁ c.fill passed memo₁ W₁ (λ y. y) (step_of J strict F G U p)
            go zero z O = absurd (z refl)
            go (suc w) z O = owes-none J strict F G U p (subst (λ (ts : List Turn). Owes J strict F G U p k₀ e₀ p₀ ix₀ f₀ W₀ k₁ e₁ p₁ ix₁ c.fill memo₁ W₁ (bound_over c.binds σ) (next ts (suc w))) only O)

        after-end : c.refusal.number ≡ 0 → i ≡ count → Walks J F G U k₀ e₀ p₀ ix₀ f₀ W₀ k₁ e₁ p₁ ix₁ c.fill passed memo₁ W₁ (λ y. y) (step_of J strict F G U p)
        after-end n l = owes-none J strict F G U p (subst (λ (ts : List Turn). Owes J strict F G U p k₀ e₀ p₀ ix₀ f₀ W₀ k₁ e₁ p₁ ix₁ c.fill memo₁ W₁ (bound_over c.binds σ) (next ts v)) none_left (advanced n))
          where
            none_left : drop i turns ≡ []
            none_left = drop_of_length-le turns {i = i} (let m = S.long in omega arith)

        over-high : c.refusal.number ≡ 0 → c.settled ≡ true → highest (drop (reached i v) turns) ≡ highest (drop (suc i) turns)
        over-high n s = by (dec_lt i count)
          where
            go : (w : ℕ) → (w ≡ 1 → ⊥) → drop i turns ≡ get_or turns i no_turn ∷ drop (suc i) turns → is_over (program_for J) (drop i turns) w ≡ true → highest (drop (reached i w) turns) ≡ highest (drop (suc i) turns)
            go zero m e o = ap highest e ∙ highest-of (get_or turns i no_turn) (drop (suc i) turns) (sym (ap (λ (ts : List Turn). is_over (program_for J) ts 0) e) ∙ o)
            go (suc zero) m e o = absurd (m refl)
            go (suc (suc w)) m e o = refl

            none_left : (m : ℕ) → count ≤ m → drop m turns ≡ []
            none_left m l = drop_of_length-le turns {i = m} (let x = S.long in omega arith)

            by : Dec (i < count) → highest (drop (reached i v) turns) ≡ highest (drop (suc i) turns)
            by (yes l) = go v v≢1 (left_at l) (sym (here.over n) ∙ s)
            by (no l) = let b = reached-least i v in ap highest (none_left (reached i v) (omega arith) ∙ sym (none_left (suc i) (omega arith)))

        module _ {y : Effect} {T₁ : List ℕ} {at₁ : ℕ} (ps : Pushed T at y T₁ at₁) (b : (ρ : List Binding) → effect_bindings y ρ ≡ bound_over c.binds ρ) where
          bound : bound_over c.binds σ ≡ bindings (drop at₁ T₁)
          bound = go rule refl
            where
              go : (m : Bool) → rule ≡ m → bound_over c.binds (bindings_by J p m (drop at T) G) ≡ bindings_by J p m (drop at₁ T₁) G
              go true e = sym (b _) ∙ pushed-bindings (pairs_for J p) G ps
              go false e = ap (λ (w : prelude.Option code.Bound). bound_over w (bindings_by J p false (drop at T) G)) (here.plain e)

          task-settles : c.refusal.number ≡ 0 → c.settled ≡ true → ((v ≡ 0 → ⊥) → suc i ≡ count → ⊥) → length T₁ ≡ length T → length memo₁ ≡ length memo → length W₁ ≡ length W → Grown k₀ e₀ p₀ ix₀ f₀ k₁ e₁ p₁ ix₁ c.fill
              → Task k₀ e₀ p₀ ix₀ f₀ memo₀ W₀ k₁ e₁ p₁ ix₁ c.fill memo₁ W₁ T₁ at₁ most (i + 1) 0
          task-settles n s m lT l_memo l_w gr = record {
            few = omega arith;
            upto = omega arith;
            full = lT ∙ t.full;
            low = let u = ps.most in let w = t.low in omega arith;
            free = λ l. let u = t.free h in let w = ps.least in omega arith;
            len_memo = l_memo ∙ t.len_memo;
            len_w = l_w ∙ t.len_w;
            grown = gr;
            sane = λ u l. subst (λ (ρ : List Binding). Sane (program_for J) ρ (terms_in k₁ e₁ p₁ c.fill)) bound (here.sane u n);
            owes = λ l _. subst⁻¹ (λ (m : ℕ). Owes J strict F G U p k₀ e₀ p₀ ix₀ f₀ W₀ k₁ e₁ p₁ ix₁ c.fill memo₁ W₁ (bindings (drop at₁ T₁)) (rest (drop m turns) 0)) (add-one i)
                (subst (λ (ρ : List Binding). Owes J strict F G U p k₀ e₀ p₀ ix₀ f₀ W₀ k₁ e₁ p₁ ix₁ c.fill memo₁ W₁ ρ (rest (drop (suc i) turns) 0)) bound (after-over n s (omega arith) (λ z. not_last (m z) l)));
            due = λ u. absurd (omega arith);
            ends = λ u _. let l = t.ends u v≢1 in omega arith;
            high = ap (λ (m : ℕ). max most (highest (drop m turns))) (add-one i) ∙ ap (max most) (sym (over-high n s)) ∙ t.high;
            ended = λ u. after-end n (omega arith);
          }
            where
              not_last : (suc i ≡ count → ⊥) → i + 1 ≤ count → suc i < count
              not_last x l = by (dec_lt (suc i) count)
                where
                  by : Dec (suc i < count) → suc i < count
                  by (yes y) = y
                  by (no y) = absurd (x (omega arith))

          -- its head was done with the last fact
          task-ends : c.refusal.number ≡ 0 → (v ≡ 0 → ⊥) → suc i ≡ count → length T₁ ≡ length T → length memo₁ ≡ length memo → length W₁ ≡ length W → Grown k₀ e₀ p₀ ix₀ f₀ k₁ e₁ p₁ ix₁ c.fill
              → Task k₀ e₀ p₀ ix₀ f₀ memo₀ W₀ k₁ e₁ p₁ ix₁ c.fill memo₁ W₁ T₁ at₁ most (i + 2) 0
          task-ends n z l lT l_memo l_w gr = record {
            few = omega arith;
            upto = omega arith;
            full = lT ∙ t.full;
            low = let u = ps.most in let w = t.low in omega arith;
            free = λ u. absurd (omega arith);
            len_memo = l_memo ∙ t.len_memo;
            len_w = l_w ∙ t.len_w;
            grown = gr;
            sane = λ _ u. absurd (omega arith);
            owes = λ u _. absurd (omega arith);
            due = λ u. absurd (omega arith);
            ends = λ _ _. omega arith;
            high = ap (max most) (none (i + 2) (omega arith) ∙ sym (none (reached i v) (reached-late v z v≢1))) ∙ t.high;
            ended = λ _. after_last n z l;
          }
            where
              none : (m : ℕ) → count ≤ m → highest (drop m turns) ≡ 0
              none m u = ap highest (drop_of_length-le turns {i = m} (let x = S.long in omega arith))

              reached-late : (w : ℕ) → (w ≡ 0 → ⊥) → (w ≡ 1 → ⊥) → count ≤ reached i w
              reached-late zero z o = absurd (z refl)
              reached-late (suc zero) z o = absurd (o refl)
              reached-late (suc (suc w)) z o = omega arith

          pub task-follows : c.refusal.number ≡ 0 → c.settled ≡ true → {i₁ : ℕ} → Follows v count i i₁ → length T₁ ≡ length T → length memo₁ ≡ length memo → length W₁ ≡ length W → Grown k₀ e₀ p₀ ix₀ f₀ k₁ e₁ p₁ ix₁ c.fill
              → Task k₀ e₀ p₀ ix₀ f₀ memo₀ W₀ k₁ e₁ p₁ ix₁ c.fill memo₁ W₁ T₁ at₁ most i₁ 0
          task-follows n s {i₁} x lT l_memo l_w gr = go v refl (dec_lt i count) (dec_lt (suc i) count)
            where
              at_turn : (m : ℕ) → i₁ ≡ m → Task k₀ e₀ p₀ ix₀ f₀ memo₀ W₀ k₁ e₁ p₁ ix₁ c.fill memo₁ W₁ T₁ at₁ most m 0 → Task k₀ e₀ p₀ ix₀ f₀ memo₀ W₀ k₁ e₁ p₁ ix₁ c.fill memo₁ W₁ T₁ at₁ most i₁ 0
              at_turn m u y = subst⁻¹ (λ (j : ℕ). Task k₀ e₀ p₀ ix₀ f₀ memo₀ W₀ k₁ e₁ p₁ ix₁ c.fill memo₁ W₁ T₁ at₁ most j 0) u y

              go : (w : ℕ) → v ≡ w → Dec (i < count) → Dec (suc i < count) → Task k₀ e₀ p₀ ix₀ f₀ memo₀ W₀ k₁ e₁ p₁ ix₁ c.fill memo₁ W₁ T₁ at₁ most i₁ 0
              go zero u a b = at_turn (i + 1) (x.fresh u) (task-settles n s (λ z _. z u) lT l_memo l_w gr)
              go (suc w) u (yes a) (no b) = at_turn (i + 2) (x.last (λ z. absurd (omega arith)) (omega arith)) (task-ends n (λ z. absurd (omega arith)) (omega arith) lT l_memo l_w gr)
              go (suc w) u (yes a) (yes b) = at_turn (i + 1) (x.more (λ z. absurd (omega arith))) (task-settles n s (λ _ z. absurd (omega arith)) lT l_memo l_w gr)
              go (suc w) u (no a) b = at_turn (i + 1) (x.more (λ z. absurd (omega arith))) (task-settles n s (λ _ z. absurd (omega arith)) lT l_memo l_w gr)

        -- its proof is to be walked
        module _ (n : c.refusal.number ≡ 0) (s : c.settled ≡ false) where
          waits : (i < count) × (v ≡ 0) × (is_settled (program_for J) (get_or turns i no_turn) ≡ false)
          waits = go v (drop i turns) refl (sym (here.over n) ∙ s)
            where
              go : (w : ℕ) (ts : List Turn) → drop i turns ≡ ts → is_over (program_for J) ts w ≡ false → (i < count) × (w ≡ 0) × (is_settled (program_for J) (get_or turns i no_turn) ≡ false)
              go w [] e o = absurd (true≢false o)
              go (suc w) (u ∷ ts) e o = absurd (true≢false o)
              go zero (u ∷ ts) e o =
                  let m = S.long in
                  let l : i < count = left i (dec_lt i count) e in
                  (l, refl, ap (is_settled (program_for J)) (head-eq_of_cons-eq (sym (left_at l) ∙ e)) ∙ o)
                where
                  left : (m : ℕ) → Dec (m < count) → drop m turns ≡ u ∷ ts → m < count
                  left m (yes l) q = l
                  left m (no l) q = let x = S.long in let y : drop m turns ≡ [] = drop_of_length-le turns {i = m} (omega arith) in absurd (nil≢cons (sym y ∙ q))

          quiet : bound_over c.binds σ ≡ σ
          quiet = ap (λ (b : prelude.Option code.Bound). bound_over b σ) (here.waits s)

          pub task-fresh : v ≡ 0
          task-fresh = waits.1

          owed : Owes J strict F G U p k₀ e₀ p₀ ix₀ f₀ W₀ k₁ e₁ p₁ ix₁ c.fill memo₁ W₁ (bound_over c.binds σ) (next (get_or turns i no_turn ∷ drop (suc i) turns) 0)
          owed = subst (λ (m : ℕ). Owes J strict F G U p k₀ e₀ p₀ ix₀ f₀ W₀ k₁ e₁ p₁ ix₁ c.fill memo₁ W₁ (bound_over c.binds σ) (next (get_or turns i no_turn ∷ drop (suc i) turns) m)) waits.1
              (subst (λ (ts : List Turn). Owes J strict F G U p k₀ e₀ p₀ ix₀ f₀ W₀ k₁ e₁ p₁ ix₁ c.fill memo₁ W₁ (bound_over c.binds σ) (next ts v)) (left_at waits.0) (advanced n))

          pub task-waits : length memo₁ ≡ length memo → length W₁ ≡ length W → Grown k₀ e₀ p₀ ix₀ f₀ k₁ e₁ p₁ ix₁ c.fill → Task k₀ e₀ p₀ ix₀ f₀ memo₀ W₀ k₁ e₁ p₁ ix₁ c.fill memo₁ W₁ T at most i 1
          task-waits l_memo l_w gr = record {
            few = omega arith;
            upto = t.upto;
            full = t.full;
            low = t.low;
            free = t.free;
            len_memo = l_memo ∙ t.len_memo;
            len_w = l_w ∙ t.len_w;
            grown = gr;
            sane = λ u _. subst (λ (ρ : List Binding). Sane (program_for J) ρ (terms_in k₁ e₁ p₁ c.fill)) quiet (here.sane u n);
            owes = λ _ u. absurd (u refl);
            due = λ _. (waits.0, waits.2, subst (λ (ρ : List Binding). Owes J strict F G U p k₀ e₀ p₀ ix₀ f₀ W₀ k₁ e₁ p₁ ix₁ c.fill memo₁ W₁ ρ (next (get_or turns i no_turn ∷ drop (suc i) turns) 0)) quiet owed);
            ends = λ _ u. absurd (u refl);
            high = subst (λ (m : ℕ). max most (highest (drop (reached i m) turns)) ≡ highest turns) waits.1 t.high;
            ended = λ u. let l = waits.0 in absurd (omega arith);
          }

    -- the proof is walked
    module _ {k₀ e₀ p₀ ix₀ : List ℕ} {f₀ : Fill} {memo₀ W₀ k e q ix : List ℕ} {f : Fill} {memo W T : List ℕ} {at most i v : ℕ} (t : Task k₀ e₀ p₀ ix₀ f₀ memo₀ W₀ k e q ix f memo W T at most i v) (v≡1 : v ≡ 1) where
      pub task-turn : i < count
      task-turn = (t.due v≡1).0

      pub task-next : Ground J F G k e q ix f memo W
      task-next = ((t.due v≡1).2.walks.after refl).ground

      module _ (fuel : (room : Room) (ps : List Proposition) (x : ℕ) → x < p → (done : List ℕ) (u : List Term) → check_proof_with_context room (program_for J) (proofs_for J) (context_of G ps) strict (suc x) x done u ≡ sub J strict F G U p room ps x done u)
          {a : ℕ} (y : a ≡ proof_of (get_or turns i no_turn)) {k₂ e₂ p₂ ix₂ : List ℕ} {f₂ : Fill} {r₂ : Refusal} {memo₂ W₂ : List ℕ}
          (w : Walks J F G U k e q ix f W k₂ e₂ p₂ ix₂ f₂ r₂ memo₂ W₂ (λ d. d) (λ room ps done. check_proof_with_context room (program_for J) (proofs_for J) (context_of G ps) strict (suc a) a done)) where
        abbrev turn : Turn
        turn = get_or turns i no_turn

        abbrev τ : List Binding
        τ = bindings (drop at T)

        walked-proof : Walks J F G U k e q ix f W k₂ e₂ p₂ ix₂ f₂ r₂ memo₂ W₂ (λ d. d) (λ room ps done. sub J strict F G U p room ps (proof_of turn) done)
        walked-proof = walks-as {o' = λ room ps done. sub J strict F G U p room ps (proof_of turn) done} (λ ps done.
            fuel (room_of k q) ps a (let l = S.lower i task-turn in omega arith) done (terms_in k e q f) ∙ ap (λ (m : ℕ). sub J strict F G U p (room_of k q) ps m done (terms_in k e q f)) y) w

        pub task-walk-stops : (r₂.number ≡ 0 → ⊥) → Walks J F G U k₀ e₀ p₀ ix₀ f₀ W₀ k₂ e₂ p₂ ix₂ f₂ r₂ memo₂ W₂ (λ d. d) (step_of J strict F G U p)
        task-walk-stops m = owes-stop J strict F G U p (t.due v≡1).2 (walks turn) (rest (turn ∷ drop (suc i) turns) 2) (walk_is turn (drop (suc i) turns) (t.due v≡1).1)
            (walks-stop walked-proof (λ d. (τ, d)) (λ room ps d. pure (τ, d)) m) m

        module _ {h most₂ : ℕ} (hq : h ≡ height (program_for J) (proofs_for J) a) (mq : most₂ ≡ max most h) (m : r₂.number ≡ 0) (l_memo : length memo₂ ≡ length memo) (l_w : length W₂ ≡ length W) (gr : Grown k₀ e₀ p₀ ix₀ f₀ k₂ e₂ p₂ ix₂ f₂) where
          owed-after : Owes J strict F G U p k₀ e₀ p₀ ix₀ f₀ W₀ k₂ e₂ p₂ ix₂ f₂ memo₂ W₂ τ (rest (turn ∷ drop (suc i) turns) 2)
          owed-after = owes-then J strict F G U p (t.due v≡1).2 (walks turn) (rest (turn ∷ drop (suc i) turns) 2) (walk_is turn (drop (suc i) turns) (t.due v≡1).1)
              (walks-then walked-proof (λ room ps d. pure (τ, d)) m (walks-here {r = passed} (w.after m).ground (λ ps done u. does-here (w.after m).ground.indexed refl))) refl

          sane-after : rule ≡ true → Sane (program_for J) τ (terms_in k₂ e₂ p₂ f₂)
          sane-after u = sane-fewer (t.sane u (let l = task-turn in omega arith)) (w.after m).grows (w.after m).ground.sane

          high_after : max most₂ (highest (drop (suc i) turns)) ≡ highest turns
          high_after =
              let x : max most (highest (drop i turns)) ≡ highest turns = subst (λ (n : ℕ). max most (highest (drop (reached i n) turns)) ≡ highest turns) v≡1 t.high in
              let z : highest (drop i turns) ≡ max (height (program_for J) (proofs_for J) (proof_of turn)) (highest (drop (suc i) turns)) = ap highest (left_at task-turn) ∙ highest-of turn (drop (suc i) turns) (t.due v≡1).1 in
              let o : h ≡ height (program_for J) (proofs_for J) (proof_of turn) = hq ∙ ap (height (program_for J) (proofs_for J)) y in
              omega (arith, x, z, o, mq)

          pub task-walks : rule ≡ true → Task k₀ e₀ p₀ ix₀ f₀ memo₀ W₀ k₂ e₂ p₂ ix₂ f₂ memo₂ W₂ T at most₂ i 2
          task-walks is = record {
            few = omega arith;
            upto = t.upto;
            full = t.full;
            low = t.low;
            free = t.free;
            len_memo = l_memo ∙ t.len_memo;
            len_w = l_w ∙ t.len_w;
            grown = gr;
            sane = λ u _. sane-after u;
            owes = λ _ _. subst⁻¹ (λ (ts : List Turn). Owes J strict F G U p k₀ e₀ p₀ ix₀ f₀ W₀ k₂ e₂ p₂ ix₂ f₂ memo₂ W₂ τ (rest ts 2)) (left_at task-turn) owed-after;
            due = λ u. absurd (omega arith);
            ends = λ u _. absurd (true≢false (sym is ∙ u));
            high = high_after;
            ended = λ u. let l = task-turn in absurd (omega arith);
          }

          pub task-passes : rule ≡ false → {s : ℕ} → Starts rule count (i + 1) s → Task k₀ e₀ p₀ ix₀ f₀ memo₀ W₀ k₂ e₂ p₂ ix₂ f₂ memo₂ W₂ T at most₂ (i + 1) s
          task-passes is {s} x = record {
            few = let n = x.few in omega arith;
            upto = let l = task-turn in omega arith;
            full = t.full;
            low = t.low;
            free = λ l. let n = t.free (omega arith) in omega arith;
            len_memo = l_memo ∙ t.len_memo;
            len_w = l_w ∙ t.len_w;
            grown = gr;
            sane = λ u _. sane-after u;
            owes = λ _. starts-owes passed_on x;
            due = starts-due passed_on x;
            ends = x.ends;
            high = ap (λ (n : ℕ). max most₂ (highest (drop n turns))) (reached-low (i + 1) s x.few ∙ add-one i) ∙ high_after;
            ended = λ u. let l = task-turn in absurd (omega arith);
          }
            where
              passed_on : Owes J strict F G U p k₀ e₀ p₀ ix₀ f₀ W₀ k₂ e₂ p₂ ix₂ f₂ memo₂ W₂ τ (rest (drop (i + 1) turns) 0)
              passed_on =
                  let c = proof-turn rule is i in
                  subst⁻¹ (λ (n : ℕ). Owes J strict F G U p k₀ e₀ p₀ ix₀ f₀ W₀ k₂ e₂ p₂ ix₂ f₂ memo₂ W₂ τ (rest (drop n turns) 0)) (add-one i)
                  (owes-as J strict F G U p {rest = rest (of_proof c.0 ∷ drop (suc i) turns) 2}
                  (subst (λ (u : Turn). Owes J strict F G U p k₀ e₀ p₀ ix₀ f₀ W₀ k₂ e₂ p₂ ix₂ f₂ memo₂ W₂ τ (rest (u ∷ drop (suc i) turns) 2)) c.1 owed-after) (λ room ps b u. refl))

    -- the height, at the end
    pub task-height : Ready J → p < (sizes_of J).proofs → {k₀ e₀ p₀ ix₀ : List ℕ} {f₀ : Fill} {memo₀ W₀ k e q ix : List ℕ} {f : Fill} {memo W T : List ℕ} {at most i s : ℕ} → Task k₀ e₀ p₀ ix₀ f₀ memo₀ W₀ k e q ix f memo W T at most i s → i ≡ suc count
        → most + 1 ≡ height (program_for J) (proofs_for J) p
    task-height R l {most = most} {i = i} {s = s} t u =
        let a = reached-least i s in
        let b : highest (drop (reached i s) turns) ≡ 0 = ap highest (drop_of_length-le turns {i = reached i s} (let m = S.long in omega arith)) in
        let c = t.high in
        let d : highest turns ≡ maximum (map (height (program_for J) (proofs_for J)) (followed (program_for J) (get_or (proofs_for J) p no_proof).justification)) = ap (λ (xs : List ℕ). maximum (map (height (program_for J) (proofs_for J)) xs)) S.follows in
        let e = height-for R p l in
        omega (arith, b, c, d, e)

    -- it is a word
    pub task-word : Ready J → p < (sizes_of J).proofs → {k₀ e₀ p₀ ix₀ : List ℕ} {f₀ : Fill} {memo₀ W₀ k e q ix : List ℕ} {f : Fill} {memo W T : List ℕ} {at most i s : ℕ} → Task k₀ e₀ p₀ ix₀ f₀ memo₀ W₀ k e q ix f memo W T at most i s → i ≡ suc count
        → most + 1 ≤ 4096
    task-word R l t u = let h = task-height R l t u in let f = height-few R p in omega arith

-- a plan that is refused
pub plan-refused : (J : List ℕ) (strict : Bool) (F G U : List ℕ) (p : ℕ) {k e q ix : List ℕ} {f : Fill} {memo W : List ℕ} → Ground J F G k e q ix f memo W → {s : Plan} → Plans J p s → (s.refusal.number ≡ 0 → ⊥)
    → Walks J F G U k e q ix f W k e q ix f s.refusal memo W (λ d. d) (step_of J strict F G U p)
plan-refused J strict F G U p {k} {e} {q} {ix} {f} g S n = walks-here g (λ ps done y. does-here g.indexed (S.stops n (room_of k q) strict G ps (sub J strict F G U p (room_of k q) ps) done (terms_in k e q f)))

-- what the step starts from
pub start-sane : (J : List ℕ) (p : ℕ) {F G k e q ix : List ℕ} {f : Fill} {memo W : List ℕ} → Ground J F G k e q ix f memo W → p < (sizes_of J).proofs → {rule : Bool} {r first second count : ℕ} → rule ≡ true → Planned J p rule r first second count
    → Sane (program_for J) (bindings_by J p rule [] G) (terms_in k e q f)
start-sane J p {G = G} {k = k} {e = e} {q = q} {ix = ix} {f = f} g h {rule} u S =
    subst⁻¹ (λ (b : Bool). Sane (program_for J) (bindings_by J p b [] G) (terms_in k e q f)) u
    (sane-substitution (pairs_for J p) g (substitution-read g.ready p h (S.kind u) refl refl).within)

pub sane-part-by : (J : List ℕ) (p : ℕ) (G : List ℕ) (rule : Bool) {X Y : List ℕ} {s : List Term} → X ≡ Y → Sane (program_for J) (bindings_by J p rule Y G) s → Sane (program_for J) (bindings_by J p rule X G) s
sane-part-by J p G rule {s = s} x w = subst⁻¹ (λ (X : List ℕ). Sane (program_for J) (bindings_by J p rule X G) s) x w

pub passed-as : {J : List ℕ} {F G U k e q ix : List ℕ} {f : Fill} {W k₁ e₁ p₁ ix₁ : List ℕ} {f₁ : Fill} {memo₁ W₁ : List ℕ} {o : Room → List Proposition → List ℕ → Check (List ℕ)} {v : ℕ} {c : Checked} → c ≡ record { refusal = passed; value = v; fill = f₁ }
    → Walks J F G U k e q ix f W k₁ e₁ p₁ ix₁ f₁ passed memo₁ W₁ (λ d. d) o → Walks J F G U k e q ix f W k₁ e₁ p₁ ix₁ c.fill c.refusal memo₁ W₁ (λ d. d) o
passed-as {J} {F} {G} {U} {k} {e} {q} {ix} {f} {W} {k₁} {e₁} {p₁} {ix₁} {memo₁ = memo₁} {W₁ = W₁} {o = o} h w = subst⁻¹ (λ (x : Checked). Walks J F G U k e q ix f W k₁ e₁ p₁ ix₁ x.fill x.refusal memo₁ W₁ (λ d. d) o) h w
