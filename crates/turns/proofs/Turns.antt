-- The step of a proof by turns is the definition's.
use mathlib.Core.Path.{◌≡◌, refl, sym, ap, ◌∙◌}
use mathlib.Core.Bool.{Bool, true, false}
use mathlib.Core.List.{List, [], ◌∷◌, map}
use mathlib.Core.Option.{none, some}
use Prim.Native.Nat.{ℕ}
use native.Mathlib.Omega.{arith}
use lib.ListN.{length}
use Rattle.model.specs.Term.{Term}
use Rattle.model.specs.Program.{Proposition, Binding, Program, Fact, Rule, Proof, Justification, references}
use Rattle.model.specs.Check.{Outcome, ok, refused, Check, and_then, ◌>>=◌, pure, choose, Room}
use Rattle.model.specs.Fact.{assert_body_proof_normal_form, is_container_side_condition, check_side_condition, check_fact_matches_proposition}
use Rattle.model.specs.Action.{ActionContext, check_rule_produces_equality}
use Rattle.model.specs.Walk.{claim_at, check_premises, check_justification}
use Rattle.steps.specs.Concluding.{walk_each, is_rule}
use Rattle.steps.proofs.Splitting.{justification-split}
use Rattle.turns.specs.Walking.{check_body}
use Rattle.turns.specs.Turning.{of_proof, fact_turns, take_turns, finish_step}
use Rattle.model.proofs.Sequence.{then-assoc, then-alike}

module _ {B : Type 0} where
  -- a turn with what comes after it
  paired : (o : Outcome (List Binding)) (done : List ℕ) (g : List Binding × List ℕ → Check B) → and_then (and_then o (λ τ. pure (τ, done))) g ≡ and_then o (λ τ. g (τ, done))
  paired (ok τ s) done g = refl
  paired (refused r s) done g = refl

  turn-cases : (o : Outcome (Unit {0})) (c : Bool) (x : Check (List Binding)) (σ : List Binding) (y : List Binding → Check (List Binding × List ℕ)) (done : List ℕ) (g : List Binding × List ℕ → Check B)
      → and_then (and_then (and_then o (λ _. choose c x (pure σ))) (λ τ. choose c (pure (τ, done)) (y τ))) g ≡ and_then o (λ _. choose c (x >>= λ τ. g (τ, done)) (y σ >>= g))
  turn-cases (refused r s) c x σ y done g = refl
  turn-cases (ok u s) true x σ y done g = paired (x s) done g
  turn-cases (ok u s) false x σ y done g = refl

module _ (room : Room) (prog : Program) (proofs : List Proof) (ctx : ActionContext) (sub : ℕ → List ℕ → Check (List ℕ)) (strict : Bool) where
  -- a rule's facts with their premises
  pub fact-turns : (name : ℕ) (fs : List Fact) (ps : List ℕ) → length fs ≡ length ps → (σ : List Binding) (done : List ℕ) (s : List Term)
      → take_turns room prog proofs strict name sub (fact_turns fs ps) (σ, done) s ≡ check_premises room prog proofs ctx sub strict name fs ps σ done s
  unfolding take_turns check_premises
  fact-turns name [] [] l σ done s = refl
  fact-turns name [] (p ∷ ps) l σ done s = absurd (omega arith)
  fact-turns name (f ∷ fs) [] l σ done s = absurd (omega arith)
  fact-turns name (f ∷ fs) (p ∷ ps) l σ done s =
      turn-cases (assert_body_proof_normal_form prog name f s) (is_container_side_condition prog f) (check_side_condition room prog name σ strict f) σ
      (λ τ. sub p done >>= λ d. check_fact_matches_proposition room prog name τ f (claim_at proofs p) >>= λ _. pure (τ, d)) done (take_turns room prog proofs strict name sub (fact_turns fs ps))
      ∙ then-alike (assert_body_proof_normal_form prog name f s) (λ _ u. go (λ τ d v. fact-turns name fs ps (omega arith) τ d v) (is_container_side_condition prog f) u)
    where
      rest : List Binding → List ℕ → Check (List Binding × List ℕ)
      rest τ d = check_premises room prog proofs ctx sub strict name fs ps τ d

      go : ((τ : List Binding) (d : List ℕ) (u : List Term) → take_turns room prog proofs strict name sub (fact_turns fs ps) (τ, d) u ≡ rest τ d u) → (c : Bool) (u : List Term)
          → choose c (check_side_condition room prog name σ strict f >>= λ τ. take_turns room prog proofs strict name sub (fact_turns fs ps) (τ, done))
          ((sub p done >>= λ d. check_fact_matches_proposition room prog name σ f (claim_at proofs p) >>= λ _. pure (σ, d)) >>= take_turns room prog proofs strict name sub (fact_turns fs ps)) u
          ≡ choose c (check_side_condition room prog name σ strict f >>= λ τ. rest τ done)
          (sub p done >>= λ d. check_fact_matches_proposition room prog name σ f (claim_at proofs p) >>= λ _. rest σ d) u
      go again true u = then-alike (check_side_condition room prog name σ strict f u) (λ τ v. again τ done v)
      go again false u =
          then-assoc (sub p done u) (λ d. check_fact_matches_proposition room prog name σ f (claim_at proofs p) >>= λ _. pure (σ, d)) (take_turns room prog proofs strict name sub (fact_turns fs ps))
          ∙ then-alike (sub p done u) (λ d v.
          then-assoc (check_fact_matches_proposition room prog name σ f (claim_at proofs p) v) (λ _. pure (σ, d)) (take_turns room prog proofs strict name sub (fact_turns fs ps))
          ∙ then-alike (check_fact_matches_proposition room prog name σ f (claim_at proofs p) v) (λ _ w. again σ d w))

  -- the proofs that another step refers to
  proof-turns : (name : ℕ) (xs : List ℕ) (σ : List Binding) (done : List ℕ) (s : List Term) {B : Type 0} (g : List Binding × List ℕ → Check B)
      → and_then (take_turns room prog proofs strict name sub (map of_proof xs) (σ, done) s) g ≡ and_then (walk_each sub xs done s) (λ d. g (σ, d))
  unfolding take_turns walk_each
  proof-turns name [] σ done s g = refl
  proof-turns name (x ∷ xs) σ done s g = go (λ d u. proof-turns name xs σ d u g) (sub x done s)
    where
      go : ((d : List ℕ) (u : List Term) → and_then (take_turns room prog proofs strict name sub (map of_proof xs) (σ, d) u) g ≡ and_then (walk_each sub xs d u) (λ x. g (σ, x)))
          → (o : Outcome (List ℕ)) → and_then (and_then (and_then o (λ d. pure (σ, d))) (take_turns room prog proofs strict name sub (map of_proof xs))) g ≡ and_then (and_then o (walk_each sub xs)) (λ d. g (σ, d))
      go again (ok d u) = again d u
      go again (refused r u) = refl

  -- the whole step
  pub rule-by-turns : (name : ℕ) (r : Rule) (ps : List ℕ) (p : ℕ) (q : Proposition) (j : Justification) → length r.facts ≡ length ps → (σ : List Binding) (done : List ℕ) (s : List Term)
      → (take_turns room prog proofs strict name sub (fact_turns r.facts ps) (σ, done) >>= finish_step room prog proofs ctx.pairs p q j (some r)) s
      ≡ check_body room prog proofs ctx sub strict name r ps σ q done s
  unfolding check_body
  rule-by-turns name r ps p q j l σ done s = ap (λ (o : Outcome (List Binding × List ℕ)). and_then o (λ b. check_rule_produces_equality room prog r b.0 q >>= λ _. pure b.1)) (fact-turns name r.facts ps l σ done s)

  pub step-by-turns : (name p : ℕ) (q : Proposition) (j : Justification) → is_rule j ≡ false → (σ : List Binding) (done : List ℕ) (s : List Term)
      → (take_turns room prog proofs strict name sub (map of_proof (references j)) (σ, done) >>= finish_step room prog proofs ctx.pairs p q j none) s
      ≡ check_justification room prog proofs ctx sub strict p q j done s
  step-by-turns name p q j o σ done s =
      proof-turns name (references j) σ done s (finish_step room prog proofs ctx.pairs p q j none) ∙ sym (justification-split room prog proofs ctx sub p q strict j o done s)
