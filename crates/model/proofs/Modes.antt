-- The two modes. What strict mode adds to a bare container condition; where the modes agree; and that strict mode has fewer rule instances, so that more relations are
-- closed for it and its acceptance says more.
use Prim.Native.Nat.{ℕ, suc}
use mathlib.Core.Path.{◌≡◌, refl, sym, ap}
use mathlib.Core.List.{List, [], Memᴰ}
use mathlib.Core.Bool.{Bool, true, false, true≢false}
use mathlib.Core.Option.{Option, none, some, none-ne-some}
use lib.ListN.{length}
use lib.Dec.{eqb}
use Rattle.model.specs.Term.{Term}
use Rattle.model.specs.Program.{Head, literal, variable, constructor, custom, primitive, Expr, node, nil, Binding, Program, Fact, equal, bare, Rule, Proof, Job}
use Rattle.model.specs.Decode.{job_of}
use Rattle.model.specs.Check.{Refusal, Outcome, ok, refused, Check, and_then, pure, Room, ◌>>?◌}
use Rattle.model.specs.Evaluate.{lookup, Value, eval_expr}
use Rattle.model.specs.Fact.{head_of, variable_of, is_container_primitive, is_container_side_condition, compare_sides, eval_side, check_side_condition}
use Rattle.model.specs.Load.{load_refusal}
use Rattle.model.specs.Walk.{check_proof, new_context, claim_at}
use Rattle.model.specs.Answer.{Arrays, Left, loaded, checked, checked_by, check, lent_by, entry}
use Rattle.model.specs.Tree.{Tree, TreeBinding, TreeRow, tree_side, tree_condition}
use Rattle.model.specs.Relation.{FactsHold, Closed, Derived}
use Rattle.model.proofs.Sequence.{then-alike}
use Rattle.model.proofs.Fuel.{ModesAlike, walk_modes}
use Rattle.model.proofs.Derived.{derived-closed, derived-least}

-- a call of a container's primitive is no variable
no-variable : (prog : Program) (h : Head) → is_container_primitive prog h ≡ true → variable_of h ≡ none
no-variable prog (literal l) e = refl
no-variable prog (variable x) e = absurd (true≢false (sym e))
no-variable prog (constructor f) e = refl
no-variable prog (custom f) e = refl
no-variable prog (primitive p) e = refl

-- a check whose value is forgotten
abbrev forget : {A B : Type 0} → Outcome A → B → Outcome B
forget o b = and_then o (λ _. pure b)

module _ (room : Room) (prog : Program) (rule : ℕ) (σ : List Binding) (i : ℕ) (e : Expr) where
  -- mode 0: unevaluated
  pub plain_passes : (s : List Term) → check_side_condition room prog rule σ false (bare i e) s ≡ ok σ s
  unfolding check_side_condition
  plain_passes s = refl

  -- strict mode: a container condition gives what its equality with a variable gives that has no value, but for what that binds
  pub strict-as-equality : is_container_side_condition prog (bare i e) ≡ true → (x k : ℕ) → lookup σ x ≡ none → (strict : Bool) (s : List Term)
      → check_side_condition room prog rule σ true (bare i e) s
      ≡ forget (check_side_condition room prog rule σ strict (equal i e (node k (variable x) nil)) s) σ
  unfolding check_side_condition compare_sides
  strict-as-equality call x k free strict s = rw (no-variable prog (head_of e) call, free) (go (eval_expr room prog rule σ e s))
    where
      both : Option ℕ → Check (List Binding)
      both a = compare_sides rule i σ none a (some x) none

      go : (o : Outcome Value) → and_then (and_then o (λ v. pure (some v.term))) (λ _. pure σ) ≡ forget (and_then (and_then o (λ v. pure (some v.term))) both) σ
      go (ok v s) = refl
      go (refused r s) = refl

  -- a value passes, whatever it is, and nothing is bound; without one the side's refusal stands, and the terms that were added stay
  pub strict-passes : (s : List Term) → check_side_condition room prog rule σ true (bare i e) s ≡ forget (eval_side room prog rule σ e s) σ
  unfolding check_side_condition
  strict-passes s = refl

-- an equality is the same in both modes
pub equality-alike : (room : Room) (prog : Program) (rule : ℕ) (σ : List Binding) (strict strict' : Bool) (i : ℕ) (l r : Expr) (s : List Term)
    → check_side_condition room prog rule σ strict (equal i l r) s ≡ check_side_condition room prog rule σ strict' (equal i l r) s
unfolding check_side_condition
equality-alike room prog rule σ strict strict' i l r s = refl

abbrev is_bare : Fact → Bool
is_bare (equal i l r) = false
is_bare (bare i e) = true

-- no rule of the program has a bare container condition
abbrev pub NoBareCondition : Program → Type 0
NoBareCondition prog = (r : Rule) → Memᴰ r prog.rules → (f : Fact) → Memᴰ f r.facts → is_container_side_condition prog f ≡ true → is_bare f ≡ false

module _ (prog : Program) (none_bare : NoBareCondition prog) where
  conditions-alike : (room : Room) (strict strict' : Bool) (r : Rule) → Memᴰ r prog.rules → ModesAlike room prog strict strict' r.facts
  conditions-alike room strict strict' r m f k c = go f (none_bare r m f k c)
    where
      go : (f : Fact) → is_bare f ≡ false → (name : ℕ) (σ : List Binding) (s : List Term)
          → check_side_condition room prog name σ strict f s ≡ check_side_condition room prog name σ strict' f s
      go (equal i l r) e name σ s = equality-alike room prog name σ strict strict' i l r s
      go (bare i e) b name σ s = absurd (true≢false b)

  pub proofs-alike : (room : Room) (proofs : List Proof) (strict strict' : Bool) (p : ℕ) (s : List Term) → check_proof room prog proofs strict p s ≡ check_proof room prog proofs strict' p s
  unfolding check_proof
  proofs-alike room proofs strict strict' p s = then-alike (new_context room prog s) λ ctx s₁.
      ap (λ (o : Outcome (List ℕ)). and_then o (λ _. pure (claim_at proofs p))) (walk_modes room prog proofs ctx strict strict' (conditions-alike room strict strict') (suc (length proofs)) p [] s₁)

loaded-alike : (job : Job) → NoBareCondition job.program → (p : ℕ) (a : Arrays) (o : Option Refusal) → loaded job p false a o ≡ loaded job p true a o
unfolding checked
loaded-alike job none_bare p a none = ap (checked_by job p a) (proofs-alike job.program none_bare _ job.proofs false true p job.terms)
loaded-alike job none_bare p a (some r) = refl

-- WHERE THE MODES AGREE: on a job without bare container conditions the entry returns and leaves the same in both modes, for whatever it is handed
pub modes_alike : (ws : List ℕ) (p : ℕ) (a : Arrays) (index scratch : ℕ) (answer : List ℕ) → NoBareCondition (job_of ws).program → entry ws p 0 a index scratch answer ≡ entry ws p 1 a index scratch answer
unfolding entry check load_refusal
modes_alike ws p a index scratch answer none_bare =
    ap (λ (c : Left). elim (eqb (length answer) 8) as (λ _. Left) [ true ↦ c | false ↦ record { number = 10; answer = answer; arrays = a } ])
    (loaded-alike (job_of ws) none_bare p a (load_refusal ws p 0 (lent_by a index scratch)))

-- strict mode passes no condition that mode 0 does not pass, and binds the same
condition-plain : (prog : Program) (rows : List TreeRow) (σ σ' : List TreeBinding) (f : Fact) → tree_condition prog rows true σ f ≡ some σ' → tree_condition prog rows false σ f ≡ some σ'
unfolding tree_condition
condition-plain prog rows σ σ' (equal i l r) e = e
condition-plain prog rows σ σ' (bare i x) e = go (tree_side prog rows σ x) e
  where
    go : (o : Option (Option Tree)) → (o >>? λ _. some σ) ≡ some σ' → some σ ≡ some σ'
    go none e = absurd (none-ne-some σ' e)
    go (some t) e = e

module _ (prog : Program) (rows : List TreeRow) where
  facts-plain {ℓ} : {R : Tree → Tree → Type ℓ} {fs : List Fact} {σ τ : List TreeBinding} → FactsHold prog rows true R fs σ τ → FactsHold prog rows false R fs σ τ
  facts-plain FactsHold.done = FactsHold.done
  facts-plain (FactsHold.side {f = f} {σ = σ} {σ' = σ'} c e h) = FactsHold.side c (condition-plain prog rows σ σ' f e) (facts-plain h)
  facts-plain (FactsHold.premise c e r h) = FactsHold.premise c e r (facts-plain h)

  -- a relation that is closed in mode 0 is closed in strict mode
  pub closed-strict {ℓ} : {R : Tree → Tree → Type ℓ} → Closed prog rows false R → Closed prog rows true R
  closed-strict c = record {
    symmetric = c.symmetric;
    transitive = c.transitive;
    literals = c.literals;
    globals = c.globals;
    rules = λ g e r m n σ τ h. c.rules g e r m n σ τ (facts-plain h);
    arguments = c.arguments;
    merges = c.merges;
    normals = c.normals;
  }

  -- what strict mode derives, mode 0 derives
  pub derived-plain : (a b : Tree) → Derived prog rows true a b → Derived prog rows false a b
  derived-plain a b h = derived-least prog rows true (Derived prog rows false) (closed-strict (derived-closed prog rows false)) a b h
