-- A condition keeps the store sane: it grows, and what bindings and rows name lies in it, the new binding's term too.
use mathlib.Core.Path.{◌≡◌, refl, sym, ap, subst, ◌∙◌}
use mathlib.Core.Bool.{Bool, true, false}
use mathlib.Core.List.{List, [], ◌∷◌}
use mathlib.Core.Option.{Option, none, some, some-injective}
use Prim.Native.Nat.{ℕ, ◌<◌}
use native.Mathlib.Omega.{arith}
use lib.Dec.{eqb}
use lib.ListN.{length}
use Rattle.model.specs.Term.{Term, Extends}
use Rattle.model.specs.Program.{variable, Expr, node, nil, Fact, equal, bare, Binding, Program}
use Rattle.model.specs.Check.{Outcome, or_refuse, pure, Room}
use Rattle.model.specs.Evaluate.{lookup, eval_expr}
use Rattle.model.specs.Fact.{head_of, variable_of, bind_output, compare_sides, eval_side_by, check_side_condition}
use Rattle.model.proofs.Post.{Post, post-ok, post-map, post-bind, post-result, that-bind}
use Rattle.model.proofs.Store.{extends-same, extends-then, extends-length}
use Rattle.evaluate.specs.Value.{term_outcome, head_term, eval_term, eval_terms}
use Rattle.evaluate.specs.Evaluation.{Sane}
use Rattle.evaluate.proofs.Keeping.{Inside, sane-bind}
use Rattle.evaluate.proofs.Checking.{term-then, value-elsewhere}
use Rattle.evaluate.proofs.Settling.{value-term, term-sane}

module _ (room : Room) (prog : Program) (rule : ℕ) (σ : List Binding) where
  bound-inside : {s : List Term} (x t : ℕ) → Sane prog σ s → lookup σ x ≡ some t → t < length s
  unfolding eval_term eval_terms head_term or_refuse
  bound-inside {s} x t w e = (post-result (term-sane false room prog rule σ (node 0 (variable x) nil) w) (ap (λ (o : Option ℕ). or_refuse o 45 (rule ∷ x ∷ []) s) e)).2

  -- a condition's side
  abbrev Valued : List Term → Option ℕ → List Term → Type 0
  Valued s o s' = Extends s s' × Sane prog σ s' × ((t : ℕ) → o ≡ some t → t < length s')

  side-sane : (e : Expr) (o : Option ℕ) {s : List Term} → Sane prog σ s → Post (eval_side_by room prog rule σ e o s) (Valued s)
  side-sane e (some x) w = post-ok (extends-same, w, λ t q. bound-inside x t w q)
  side-sane e none {s} w =
      let value : Post (term_outcome (eval_expr room prog rule σ e s)) (Inside prog σ s) = subst (λ (o : Outcome ℕ). Post o (Inside prog σ s)) (sym (value-term false room prog rule σ e s) ∙ value-elsewhere room prog rule σ e s) (term-sane false room prog rule σ e w) in
      subst (λ (o : Outcome (Option ℕ)). Post o (Valued s)) (sym (term-then (eval_expr room prog rule σ e s) (λ t. pure (some t))))
      (post-bind value λ t s₁ m. post-ok (m.0, m.1, λ u q. let i = some-injective t u q in let h = m.2 in omega arith))

  -- a condition
  abbrev Bound : List Term → List Binding → List Term → Type 0
  Bound s σ' s' = Extends s s' × Sane prog σ' s'

  output-sane : (i : ℕ) (v : Option ℕ) (t : ℕ) {s : List Term} → t < length s → Sane prog σ s → Post (bind_output rule i σ v t s) (Bound s)
  output-sane i none t h w = record { holds = tt }
  output-sane i (some x) t h w = post-ok (extends-same, sane-bind x t h w)

  compare-sane : (i : ℕ) (lv a rv b : Option ℕ) {s : List Term} → ((t : ℕ) → a ≡ some t → t < length s) → ((t : ℕ) → b ≡ some t → t < length s) → Sane prog σ s
      → Post (compare_sides rule i σ lv a rv b s) (Bound s)
  unfolding compare_sides
  compare-sane i lv none rv none h k w = record { holds = tt }
  compare-sane i lv none rv (some y) h k w = output-sane i lv y (k y refl) w
  compare-sane i lv (some x) rv none h k w = output-sane i rv x (h x refl) w
  compare-sane i lv (some x) rv (some y) {s} h k w = that-bind (eqb x y) 42 _ s _ tt (λ _. post-ok (extends-same, w))

  pub condition-sane : (strict : Bool) (f : Fact) {s : List Term} → Sane prog σ s → Post (check_side_condition room prog rule σ strict f s) (λ σ' s'. Extends s s' × Sane prog σ' s')
  unfolding check_side_condition
  condition-sane false (bare i e) w = post-ok (extends-same, w)
  condition-sane true (bare i e) w = post-bind (side-sane e (variable_of (head_of e)) w) λ a s₁ m. post-ok (m.0, m.1)
  condition-sane strict (equal i l r) w =
      post-bind (side-sane l (variable_of (head_of l)) w) λ a s₁ m.
      post-bind (side-sane r (variable_of (head_of r)) m.1) λ b s₂ n.
      post-map (compare-sane i (variable_of (head_of l)) a (variable_of (head_of r)) b (λ t e. let h = m.2 t e in let g = extends-length n.0 in omega arith) n.2 n.1) λ σ' s' k.
      (extends-then m.0 (extends-then n.0 k.0), k.1)
