-- Facts keep the store sane: it grows, and what bindings and rows name lies in it.
use mathlib.Core.Path.{◌≡◌, refl, sym, subst, ◌∙◌}
use mathlib.Core.Logic.{◌⊎◌, inl, inr}
use mathlib.Core.Bool.{true, false}
use mathlib.Core.List.Memᴰ
use mathlib.Core.List.{List, [], ◌∷◌, ◌++◌, Memᴰ}
use mathlib.Core.Option.{Option, none, some}
use Prim.Native.Nat.{ℕ, ◌<◌}
use native.Mathlib.Omega.{arith}
use lib.ListN.{length}
use Rattle.model.specs.Term.{Term, app, Extends, Below}
use Rattle.model.specs.Program.{variable, Expr, node, Exprs, nil, cons, Fact, equal, bare, Proposition, Binding, Program}
use Rattle.model.specs.Check.{Outcome, or_refuse, Room}
use Rattle.model.specs.Evaluate.{lookup, eval_fact_expr, eval_fact_exprs}
use Rattle.model.specs.Fact.{FunctionFact, args_of, function_fact, wanted_equality, wanted, matches_equality, matches, check_fact_matches_proposition}
use Rattle.model.proofs.Post.{Post, post-ok, post-map, post-bind, post-that}
use Rattle.model.proofs.Store.{extends-same, extends-then, extends-length}
use Rattle.model.proofs.Again.{added}
use Rattle.evaluate.specs.Value.{head_term, eval_term, eval_terms}
use Rattle.evaluate.specs.Evaluation.{Sane}
use Rattle.evaluate.proofs.Keeping.{Inside, sane-grows}
use Rattle.evaluate.proofs.Checking.{value-fact}
use Rattle.evaluate.proofs.Settling.{value-term, term-sane}

below_last : (n v : ℕ) (ts : List ℕ) → v < n → Below n ts → Below n (ts ++ (v ∷ []))
below_last n v [] h b x m = go (Memᴰ.cases_cons m)
  where
    go : (x ≡ v) ⊎ Memᴰ x [] → x < n
    go (inl e) = omega arith
    go (inr k) = absurd (Memᴰ.not-nil k)
below_last n v (t ∷ ts) h b x m = go (Memᴰ.cases_cons m) (below_last n v ts h (λ y k. b y (Memᴰ.tail k)) x)
  where
    go : (x ≡ t) ⊎ Memᴰ x (ts ++ (v ∷ [])) → (Memᴰ x (ts ++ (v ∷ [])) → x < n) → x < n
    go (inl e) r = b x (Memᴰ.head e)
    go (inr k) r = r k

below-first : (n t : ℕ) (ts : List ℕ) → t < n → Below n ts → Below n (t ∷ ts)
below-first n t ts h b x m = go (Memᴰ.cases_cons m)
  where
    go : (x ≡ t) ⊎ Memᴰ x ts → x < n
    go (inl e) = omega arith
    go (inr k) = b x k

module _ (room : Room) (prog : Program) (rule : ℕ) (σ : List Binding) where
  -- a variable's value
  variable-sane : (x : ℕ) {s : List Term} → Sane prog σ s → Post (or_refuse (lookup σ x) 45 (rule ∷ x ∷ []) s) (Inside prog σ s)
  unfolding eval_term eval_terms head_term
  variable-sane x w = term-sane false room prog rule σ (node 0 (variable x) nil) w

  -- values in an ordinary fact
  expr-sane : (e : Expr) {s : List Term} → Sane prog σ s → Post (eval_fact_expr room prog rule σ e s) (Inside prog σ s)
  expr-sane e {s} w = subst (λ (o : Outcome ℕ). Post o (Inside prog σ s)) (sym (value-term true room prog rule σ e s) ∙ value-fact room prog rule σ e s) (term-sane true room prog rule σ e w)

  exprs_sane : (es : Exprs) {s : List Term} → Sane prog σ s → Post (eval_fact_exprs room prog rule σ es s) (λ ts s'. Extends s s' × Sane prog σ s' × Below (length s') ts)
  unfolding eval_fact_exprs
  exprs_sane nil w = post-ok (extends-same, w, λ x m. absurd (Memᴰ.not-nil m))
  exprs_sane (cons e es) w =
      post-bind (expr-sane e w) λ t s₁ m.
      post-bind (exprs_sane es m.1) λ ts s₂ n.
      post-ok (extends-then m.0 n.0, n.1, below-first (length s₂) t ts (let h = m.2 in let g = extends-length n.0 in omega arith) n.2)

  -- what is asked for
  abbrev Kept : {A : Type 0} → List Term → A → List Term → Type 0
  Kept s a s' = Extends s s' × Sane prog σ s'

  equality-sane : (l r : Expr) (o : Option FunctionFact) {s : List Term} → Sane prog σ s → Post (wanted_equality room prog rule σ l r o s) (Kept s)
  unfolding wanted_equality
  equality-sane l r none w =
      post-bind (expr-sane l w) λ a s₁ m.
      post-bind (expr-sane r m.1) λ b s₂ n.
      post-ok (extends-then m.0 n.0, n.1)
  equality-sane l r (some f) w =
      post-bind (variable-sane f.variable w) λ v s₀ k.
      post-bind (exprs_sane (args_of l) k.1) λ ts s₁ m.
      post-bind (added room (app f.function (ts ++ (v ∷ []))) s₁) λ t s₂ n.
      post-ok (extends-then k.0 (extends-then m.0 n.0.grows), sane-grows n.0.grows (n.1.ordered (below_last (length s₁) v ts (let h = k.2 in let g = extends-length m.0 in omega arith) m.2) m.1.ordered) m.1)

  wanted-sane : (f : Fact) {s : List Term} → Sane prog σ s → Post (wanted room prog rule σ f s) (λ w s'. Extends s s' × Sane prog σ s')
  unfolding wanted
  wanted-sane (equal i l r) w = equality-sane l r (function_fact l r) w
  wanted-sane (bare i e) w = post-bind (expr-sane e w) λ t s₁ m. post-ok (m.0, m.1)

  -- the comparison leaves the store as it is
  pair_keeps : (i : ℕ) (o : Option FunctionFact) (w q : Proposition) (s : List Term) → Post (matches_equality rule i o w q s) (λ _ s'. s' ≡ s)
  pair_keeps i none w q s = post-that _ 29 _ s tt (λ _. refl)
  pair_keeps i (some f) w q s = post-that _ 28 _ s tt (λ _. refl)

  matches-keeps : (f : Fact) (w q : Proposition) (s : List Term) → Post (matches rule f w q s) (λ _ s'. s' ≡ s)
  unfolding matches
  matches-keeps (equal i l r) w q s = pair_keeps i (function_fact l r) w q s
  matches-keeps (bare i e) w q s = post-that _ 30 _ s tt (λ _. refl)

  pub fact-sane : (f : Fact) (q : Proposition) {s : List Term} → Sane prog σ s → Post (check_fact_matches_proposition room prog rule σ f q s) (λ _ s'. Extends s s' × Sane prog σ s')
  fact-sane f q {s} w =
      post-bind (wanted-sane f w) λ p s₁ m.
      post-map (matches-keeps f p q s₁) λ _ s₂ e. subst (λ (u : List Term). Extends s u × Sane prog σ u) (sym e) m
