-- Fuel beyond the number changes nothing: of an expression, of the walk. Nor does the mode, where no fact tells the two apart.
use Prim.Native.Nat.{ℕ, zero, suc, ◌<◌}
use native.Mathlib.Omega.{arith}
use mathlib.Core.Path.{◌≡◌, refl, sym, ap, ap₂, subst}
use mathlib.Core.Logic.{◌⊎◌, inl, inr}
use mathlib.Core.List.{List, [], ◌∷◌, ◌++◌, Memᴰ}
use mathlib.Core.Bool.{Bool, true, false}
use mathlib.Core.Option.{Option, none, some, none-ne-some, some-injective}
use lib.ListN.{length, get_or}
use lib.Dec.{eqb}
use Rattle.model.specs.Cell.{Cell, no_cell}
use Rattle.model.proofs.Sequence.{then_same}
use Rattle.model.specs.Term.{Term, Below}
use Rattle.model.specs.Program.{Expr, node, cons, Proposition, Binding, Program, Fact, Rule, Proof, Justification, fiat, rule, merge_fn, trans, symm, congr, container_normalize, eval, references}
use Rattle.model.specs.Decode.{read_head, read_arguments, arguments_by, expr_in, expr_of}
use Rattle.model.specs.Check.{Outcome, Check, and_then, choose, or_refuse, check_that, Room}
use Rattle.model.specs.Fact.{assert_body_proof_normal_form, is_container_side_condition, check_side_condition, check_fact_matches_proposition}
use Rattle.model.specs.Action.{ActionContext}
use Rattle.model.specs.Walk.{no_proof, claim_at, member, rule_of, check_premises, check_rule, check_merge_fn, check_trans, check_sym, check_congr, check_container_normalize, check_fiat, check_justification, check_proof_with_context}
use Rattle.model.specs.Height.{follow_unless, followed_premises, followed_by, followed}
use Rattle.model.proofs.Height.{followed-within}

-- expressions: each argument has a lower number
args-same : (f g : ℕ → Expr) (xs : List ℕ) → ((x : ℕ) → Memᴰ x xs → f x ≡ g x) → arguments_by f xs ≡ arguments_by g xs
args-same f g [] h = refl
args-same f g (x ∷ xs) h = ap₂ cons (h x (Memᴰ.head refl)) (args-same f g xs (λ y m. h y (Memᴰ.tail m)))

module _ (cells : List Cell) (lower : (e : ℕ) → Below e (read_arguments (get_or cells e no_cell))) where
  pub expr-fuel : (f g e : ℕ) → e < f → e < g → expr_in f cells e ≡ expr_in g cells e
  unfolding expr_in
  expr-fuel zero g e h k = absurd (omega arith)
  expr-fuel (suc f) zero e h k = absurd (omega arith)
  expr-fuel (suc f) (suc g) e h k = ap (node e (read_head (get_or cells e no_cell)))
      (args-same (expr_in f cells) (expr_in g cells) _ (λ x m. let l = lower e x m in expr-fuel f g x (omega arith) (omega arith)))

  -- an expression is its head over its arguments' expressions
  pub expr-node : (e : ℕ) → expr_of cells e ≡ node e (read_head (get_or cells e no_cell)) (arguments_by (expr_of cells) (read_arguments (get_or cells e no_cell)))
  unfolding expr_in
  expr-node e = ap (node e (read_head (get_or cells e no_cell)))
      (args-same (expr_in e cells) (expr_of cells) _ (λ x m. let l = lower e x m in expr-fuel e (suc x) x (omega arith) (omega arith)))

-- checks that agree, one after the other
module _ {A : Type 0} where
  -- a record, so that a use finds the two outcomes by itself
  record Same (o o' : Outcome A) : Type 0 where
    pub same : o ≡ o'

  same_refl : {o : Outcome A} → Same o o
  same_refl = record { same = refl }

  same-choose : (b : Bool) (x x' y y' : Check A) (s : List Term) → (b ≡ true → Same (x s) (x' s)) → (b ≡ false → Same (y s) (y' s)) → Same (choose b x y s) (choose b x' y' s)
  same-choose true x x' y y' s e f = e refl
  same-choose false x x' y y' s e f = f refl

module _ {A B : Type 0} where
  same-bind : {o o' : Outcome A} {f g : A → Check B} → Same o o' → ((a : A) (s : List Term) → Same (f a s) (g a s)) → Same (and_then o f) (and_then o' g)
  same-bind e h = record { same = then_same e.same (λ a s. (h a s).same) }

  -- the same first check on both sides
  same_after : (o : Outcome A) {f g : A → Check B} → ((a : A) (s : List Term) → Same (f a s) (g a s)) → Same (and_then o f) (and_then o g)
  same_after o h = same-bind {o = o} same_refl h

-- a value or a refusal, then the same
same_or : {A B : Type 0} (o : Option A) (n : ℕ) (fs : List ℕ) (s : List Term) {f g : A → Check B} → ((a : A) → o ≡ some a → (t : List Term) → Same (f a t) (g a t))
    → Same (and_then (or_refuse o n fs s) f) (and_then (or_refuse o n fs s) g)
unfolding or_refuse
same_or none n fs s h = same_refl
same_or (some a) n fs s h = h a refl s

-- the rule that a name leads to is one of the rules
pub rule-of : (rs : List Rule) (n : ℕ) (r : Rule) → rule_of rs n ≡ some r → Memᴰ r rs
rule-of [] n r e = absurd (none-ne-some r e)
rule-of (q ∷ qs) n r e = go (eqb q.name n) e (rule-of qs n r)
  where
    go : (b : Bool) → elim b [ true ↦ some q | false ↦ rule_of qs n ] ≡ some r → (rule_of qs n ≡ some r → Memᴰ r qs) → Memᴰ r (q ∷ qs)
    go true e k = Memᴰ.head (sym (some-injective q r e))
    go false e k = Memᴰ.tail (k e)

-- two modes agree on the side conditions among these facts
abbrev pub ModesAlike : Room → Program → Bool → Bool → List Fact → Type 0
ModesAlike room prog strict strict' fs = (f : Fact) → Memᴰ f fs → is_container_side_condition prog f ≡ true → (name : ℕ) (σ : List Binding) (s : List Term)
    → check_side_condition room prog name σ strict f s ≡ check_side_condition room prog name σ strict' f s

module _ (room : Room) (prog : Program) (proofs : List Proof) (ctx : ActionContext) where
  -- two walks agree on these proofs
  record Alike (sub sub' : ℕ → List ℕ → Check (List ℕ)) (ps : List ℕ) : Type 0 where
    pub at : (p : ℕ) → Memᴰ p ps → (done : List ℕ) (s : List Term) → Same (sub p done s) (sub' p done s)

  module _ (sub sub' : ℕ → List ℕ → Check (List ℕ)) (strict strict' : Bool) where
    alike-rest : {p : ℕ} {ps : List ℕ} → Alike sub sub' (p ∷ ps) → Alike sub sub' ps
    alike-rest a = record { at = λ q m. a.at q (Memᴰ.tail m) }

    first : {p : ℕ} {ps : List ℕ} → Alike sub sub' (p ∷ ps) → (done : List ℕ) (s : List Term) → Same (sub p done s) (sub' p done s)
    first {p} a = a.at p (Memᴰ.head refl)

    second : {p q : ℕ} {ps : List ℕ} → Alike sub sub' (p ∷ q ∷ ps) → (done : List ℕ) (s : List Term) → Same (sub q done s) (sub' q done s)
    second {q = q} a = a.at q (Memᴰ.tail (Memᴰ.head refl))

    premises-same : (name : ℕ) (fs : List Fact) (ps : List ℕ) → ModesAlike room prog strict strict' fs → Alike sub sub' (followed_premises prog fs ps) → (σ : List Binding) (done : List ℕ) (s : List Term)
        → Same (check_premises room prog proofs ctx sub strict name fs ps σ done s) (check_premises room prog proofs ctx sub' strict' name fs ps σ done s)
    unfolding check_premises
    premises-same name [] ps m a σ done s = same_refl
    premises-same name (f ∷ fs) [] m a σ done s = same_refl
    premises-same name (f ∷ fs) (p ∷ ps) m a σ done s =
        same_after (assert_body_proof_normal_form prog name f s) λ _ s₁.
        same-choose (is_container_side_condition prog f) _ _ _ _ s₁
        (λ c. same-bind (record { same = m f (Memᴰ.head refl) c name σ s₁ }) λ τ s₂. premises-same name fs ps (λ g k. m g (Memᴰ.tail k)) (following c a) τ done s₂)
        (λ c. same-bind (first (following c a) done s₁) λ d s₂. same_after (check_fact_matches_proposition room prog name σ f (claim_at proofs p) s₂) λ _ s₃. premises-same name fs ps (λ g k. m g (Memᴰ.tail k)) (alike-rest (following c a)) σ d s₃)
      where
        following : {b : Bool} → is_container_side_condition prog f ≡ b → Alike sub sub' (followed_premises prog (f ∷ fs) (p ∷ ps)) → Alike sub sub' (follow_unless b p (followed_premises prog fs ps))
        following c a = subst (λ (b : Bool). Alike sub sub' (follow_unless b p (followed_premises prog fs ps))) c a

    justification-same : ((r : Rule) → Memᴰ r prog.rules → ModesAlike room prog strict strict' r.facts)
        → (p : ℕ) (q : Proposition) (j : Justification) → Alike sub sub' (followed prog j) → (done : List ℕ) (s : List Term)
        → Same (check_justification room prog proofs ctx sub strict p q j done s) (check_justification room prog proofs ctx sub' strict' p q j done s)
    unfolding check_fiat check_rule check_merge_fn check_trans check_sym check_congr check_container_normalize
    justification-same m p q fiat a done s = same_refl
    justification-same m p q (rule n ps σ) a done s =
        same_or (rule_of prog.rules n) 32 (n ∷ []) s λ r e s₁.
        same_after (check_that (eqb (length r.facts) (length ps)) 27 (p ∷ n ∷ length r.facts ∷ length ps ∷ []) s₁) λ _ s₂.
        same-bind (premises-same n r.facts ps (m r (rule-of prog.rules n r e)) (subst (λ (o : Option Rule). Alike sub sub' (followed_by prog o ps)) e a) (σ ++ ctx.bindings) done s₂) λ b s₃. same_refl
    justification-same m p q (merge_fn f x y) a done s = same-bind (first a done s) λ d s₁. same-bind (second a d s₁) λ e s₂. same_refl
    justification-same m p q (trans x y) a done s = same-bind (first a done s) λ d s₁. same-bind (second a d s₁) λ e s₂. same_refl
    justification-same m p q (symm x) a done s = same-bind (first a done s) λ d s₁. same_refl
    justification-same m p q (congr x i y) a done s = same-bind (first a done s) λ d s₁. same-bind (second a d s₁) λ e s₂. same_refl
    justification-same m p q (container_normalize x) a done s = same-bind (first a done s) λ d s₁. same_refl
    justification-same m p q eval a done s = same_refl

  -- NOTHING ELSE IS FOLLOWED: a step's outcome rests on the outcomes of the proofs that count for its height
  pub followed-alone : (sub sub' : ℕ → List ℕ → Check (List ℕ)) (strict : Bool) (p : ℕ) (q : Proposition) (j : Justification)
      → ((x : ℕ) → Memᴰ x (followed prog j) → (done : List ℕ) (s : List Term) → sub x done s ≡ sub' x done s)
      → (done : List ℕ) (s : List Term) → check_justification room prog proofs ctx sub strict p q j done s ≡ check_justification room prog proofs ctx sub' strict p q j done s
  followed-alone sub sub' strict p q j h done s =
      (justification-same sub sub' strict strict (λ r i x k c name σ t. refl) p q j (record { at = λ x m d t. record { same = h x m d t } }) done s).same

  -- the fuel is the same, or beyond the number, where each reference has a lower number
  abbrev Enough : ℕ → ℕ → ℕ → Type 0
  Enough f g p = (f ≡ g) ⊎ (((x : ℕ) → Below x (references (get_or proofs x no_proof).justification)) × (p < f) × (p < g))

  enough-below : {f g p : ℕ} → Enough (suc f) (suc g) p → (q : ℕ) → Memᴰ q (references (get_or proofs p no_proof).justification) → Enough f g q
  enough-below (inl e) q m = inl (omega arith)
  enough-below {p = p} (inr (lower, h, k)) q m = let l = lower p q m in inr (lower, omega arith, omega arith)

  walk_same : (strict strict' : Bool) → ((r : Rule) → Memᴰ r prog.rules → ModesAlike room prog strict strict' r.facts) → (f g p : ℕ) → Enough f g p → (done : List ℕ) (s : List Term)
      → Same (check_proof_with_context room prog proofs ctx strict f p done s) (check_proof_with_context room prog proofs ctx strict' g p done s)
  unfolding check_proof_with_context
  walk_same strict strict' m zero zero p h done s = same_refl
  walk_same strict strict' m zero (suc g) p (inl e) done s = absurd (omega arith)
  walk_same strict strict' m zero (suc g) p (inr h) done s = let k = h.1 in absurd (omega arith)
  walk_same strict strict' m (suc f) zero p (inl e) done s = absurd (omega arith)
  walk_same strict strict' m (suc f) zero p (inr h) done s = let k = h.2 in absurd (omega arith)
  walk_same strict strict' m (suc f) (suc g) p h done s =
      same-choose (member p done) _ _ _ _ s (λ _. same_refl)
      (λ _. same-bind (justification-same (check_proof_with_context room prog proofs ctx strict f) (check_proof_with_context room prog proofs ctx strict' g) strict strict' m p (claim_at proofs p) (get_or proofs p no_proof).justification
      (record { at = λ q k. walk_same strict strict' m f g q (enough-below h q (followed-within prog (get_or proofs p no_proof).justification q k)) }) done s) λ d s₁. same_refl)

  -- the walk: each reference has a lower number
  pub walk-fuel : ((p : ℕ) → Below p (references (get_or proofs p no_proof).justification)) → (strict : Bool) (f g p : ℕ) → p < f → p < g → (done : List ℕ) (s : List Term)
      → check_proof_with_context room prog proofs ctx strict f p done s ≡ check_proof_with_context room prog proofs ctx strict g p done s
  walk-fuel lower strict f g p h k done s = (walk_same strict strict (λ r i x j c name σ t. refl) f g p (inr (lower, h, k)) done s).same

  -- two modes that agree on the facts of every rule
  pub walk_modes : (strict strict' : Bool) → ((r : Rule) → Memᴰ r prog.rules → ModesAlike room prog strict strict' r.facts) → (f p : ℕ) (done : List ℕ) (s : List Term)
      → check_proof_with_context room prog proofs ctx strict f p done s ≡ check_proof_with_context room prog proofs ctx strict' f p done s
  walk_modes strict strict' m f p done s = (walk_same strict strict' m f f p (inl refl) done s).same
