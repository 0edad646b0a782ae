-- The two evaluators by their terms alone: the code's definition is theirs; once it gave a value it gives the same one in every later store; a value lies in the store.
use Prim.Native.Nat.{ℕ, ◌<◌}
use mathlib.Core.Path.{◌≡◌, refl, ap, ◌∙◌}
use mathlib.Core.List.{List, [], ◌∷◌, ◌++◌}
use mathlib.Core.Bool.{Bool, true, false, cond}
use lib.ListN.{length}
use Rattle.model.specs.Term.{Term, lit, app, Extends}
use Rattle.model.specs.Program.{Head, literal, variable, constructor, custom, primitive, Expr, node, Exprs, nil, cons, Proposition, Binding, Program}
use Rattle.model.specs.Check.{Outcome, ok, refused, and_then, ◌>>=◌, pure, or_refuse, Room, add_node}
use Rattle.model.specs.Evaluate.{lookup, primitive_at, validated, validated_by, Value, Values, valued, head_value, eval_expr, eval_exprs, fact_head_value, eval_fact_expr, eval_fact_exprs}
use Rattle.model.proofs.Post.{Nonzero, Post, post-ok, post-map, post-bind, post-result}
use Rattle.model.proofs.Sequence.{then_same}
use Rattle.model.proofs.Again as again
use Rattle.model.proofs.Again.{Settled, settled-pure, settled-or, settled-then, added, validated-settled, eval-settled}
use Rattle.evaluate.specs.Value.{term_outcome, value_of, custom_term, head_term, eval_term, eval_terms}
use Rattle.evaluate.specs.Evaluation.{Sane}

-- values' terms alone
abbrev terms_outcome : Outcome Values → Outcome (List ℕ)
terms_outcome (ok vs s) = ok vs.terms s
terms_outcome (refused r s) = refused r s

-- the pairs are left aside
valued-term : (o : Outcome ℕ) (ps : List Proposition) → term_outcome (and_then o (valued ps)) ≡ o
valued-term (ok t s) ps = refl
valued-term (refused r s) ps = refl

module _ (room : Room) (prog : Program) (rule : ℕ) (σ : List Binding) where
  -- in an ordinary fact
  fact-head : (h : Head) (ts : List ℕ) (s : List Term) → fact_head_value room prog rule σ h ts s ≡ head_term true room prog rule σ h ts s
  unfolding fact_head_value head_term
  fact-head (literal l) ts s = refl
  fact-head (variable x) ts s = refl
  fact-head (constructor f) ts s = refl
  fact-head (custom f) ts s = refl
  fact-head (primitive p) ts s = refl

  mutual
    unfolding eval_fact_expr eval_term

    fact-term : (e : Expr) (s : List Term) → eval_fact_expr room prog rule σ e s ≡ eval_term true room prog rule σ e s
    fact-term (node i h es) s = then_same (fact-terms es s) (fact-head h)

    fact-terms : (es : Exprs) (s : List Term) → eval_fact_exprs room prog rule σ es s ≡ eval_terms true room prog rule σ es s
    fact-terms nil s = refl
    fact-terms (cons e es) s = then_same (fact-term e s) λ t s₁. then_same (fact-terms es s₁) λ ts s₂. refl

  -- elsewhere
  plain-head : (h : Head) (vs : Values) (s : List Term) → term_outcome (head_value room prog rule σ h vs s) ≡ head_term false room prog rule σ h vs.terms s
  unfolding head_value head_term
  plain-head (literal l) vs s = valued-term (add_node room (lit l) s) []
  plain-head (variable x) vs s = valued-term (or_refuse (lookup σ x) 45 (rule ∷ x ∷ []) s) []
  plain-head (constructor f) vs s = valued-term (add_node room (app f vs.terms) s) vs.pairs
  plain-head (custom f) vs s = valued-term (add_node room (app f vs.terms) s) vs.pairs
  plain-head (primitive p) vs s = valued-term (validated room prog 51 p vs.terms s) vs.pairs

  plain_then : (o : Outcome Values) (h : Head) → term_outcome (and_then o (head_value room prog rule σ h)) ≡ and_then (terms_outcome o) (head_term false room prog rule σ h)
  plain_then (ok vs s) h = plain-head h vs s
  plain_then (refused r s) h = refl

  plain-cons : (v : Value) (o : Outcome Values)
      → terms_outcome (and_then o (λ vs. pure (record { terms = v.term ∷ vs.terms; pairs = v.pairs ++ vs.pairs }))) ≡ and_then (terms_outcome o) (λ ts. pure (v.term ∷ ts))
  plain-cons v (ok vs s) = refl
  plain-cons v (refused r s) = refl

  plain-first : (o : Outcome Value) (es : Exprs) → ((s : List Term) → terms_outcome (eval_exprs room prog rule σ es s) ≡ eval_terms false room prog rule σ es s)
      → terms_outcome (and_then o (λ v. eval_exprs room prog rule σ es >>= λ vs. pure (record { terms = v.term ∷ vs.terms; pairs = v.pairs ++ vs.pairs })))
      ≡ and_then (term_outcome o) (λ t. eval_terms false room prog rule σ es >>= λ ts. pure (t ∷ ts))
  plain-first (ok v s) es h =
      plain-cons v (eval_exprs room prog rule σ es s) ∙ ap (λ (x : Outcome (List ℕ)). and_then x (λ ts. pure (v.term ∷ ts))) (h s)
  plain-first (refused r s) es h = refl

  mutual
    unfolding eval_expr eval_term

    plain-term : (e : Expr) (s : List Term) → term_outcome (eval_expr room prog rule σ e s) ≡ eval_term false room prog rule σ e s
    plain-term (node i h es) s =
        plain_then (eval_exprs room prog rule σ es s) h ∙ ap (λ (x : Outcome (List ℕ)). and_then x (head_term false room prog rule σ h)) (plain-terms es s)

    plain-terms : (es : Exprs) (s : List Term) → terms_outcome (eval_exprs room prog rule σ es s) ≡ eval_terms false room prog rule σ es s
    plain-terms nil s = refl
    plain-terms (cons e es) s = plain-first (eval_expr room prog rule σ e s) es (plain-terms es)
        ∙ ap (λ (x : Outcome ℕ). and_then x (λ t. eval_terms false room prog rule σ es >>= λ ts. pure (t ∷ ts))) (plain-term e s)

-- the model's evaluators give the term that the code's definition gives
pub value-term : (fact : Bool) (room : Room) (prog : Program) (rule : ℕ) (σ : List Binding) (e : Expr) (s : List Term)
    → value_of fact room prog rule σ e s ≡ eval_term fact room prog rule σ e s
unfolding value_of
value-term true room prog rule σ e s = fact-term room prog rule σ e s
value-term false room prog rule σ e s = plain-term room prog rule σ e s

-- one value
pub same-value : {A : Type 0} {a b : A} {s s' : List Term} → ok a s ≡ ok b s' → a ≡ b
same-value e = cc

-- an outcome, with what it is
module _ {A : Type 0} where
  pub post-self : {P : A → List Term → Type 0} (o : Outcome A) → Post o P → Post o (λ a s. o ≡ ok a s)
  post-self (ok a s) p = post-ok refl
  post-self (refused r s) p = record { holds = p.holds }

-- once there is a value, the same is given in every later store and nothing is added
custom-settled : (fact : Bool) (room : Room) (f : ℕ) (ts : List ℕ) (s : List Term) → Post (custom_term fact room f ts s) (Settled (custom_term fact room f ts) s)
custom-settled true room f ts s = record { holds = tt }
custom-settled false room f ts s = post-map (added room (app f ts) s) λ t s' m. m.0

number-settled : (fact : Bool) → Nonzero {0} (cond fact 47 51)
number-settled true = tt
number-settled false = tt

module _ (fact : Bool) (room : Room) (prog : Program) (rule : ℕ) (σ : List Binding) where
  pub head-settled : (h : Head) (ts : List ℕ) (s : List Term) → Post (head_term fact room prog rule σ h ts s) (Settled (head_term fact room prog rule σ h ts) s)
  unfolding head_term
  head-settled (literal l) ts s = post-map (added room (lit l) s) λ t s' m. m.0
  head-settled (variable x) ts s = settled-or (lookup σ x) _ _ s tt
  head-settled (constructor f) ts s = post-map (added room (app f ts) s) λ t s' m. m.0
  head-settled (custom f) ts s = custom-settled fact room f ts s
  head-settled (primitive p) ts s = validated-settled room prog (cond fact 47 51) p ts s (number-settled fact) (primitive_at prog.primitives p).validator

  mutual
    unfolding eval_term

    pub term-settled : (e : Expr) (s : List Term) → Post (eval_term fact room prog rule σ e s) (Settled (eval_term fact room prog rule σ e) s)
    term-settled (node i h es) s =
        post-bind (terms-settled es s) λ ts s₁ m.
        post-map (head-settled h ts s₁) λ t s₂ n. settled-then (head_term fact room prog rule σ h) m n

    terms-settled : (es : Exprs) (s : List Term) → Post (eval_terms fact room prog rule σ es s) (Settled (eval_terms fact room prog rule σ es) s)
    terms-settled nil s = post-ok settled-pure
    terms-settled (cons e es) s =
        post-bind (term-settled e s) λ t s₁ m.
        post-bind (terms-settled es s₁) λ ts s₂ n.
        post-ok (settled-then (λ a. eval_terms fact room prog rule σ es >>= λ as'. pure (a ∷ as')) m (settled-then (λ as'. pure (t ∷ as')) n settled-pure))

  -- a second evaluation
  pub term-again : (e : Expr) (s s' s'' : List Term) (t : ℕ) → eval_term fact room prog rule σ e s ≡ ok t s' → Extends s' s'' → eval_term fact room prog rule σ e s'' ≡ ok t s''
  term-again e s s' s'' t q x = (post-result (term-settled e s) q).again s'' x

module _ (room : Room) (prog : Program) (rule : ℕ) (σ : List Binding) where
  -- what has a value in an ordinary fact has the same elsewhere
  validated-plain : (p : ℕ) (ts : List ℕ) (s : List Term) (b : Bool) → Post (validated_by room prog 47 p ts b s) (λ t s'. validated_by room prog 51 p ts b s ≡ ok t s')
  validated-plain p ts s false = record { holds = tt }
  validated-plain p ts s true = post-self (validated_by room prog 47 p ts true s) (validated-settled room prog 47 p ts s tt true)

  head_plain : (h : Head) (ts : List ℕ) (s : List Term) → Post (head_term true room prog rule σ h ts s) (λ t s'. head_term false room prog rule σ h ts s ≡ ok t s')
  unfolding head_term
  head_plain (literal l) ts s = post-self (add_node room (lit l) s) (added room (lit l) s)
  head_plain (variable x) ts s = post-self (or_refuse (lookup σ x) 45 (rule ∷ x ∷ []) s) (settled-or (lookup σ x) _ _ s tt)
  head_plain (constructor f) ts s = post-self (add_node room (app f ts) s) (added room (app f ts) s)
  head_plain (custom f) ts s = record { holds = tt }
  head_plain (primitive p) ts s = validated-plain p ts s (primitive_at prog.primitives p).validator

  mutual
    unfolding eval_term

    fact-plain : (e : Expr) (s : List Term) → Post (eval_term true room prog rule σ e s) (λ t s'. eval_term false room prog rule σ e s ≡ ok t s')
    fact-plain (node i h es) s =
        post-bind (facts-plain es s) λ ts s₁ q.
        post-map (head_plain h ts s₁) λ t s₂ r. ap (λ (o : Outcome (List ℕ)). and_then o (head_term false room prog rule σ h)) q ∙ r

    facts-plain : (es : Exprs) (s : List Term) → Post (eval_terms true room prog rule σ es s) (λ ts s'. eval_terms false room prog rule σ es s ≡ ok ts s')
    facts-plain nil s = post-ok refl
    facts-plain (cons e es) s =
        post-bind (fact-plain e s) λ t s₁ q.
        post-bind (facts-plain es s₁) λ ts s₂ r.
        post-ok (ap (λ (o : Outcome ℕ). and_then o (λ a. eval_terms false room prog rule σ es >>= λ as'. pure (a ∷ as'))) q
        ∙ ap (λ (o : Outcome (List ℕ)). and_then o (λ as'. pure (t ∷ as'))) r)

  -- where a value leads
  abbrev Inside : List Term → ℕ → List Term → Type 0
  Inside s t s' = Extends s s' × Sane prog σ s' × (t < length s')

  plain-sane : (e : Expr) (s : List Term) → Sane prog σ s → Post (eval_term false room prog rule σ e s) (Inside s)
  plain-sane e s w = rw (← plain-term room prog rule σ e s) (go (eval_expr room prog rule σ e s) (eval-settled prog room rule σ e s (record { ordered = w.ordered; bound = w.bound; rows = w.rows })))
    where
      go : (o : Outcome Value) → Post o (again.Again prog room rule σ (eval_expr room prog rule σ e) s) → Post (term_outcome o) (Inside s)
      go (ok v s') p = let a = p.holds in post-ok (a.settled.grows, record { ordered = a.sane.ordered; bound = a.sane.bound; rows = a.sane.rows }, a.inside)
      go (refused r s') p = record { holds = p.holds }

-- the store grew, it is sane again, and the value lies in it
pub term-sane : (fact : Bool) (room : Room) (prog : Program) (rule : ℕ) (σ : List Binding) (e : Expr) {s : List Term} → Sane prog σ s
    → Post (eval_term fact room prog rule σ e s) (λ t s'. Extends s s' × Sane prog σ s' × (t < length s'))
term-sane false room prog rule σ e {s} w = plain-sane room prog rule σ e s w
term-sane true room prog rule σ e {s} w = post-map (fact-plain room prog rule σ e s) λ t s' q. post-result (plain-sane room prog rule σ e s w) q
