-- The pairs of an evaluation are those of the values of the expression and of all below it, each with its subterms.
use Prim.Native.Nat.{ℕ, zero, suc, ◌<◌}
use native.Mathlib.Omega.{arith}
use native.Mathlib.Nat.{not-suc-le-zero}
use mathlib.Core.Path.{◌≡◌, refl, sym, ap, subst, ◌∙◌}
use mathlib.Core.Logic.{◌⊎◌, inl, inr, ◌↔◌}
use mathlib.Core.List.Memᴰ
use mathlib.Core.List.{List, [], ◌∷◌, ◌++◌, Memᴰ}
use mathlib.Core.Bool.{false}
use lib.ListN.{length, get_or}
use Rattle.model.specs.Layout.{sizes_of}
use Rattle.model.specs.Cell.{Cell, no_cell}
use Rattle.model.specs.Term.{Term, lit, app, Extends, Below}
use Rattle.model.specs.Program.{Head, literal, variable, constructor, custom, primitive, Proposition, Binding, Program}
use Rattle.model.specs.Decode.{read_head, read_arguments, arguments_by, expr_of}
use Rattle.model.specs.Check.{Outcome, ok, refused, Check, Room}
use Rattle.model.specs.Evaluate.{lookup, primitive_at, subterms_in, same, reflexive, Value, Values, head_value, eval_expr, eval_exprs}
use Rattle.model.proofs.Post.{Post, post-ok, post-map, post-bind, post-result}
use Rattle.model.proofs.Store.{extends-same, extends-then}
use Rattle.model.proofs.Valid.{expressions-lower}
use Rattle.model.proofs.Fuel.{expr-node}
use Rattle.model.proofs.Again as again
use Rattle.model.proofs.Again.{settled-or, added, validated-settled, eval-settled}
use Rattle.marks.specs.Covering.{Under}
use Rattle.marks.proofs.Subterms.{reflexive-under, under-reflexive, under-extends, under_back}
use Rattle.program.specs.Ready.{tables_for, Ready, program_for}
use Rattle.program.specs.Read.{expr_for, arguments_for}
use Rattle.evaluate.specs.Value.{term_outcome, value_of, eval_term, eval_for, Reaches, here, down}
use Rattle.evaluate.specs.Evaluation.{Sane}
use Rattle.evaluate.proofs.Settling.{value-term, same-value}

-- x is the value of e or of an expression below it, or a subterm of one
pub record Valued (args : ℕ → List ℕ) (eval : ℕ → Check ℕ) (s : List Term) (e x : ℕ) : Type 0 where
  pub at : ℕ
  pub reaches : Reaches args at e
  pub term : ℕ
  pub value : eval at s ≡ ok term s
  pub under : Under s x term

-- two statements of one outcome
module _ {A : Type 0} {P Q : A → List Term → Type 0} where
  post-both : (o : Outcome A) → Post o P → Post o Q → Post o (λ a s. P a s × Q a s)
  post-both (ok a s) p q = post-ok (p.holds, q.holds)
  post-both (refused r s) p q = record { holds = p.holds }

-- a reflexive pair has equal sides
reflexive-sides : (s : List Term) (t : ℕ) (q : Proposition) → Memᴰ q (reflexive s t) → q.lhs ≡ q.rhs
unfolding reflexive
reflexive-sides s t q m = let k = Memᴰ.of_map same (subterms_in (suc t) s t) m in
    sym (ap (λ (p : Proposition). p.lhs) k.2) ∙ ap (λ (p : Proposition). p.rhs) k.2

-- a literal and a variable leave their arguments' pairs aside; they have no arguments
abbrev head_pairs : Head → List Proposition → List Proposition
head_pairs (literal l) ps = []
head_pairs (variable x) ps = []
head_pairs (constructor f) ps = ps
head_pairs (custom f) ps = ps
head_pairs (primitive p) ps = ps

head-some : (h : Head) (ps : List Proposition) (q : Proposition) → Memᴰ q (head_pairs h ps) → Memᴰ q ps
head-some (literal l) ps q m = absurd (Memᴰ.not-nil m)
head-some (variable x) ps q m = absurd (Memᴰ.not-nil m)
head-some (constructor f) ps q m = m
head-some (custom f) ps q m = m
head-some (primitive p) ps q m = m

head-all : (c : Cell) (a : ℕ) → Memᴰ a (read_arguments c) → (ps : List Proposition) → head_pairs (read_head c) ps ≡ ps
head-all c a m ps = go c.kind c.words m
  where
    go : (k : ℕ) (ws : List ℕ) → Memᴰ a (read_arguments (record { kind = k; words = ws })) → head_pairs (read_head (record { kind = k; words = ws })) ps ≡ ps
    go zero ws m = absurd (Memᴰ.not-nil m)
    go (suc zero) ws m = absurd (Memᴰ.not-nil m)
    go (suc (suc zero)) ws m = refl
    go (suc (suc (suc zero))) ws m = refl
    go (suc (suc (suc (suc k)))) ws m = refl

module _ (room : Room) (prog : Program) (rule : ℕ) (σ : List Binding) where
  head-pairs : (h : Head) (vs : Values) (s : List Term)
      → Post (head_value room prog rule σ h vs s) (λ v s'. Extends s s' × (v.pairs ≡ head_pairs h vs.pairs ++ reflexive s' v.term))
  unfolding head_value
  head-pairs (literal l) vs s = post-bind (added room (lit l) s) λ t s' m. post-ok (m.0.grows, refl)
  head-pairs (variable x) vs s = post-bind (settled-or (lookup σ x) _ _ s tt) λ t s' m. post-ok (m.grows, refl)
  head-pairs (constructor f) vs s = post-bind (added room (app f vs.terms) s) λ t s' m. post-ok (m.0.grows, refl)
  head-pairs (custom f) vs s = post-bind (added room (app f vs.terms) s) λ t s' m. post-ok (m.0.grows, refl)
  head-pairs (primitive p) vs s = post-bind (validated-settled room prog 51 p vs.terms s tt (primitive_at prog.primitives p).validator) λ t s' m. post-ok (m.grows, refl)

-- expressions whose arguments have lower numbers
module _ (cells : List Cell) (lower : (e : ℕ) → Below e (read_arguments (get_or cells e no_cell))) (room : Room) (prog : Program) (rule : ℕ) (σ : List Binding) where
  abbrev arguments : ℕ → List ℕ
  arguments e = read_arguments (get_or cells e no_cell)

  abbrev eval : ℕ → Check ℕ
  eval k = eval_term false room prog rule σ (expr_of cells k)

  -- what an evaluation of e gives: its pairs are the values, in the store that there is and in every later one
  record Paired (e : ℕ) (s : List Term) (v : Value) (s' : List Term) : Type 0 where
    pub grows : Extends s s'
    pub sane : Sane prog σ s'
    pub inside : v.term < length s'
    pub to : (s'' : List Term) → Extends s' s'' → (x : ℕ) → Memᴰ (same x) v.pairs → Valued arguments eval s'' e x
    pub back : (s'' : List Term) → Extends s' s'' → (x : ℕ) → Valued arguments eval s'' e x → Memᴰ (same x) v.pairs
    pub sides : (q : Proposition) → Memᴰ q v.pairs → q.lhs ≡ q.rhs

  -- the same of several expressions
  record PairedAll (xs : List ℕ) (s : List Term) (vs : Values) (s' : List Term) : Type 0 where
    pub grows : Extends s s'
    pub sane : Sane prog σ s'
    pub to : (s'' : List Term) → Extends s' s'' → (x : ℕ) → Memᴰ (same x) vs.pairs → (a : ℕ) × Memᴰ a xs × Valued arguments eval s'' a x
    pub back : (s'' : List Term) → Extends s' s'' → (a x : ℕ) → Memᴰ a xs → Valued arguments eval s'' a x → Memᴰ (same x) vs.pairs
    pub sides : (q : Proposition) → Memᴰ q vs.pairs → q.lhs ≡ q.rhs

  -- one expression, then the others
  paired-cons : {y : ℕ} {ys : List ℕ} {s s₁ s₂ : List Term} {v : Value} {vs : Values} → Paired y s v s₁ → PairedAll ys s₁ vs s₂
      → PairedAll (y ∷ ys) s (record { terms = v.term ∷ vs.terms; pairs = v.pairs ++ vs.pairs }) s₂
  paired-cons {y} {ys} {s} {s₁} {s₂} {v} {vs} p q = record {
    grows = extends-then p.grows q.grows;
    sane = q.sane;
    to = λ s'' w x m. to_cases s'' w x (Memᴰ.append_cases v.pairs m);
    back = λ s'' w a x m d. back-cases s'' w a x (Memᴰ.cases_cons m) d;
    sides = λ r m. side-cases r (Memᴰ.append_cases v.pairs m);
  }
    where
      to_cases : (s'' : List Term) → Extends s₂ s'' → (x : ℕ) → Memᴰ (same x) v.pairs ⊎ Memᴰ (same x) vs.pairs
          → (a : ℕ) × Memᴰ a (y ∷ ys) × Valued arguments eval s'' a x
      to_cases s'' w x (inl m) = (y, Memᴰ.head refl, p.to s'' (extends-then q.grows w) x m)
      to_cases s'' w x (inr m) = let k = q.to s'' w x m in (k.0, Memᴰ.tail k.1, k.2)

      back-cases : (s'' : List Term) → Extends s₂ s'' → (a x : ℕ) → (a ≡ y) ⊎ Memᴰ a ys → Valued arguments eval s'' a x → Memᴰ (same x) (v.pairs ++ vs.pairs)
      back-cases s'' w a x (inl e) d =
          Memᴰ.append_left vs.pairs (p.back s'' (extends-then q.grows w) x (subst (λ (b : ℕ). Valued arguments eval s'' b x) e d))
      back-cases s'' w a x (inr m) d = Memᴰ.append_right v.pairs (q.back s'' w a x m d)

      side-cases : (r : Proposition) → Memᴰ r v.pairs ⊎ Memᴰ r vs.pairs → r.lhs ≡ r.rhs
      side-cases r (inl m) = p.sides r m
      side-cases r (inr m) = q.sides r m

  paired-all : (xs : List ℕ) → ((a : ℕ) → Memᴰ a xs → (s : List Term) → Sane prog σ s → Post (eval_expr room prog rule σ (expr_of cells a) s) (Paired a s))
      → (s : List Term) → Sane prog σ s → Post (eval_exprs room prog rule σ (arguments_by (expr_of cells) xs) s) (PairedAll xs s)
  unfolding eval_expr
  paired-all [] h s w = post-ok (record {
    grows = extends-same;
    sane = w;
    to = λ s'' x y m. absurd (Memᴰ.not-nil m);
    back = λ s'' x a y m d. absurd (Memᴰ.not-nil m);
    sides = λ q m. absurd (Memᴰ.not-nil m);
  })
  paired-all (y ∷ ys) h s w =
      post-bind (h y (Memᴰ.head refl) s w) λ v s₁ p.
      post-bind (paired-all ys (λ a m. h a (Memᴰ.tail m)) s₁ p.sane) λ vs s₂ q.
      post-ok (paired-cons p q)

  -- an expression's value: its arguments' pairs, and its own
  record Headed (e : ℕ) (s : List Term) (v : Value) (s' : List Term) : Type 0 where
    pub between : List Term
    pub values : Values
    pub arguments : PairedAll (arguments e) s values between
    pub grows : Extends between s'
    pub pairs : v.pairs ≡ head_pairs (read_head (get_or cells e no_cell)) values.pairs ++ reflexive s' v.term

  headed : (e : ℕ) → ((a : ℕ) → Memᴰ a (arguments e) → (s : List Term) → Sane prog σ s → Post (eval_expr room prog rule σ (expr_of cells a) s) (Paired a s))
      → (s : List Term) → Sane prog σ s → Post (eval_expr room prog rule σ (expr_of cells e) s) (Headed e s)
  unfolding eval_expr
  headed e h s w = rw (expr-node cells lower e)
      (post-bind (paired-all (arguments e) h s w) λ vs s₁ p.
      post-map (head-pairs room prog rule σ (read_head (get_or cells e no_cell)) vs s₁) λ v s₂ q.
      record { between = s₁; values = vs; arguments = p; grows = q.0; pairs = q.1 })

  -- its value in a later store
  again-term : (e : ℕ) (v : Value) (s : List Term) → eval_expr room prog rule σ (expr_of cells e) s ≡ ok v s → eval e s ≡ ok v.term s
  unfolding value_of
  again-term e v s q = sym (value-term false room prog rule σ (expr_of cells e) s) ∙ ap term_outcome q

  node-paired : (e : ℕ) (s : List Term) (v : Value) (s' : List Term) → again.Again prog room rule σ (eval_expr room prog rule σ (expr_of cells e)) s v s' → Headed e s v s' → Paired e s v s'
  node-paired e s v s' a h = record {
    grows = a.settled.grows;
    sane = record { ordered = a.sane.ordered; bound = a.sane.bound; rows = a.sane.rows };
    inside = a.inside;
    to = λ s'' w x m. to_cases s'' w x (Memᴰ.append_cases own (subst (Memᴰ (same x)) h.pairs m));
    back = λ s'' w x d. subst (Memᴰ (same x)) (sym h.pairs) (back-cases s'' w x d.at d.term d.value d.under d.reaches);
    sides = λ q m. side-cases q (Memᴰ.append_cases own (subst (Memᴰ q) h.pairs m));
  }
    where
      head : Head
      head = read_head (get_or cells e no_cell)

      own : List Proposition
      own = head_pairs head h.values.pairs

      later : (s'' : List Term) → Extends s' s'' → eval e s'' ≡ ok v.term s''
      later s'' w = again-term e v s'' (a.settled.again s'' w)

      to_cases : (s'' : List Term) → Extends s' s'' → (x : ℕ) → Memᴰ (same x) own ⊎ Memᴰ (same x) (reflexive s' v.term) → Valued arguments eval s'' e x
      to_cases s'' w x (inl m) =
          let k = h.arguments.to s'' (extends-then h.grows w) x (head-some head h.values.pairs (same x) m) in
          record { at = k.2.at; reaches = down k.1 k.2.reaches; term = k.2.term; value = k.2.value; under = k.2.under }
      to_cases s'' w x (inr m) = record {
        at = e;
        reaches = here refl;
        term = v.term;
        value = later s'' w;
        under = under-extends s' s'' a.sane.ordered w x v.term a.inside (reflexive-under s' v.term x m);
      }

      back-cases : (s'' : List Term) → Extends s' s'' → (x k t : ℕ) → eval k s'' ≡ ok t s'' → Under s'' x t → Reaches arguments k e → Memᴰ (same x) (own ++ reflexive s' v.term)
      back-cases s'' w x k t q u (here r) =
          let i : t ≡ v.term = same-value (sym q ∙ ap (λ (j : ℕ). eval j s'') r ∙ later s'' w) in
          Memᴰ.append_right own (under-reflexive s' a.sane.ordered v.term x (under_back s' s'' a.sane.ordered w x v.term a.inside (subst (Under s'' x) i u)))
      back-cases s'' w x k t q u (down {a = b} m r) =
          Memᴰ.append_left (reflexive s' v.term) (subst (Memᴰ (same x)) (sym (head-all (get_or cells e no_cell) b m h.values.pairs))
          (h.arguments.back s'' (extends-then h.grows w) b x m (record { at = k; reaches = r; term = t; value = q; under = u })))

      side-cases : (q : Proposition) → Memᴰ q own ⊎ Memᴰ q (reflexive s' v.term) → q.lhs ≡ q.rhs
      side-cases q (inl m) = h.arguments.sides q (head-some head h.values.pairs q m)
      side-cases q (inr m) = reflexive-sides s' v.term q m

  paired : (n e : ℕ) → e < n → (s : List Term) → Sane prog σ s → Post (eval_expr room prog rule σ (expr_of cells e) s) (Paired e s)
  paired zero e h s w = absurd (not-suc-le-zero h)
  paired (suc n) e h s w = post-map (post-both (eval_expr room prog rule σ (expr_of cells e) s)
      (eval-settled prog room rule σ (expr_of cells e) s (record { ordered = w.ordered; bound = w.bound; rows = w.rows }))
      (headed e (λ a m. let l = lower e a m in paired n a (omega arith)) s w)) λ v s' p. node-paired e s v s' p.0 p.1

module _ {J : List ℕ} (R : Ready J) (room : Room) (rule : ℕ) (σ : List Binding) (e : ℕ) {s : List Term} (w : Sane (program_for J) σ s) where
  lower : (k : ℕ) → Below k (arguments_for J k)
  lower = expressions-lower (sizes_of J) (tables_for J) R.admitted

  result : {v : Value} {s' : List Term} → eval_expr room (program_for J) rule σ (expr_for J e) s ≡ ok v s'
      → Paired (tables_for J).expressions lower room (program_for J) rule σ e s v s'
  result q = post-result (paired (tables_for J).expressions lower room (program_for J) rule σ (suc e) e (omega arith) s w) q

  -- the pairs of an evaluation, by the values below it
  pub pairs-values : {v : Value} {s' : List Term} → eval_expr room (program_for J) rule σ (expr_for J e) s ≡ ok v s'
      → (x : ℕ) → Memᴰ (same x) v.pairs ↔ Valued (arguments_for J) (eval_for false J rule σ room) s' e x
  pairs-values {v} {s'} q x = ((result q).to s' extends-same x, (result q).back s' extends-same x)

  -- each of them is reflexive
  pub pairs-reflexive : {v : Value} {s' : List Term} → eval_expr room (program_for J) rule σ (expr_for J e) s ≡ ok v s'
      → (q : Proposition) → Memᴰ q v.pairs → q.lhs ≡ q.rhs
  pairs-reflexive q = (result q).sides
