-- Side conditions, ordinary facts, actions, merges and normalisation on the store agree with those on trees.
use Prim.Native.Nat.{ℕ}
use mathlib.Core.Path.{◌≡◌, refl, sym, ap₂, subst, ◌∙◌}
use mathlib.Core.List.{List, [], ◌∷◌, ◌++◌}
use mathlib.Core.Bool.{Bool, true, false, ◌&&◌, true≢false}
use mathlib.Core.Option.{Option, none, some}
use lib.Dec.{eqb}
use Rattle.model.specs.Term.{Term, get_term}
use Rattle.model.specs.Program.{name_merge_function, Expr, Proposition, Binding, Program, Fact, equal, bare, Action, bind, union, run, idle}
use Rattle.model.specs.Check.{ok, and_then, pure, or_refuse, check_that, Room, ◌>>?◌}
use Rattle.model.specs.Evaluate.{lookup, eval_expr}
use Rattle.model.specs.Fact.{head_of, args_of, variable_of, FunctionFact, function_fact, bind_output, compare_sides, eval_side_by, check_side_condition, wanted_equality, wanted, matches_equality, matches}
use Rattle.model.specs.Action.{ActionContext, process_action, process_actions, merge_of, merge_bindings, run_merge}
use Rattle.model.specs.Normalize.{as_app, normaliser_of, unwrap_or, normalize_by, normalize_app, normalize_container}
use Rattle.model.specs.Tree.{tree_validate, Tree, leaf, named, apply, Trees, tnil, tcons, same_tree, TreePair, TreeBinding, TreeRow, tree_lookup, both, snoc, tree_bind_output, tree_compare_sides, TreeContext, tree_merge_bindings, tree_eval, tree_wanted_equality, tree_wanted, tree_side_by, tree_condition, tree_action, tree_actions, tree_merge, tree_normal_by, tree_normal}
use Rattle.model.proofs.Tests.{eq_of, eqb_same, tree-eq, tree-same}
use Rattle.model.proofs.Represent.{Rep, Reps, Keeps, Distinct, rep-keeps, rep-tree, rep-one}
use Rattle.model.proofs.Post.{Nonzero}
use Rattle.model.proofs.Agree.{Agree, agree-ok, agree-none, agree-map, agree-bind}
use Rattle.model.proofs.Evaluation.{valid-agrees, Binds, bnil, bcons, binds-keeps, Maybe, lookup-same, Stands, Covers, covers-keeps, covers-append, covers-cons, covers-none, stands_same, World, After, keeps, stay, then, Made, Valued, add_apply, made-or, eval-agrees, fact-eval-agrees, fact_evals_agree}

-- two numbers are equal just when their trees are
pub same_test : {s : List Term} → Distinct s → (A B : Tree) (a b : ℕ) → Rep A s a → Rep B s b → eqb a b ≡ same_tree A B
same_test {s} d A B a b p q = go (eqb a b) refl (same_tree A B) refl
  where
    go : (c : Bool) → eqb a b ≡ c → (e : Bool) → same_tree A B ≡ e → eqb a b ≡ same_tree A B
    go true e true f = e ∙ sym f
    go false e false f = e ∙ sym f
    go true e false f = absurd (true≢false (sym (subst (λ (X : Tree). same_tree A X ≡ true) (rep-tree A B s b (subst (Rep A s) (eq_of a b e) p) q) (tree-same A)) ∙ f))
    go false e true f = absurd (true≢false (sym (subst (λ (x : ℕ). eqb a x ≡ true) (rep-one B d a b (subst (λ (X : Tree). Rep X s a) (tree-eq A B f) p) q) (eqb_same a)) ∙ e))

-- one more child behind
pub reps_snoc : (TS : Trees) (ts : List ℕ) (T : Tree) (t : ℕ) (s : List Term) → Reps TS s ts → Rep T s t → Reps (snoc TS T) s (ts ++ (t ∷ []))
reps_snoc tnil [] T t s r p = (p, tt)
reps_snoc tnil (u ∷ ts) T t s r p = absurd r
reps_snoc (tcons U TS) [] T t s r p = absurd r
reps_snoc (tcons U TS) (u ∷ ts) T t s r p = (r.0, reps_snoc TS ts T t s r.1 p)

maybe-keeps : (O : Option Tree) {s s' : List Term} (o : Option ℕ) → Keeps s s' → Maybe O s o → Maybe O s' o
maybe-keeps none none k m = tt
maybe-keeps none (some t) k m = m
maybe-keeps (some T) none k m = m
maybe-keeps (some T) (some t) k m = rep-keeps T k t m

-- of a bare fact the two trees wanted are one
abbrev pub Form : Fact → TreePair → Type 0
Form (equal i l r) W = Unit {0}
Form (bare i e) W = W.left ≡ W.right

-- the trees' side of `matches`: the pair wanted, where the pair proved is that one
abbrev pub only_if : Bool → TreePair → Option TreePair
only_if true W = some W
only_if false W = none

abbrev pub tree_matches : Fact → TreePair → TreePair → Option TreePair
tree_matches (equal i l r) Q W = only_if (same_tree Q.left W.left && same_tree Q.right W.right) W
tree_matches (bare i e) Q W = only_if (same_tree Q.right W.right) W

module _ (prog : Program) (rows : List TreeRow) where
  -- a side of a condition
  record Sided (s : List Term) (t : Option ℕ) (s' : List Term) (T : Option Tree) : Type 0 where
    pub after : After prog rows s s'
    pub maybe : Maybe T s' t

  -- the bindings after a condition
  pub record Bound (s : List Term) (τ : List Binding) (s' : List Term) (T' : List TreeBinding) : Type 0 where
    pub after : After prog rows s s'
    pub binds : Binds s' T' τ

  -- the pair that a fact wants
  pub record Wanted (f : Fact) (s : List Term) (w : Proposition) (s' : List Term) (W : TreePair) : Type 0 where
    pub after : After prog rows s s'
    pub stands : Stands W s' w
    pub form : Form f W

  -- the bindings and pairs after actions
  pub record Acted (s : List Term) (c : ActionContext) (s' : List Term) (C : TreeContext) : Type 0 where
    pub after : After prog rows s s'
    pub binds : Binds s' C.bindings c.bindings
    pub pairs : Covers C.pairs s' c.pairs

  output-agrees : (rule i : ℕ) (Σ' : List TreeBinding) (σ : List Binding) (s : List Term) → World prog rows s → Binds s Σ' σ → (x : Option ℕ) (T : Tree) (t : ℕ) → Rep T s t
      → Agree (bind_output rule i σ x t s) (tree_bind_output Σ' x T) (Bound s)
  output-agrees rule i Σ' σ s w b none T t r = agree-none tt
  output-agrees rule i Σ' σ s w b (some x) T t r = agree-ok (record { after = stay prog rows w; binds = bcons refl r b })

  tested : (rule i a b : ℕ) (Σ' : List TreeBinding) (σ : List Binding) (s : List Term) → World prog rows s → Binds s Σ' σ → (c d : Bool) → c ≡ d
      → Agree (and_then (check_that c 42 (rule ∷ i ∷ a ∷ b ∷ []) s) (λ _. pure σ)) (elim d [ true ↦ some Σ' | false ↦ none ]) (Bound s)
  unfolding check_that
  tested rule i a b Σ' σ s w bs true true e = agree-ok (record { after = stay prog rows w; binds = bs })
  tested rule i a b Σ' σ s w bs false false e = agree-none tt
  tested rule i a b Σ' σ s w bs true false e = absurd (true≢false e)
  tested rule i a b Σ' σ s w bs false true e = absurd (true≢false (sym e))

  sides-agree : (rule i : ℕ) (Σ' : List TreeBinding) (σ : List Binding) (s : List Term) → World prog rows s → Binds s Σ' σ
      → (lv : Option ℕ) (A : Option Tree) (a : Option ℕ) → Maybe A s a → (rv : Option ℕ) (B : Option Tree) (b : Option ℕ) → Maybe B s b
      → Agree (compare_sides rule i σ lv a rv b s) (tree_compare_sides Σ' lv A rv B) (Bound s)
  unfolding compare_sides tree_compare_sides
  sides-agree rule i Σ' σ s w bs lv none none p rv none none q = agree-none tt
  sides-agree rule i Σ' σ s w bs lv none none p rv none (some b) q = absurd q
  sides-agree rule i Σ' σ s w bs lv none none p rv (some B) none q = absurd q
  sides-agree rule i Σ' σ s w bs lv none none p rv (some B) (some b) q = output-agrees rule i Σ' σ s w bs lv B b q
  sides-agree rule i Σ' σ s w bs lv none (some a) p rv B b q = absurd p
  sides-agree rule i Σ' σ s w bs lv (some A) none p rv B b q = absurd p
  sides-agree rule i Σ' σ s w bs lv (some A) (some a) p rv none none q = output-agrees rule i Σ' σ s w bs rv A a p
  sides-agree rule i Σ' σ s w bs lv (some A) (some a) p rv none (some b) q = absurd q
  sides-agree rule i Σ' σ s w bs lv (some A) (some a) p rv (some B) none q = absurd q
  sides-agree rule i Σ' σ s w bs lv (some A) (some a) p rv (some B) (some b) q =
      tested rule i a b Σ' σ s w bs _ _ (same_test w.distinct A B a b p q)

  module _ (room : Room) (rule : ℕ) where
    side-agrees : (Σ' : List TreeBinding) (σ : List Binding) (e : Expr) (x : Option ℕ) (s : List Term) → World prog rows s → Binds s Σ' σ
        → Agree (eval_side_by room prog rule σ e x s) (tree_side_by prog rows Σ' e x) (Sided s)
    side-agrees Σ' σ e (some x) s w b = agree-ok (record { after = stay prog rows w; maybe = lookup-same b x })
    side-agrees Σ' σ e none s w b =
        agree-bind (eval-agrees prog rows room rule e Σ' σ s w b) λ v s' V' m. agree-ok (record { after = m.after; maybe = m.rep })

    pub condition-agrees : (strict : Bool) (Σ' : List TreeBinding) (σ : List Binding) (f : Fact) (s : List Term) → World prog rows s → Binds s Σ' σ
        → Agree (check_side_condition room prog rule σ strict f s) (tree_condition prog rows strict Σ' f) (Bound s)
    unfolding check_side_condition tree_condition
    condition-agrees false Σ' σ (bare i e) s w b = agree-ok (record { after = stay prog rows w; binds = b })
    condition-agrees true Σ' σ (bare i e) s w b =
        agree-bind (side-agrees Σ' σ e (variable_of (head_of e)) s w b) λ x s₁ X m. agree-ok (record { after = m.after; binds = binds-keeps (keeps prog rows m.after) b })
    condition-agrees strict Σ' σ (equal i l r) s w b =
        agree-bind (side-agrees Σ' σ l (variable_of (head_of l)) s w b) λ x s₁ X m.
        agree-bind (side-agrees Σ' σ r (variable_of (head_of r)) s₁ m.after.world (binds-keeps (keeps prog rows m.after) b)) λ y s₂ Y n.
        agree-map (sides-agree rule i Σ' σ s₂ n.after.world (binds-keeps (keeps prog rows (then prog rows m.after n.after)) b)
        (variable_of (head_of l)) X x (maybe-keeps X x (keeps prog rows n.after) m.maybe) (variable_of (head_of r)) Y y n.maybe) λ τ s₃ T' o.
        record { after = then prog rows m.after (then prog rows n.after o.after); binds = o.binds }

    equality-agrees : (Σ' : List TreeBinding) (σ : List Binding) (i : ℕ) (l r : Expr) (f : Option FunctionFact) (s : List Term) → World prog rows s → Binds s Σ' σ
        → Agree (wanted_equality room prog rule σ l r f s) (tree_wanted_equality prog rows Σ' l r f) (Wanted (equal i l r) s)
    unfolding wanted_equality
    equality-agrees Σ' σ i l r (some f) s w b =
        agree-bind (made-or prog rows (tree_lookup Σ' f.variable) (lookup σ f.variable) s w (lookup-same b f.variable) 45 (rule ∷ f.variable ∷ []) tt) λ v s₀ X k.
        agree-bind (fact_evals_agree prog rows room rule (args_of l) Σ' σ s₀ k.after.world (binds-keeps (keeps prog rows k.after) b)) λ ts s₁ TS m.
        agree-bind {O = some (apply f.function (snoc TS X))} {F = λ T. some (both T)}
        (add_apply prog rows room f.function (snoc TS X) (ts ++ (v ∷ [])) s₁ m.after.world (reps_snoc TS ts X v s₁ m.reps (rep-keeps X (keeps prog rows m.after) v k.rep))) λ t s₂ T n.
        agree-ok (record { after = then prog rows k.after (then prog rows m.after n.after); stands = stands_same n.rep; form = tt })
    equality-agrees Σ' σ i l r none s w b =
        agree-bind (fact-eval-agrees prog rows room rule l Σ' σ s w b) λ x s₁ X m.
        agree-bind (fact-eval-agrees prog rows room rule r Σ' σ s₁ m.after.world (binds-keeps (keeps prog rows m.after) b)) λ y s₂ Y n.
        agree-ok (record {
          after = then prog rows m.after n.after;
          stands = record { left = rep-keeps X (keeps prog rows n.after) x m.rep; right = n.rep };
          form = tt;
        })

    pub wanted-agrees : (Σ' : List TreeBinding) (σ : List Binding) (f : Fact) (s : List Term) → World prog rows s → Binds s Σ' σ
        → Agree (wanted room prog rule σ f s) (tree_wanted prog rows Σ' f) (Wanted f s)
    unfolding wanted tree_wanted
    wanted-agrees Σ' σ (equal i l r) s w b = equality-agrees Σ' σ i l r (function_fact l r) s w b
    wanted-agrees Σ' σ (bare i e) s w b =
        agree-bind (fact-eval-agrees prog rows room rule e Σ' σ s w b) λ t s₁ T m.
        agree-ok (record { after = m.after; stands = stands_same m.rep; form = refl })

    action-agrees : (C : TreeContext) (c : ActionContext) (a : Action) (s : List Term) → World prog rows s
        → Binds s C.bindings c.bindings → Covers C.pairs s c.pairs
        → Agree (process_action room prog rule c a s) (tree_action prog rows C a) (Acted s)
    action-agrees C c (bind x e) s w b k =
        agree-bind (eval-agrees prog rows room rule e C.bindings c.bindings s w b) λ v s₁ V' m.
        agree-ok (record {
          after = m.after;
          binds = bcons refl m.rep (binds-keeps (keeps prog rows m.after) b);
          pairs = covers-append (covers-keeps (keeps prog rows m.after) k) m.pairs;
        })
    action-agrees C c (union l r) s w b k =
        agree-bind (eval-agrees prog rows room rule l C.bindings c.bindings s w b) λ u s₁ U m.
        agree-bind (eval-agrees prog rows room rule r C.bindings c.bindings s₁ m.after.world (binds-keeps (keeps prog rows m.after) b)) λ v s₂ V' n.
        let p = rep-keeps U.tree (keeps prog rows n.after) u.term m.rep in
        agree-ok (record {
          after = then prog rows m.after n.after;
          binds = binds-keeps (keeps prog rows (then prog rows m.after n.after)) b;
          pairs = covers-append (covers-append (covers-append (covers-keeps (keeps prog rows (then prog rows m.after n.after)) k) (covers-keeps (keeps prog rows n.after) m.pairs)) n.pairs)
              (covers-cons (record { left = U.tree; right = V'.tree }) (record { left = p; right = n.rep })
              (covers-cons (record { left = V'.tree; right = U.tree }) (record { left = n.rep; right = p }) covers-none));
        })
    action-agrees C c (run e) s w b k =
        agree-bind (eval-agrees prog rows room rule e C.bindings c.bindings s w b) λ v s₁ V' m.
        agree-ok (record {
          after = m.after;
          binds = binds-keeps (keeps prog rows m.after) b;
          pairs = covers-append (covers-keeps (keeps prog rows m.after) k) m.pairs;
        })
    action-agrees C c idle s w b k = agree-ok (record { after = stay prog rows w; binds = b; pairs = k })

    pub actions-agree : (as' : List Action) (C : TreeContext) (c : ActionContext) (s : List Term) → World prog rows s
        → Binds s C.bindings c.bindings → Covers C.pairs s c.pairs
        → Agree (process_actions room prog rule as' c s) (tree_actions prog rows as' C) (Acted s)
    unfolding process_actions tree_actions
    actions-agree [] C c s w b k = agree-ok (record { after = stay prog rows w; binds = b; pairs = k })
    actions-agree (a ∷ as') C c s w b k =
        agree-bind (action-agrees C c a s w b k) λ d s₁ D m.
        agree-map (actions-agree as' D d s₁ m.after.world m.binds m.pairs) λ e s₂ E n.
        record { after = then prog rows m.after n.after; binds = n.binds; pairs = n.pairs }

  pub merge-agrees : (room : Room) (f old new : ℕ) (O N : Tree) (s : List Term) → World prog rows s → Rep O s old → Rep N s new
      → Agree (run_merge room prog f old new s) (tree_merge prog rows f O N) (Valued prog rows s)
  unfolding run_merge tree_merge or_refuse
  merge-agrees room f old new O N s w p q = go (merge_of prog.functions f)
    where
      go : (m : Option Expr) → Agree (and_then (or_refuse m 43 (f ∷ []) s) (eval_expr room prog name_merge_function (merge_bindings old new)))
          (m >>? λ e. tree_eval prog rows e (tree_merge_bindings O N)) (Valued prog rows s)
      go none = agree-none tt
      go (some e) = eval-agrees prog rows room name_merge_function e (tree_merge_bindings O N) (merge_bindings old new) s w (bcons refl p (bcons refl q bnil))

  -- the pair proved is the one wanted
  pub matches-agrees : (rule : ℕ) (f : Fact) (w q : Proposition) (W Q : TreePair) (s : List Term) → Distinct s → Stands W s w → Stands Q s q
      → Agree (matches rule f w q s) (tree_matches f Q W) (λ _ s' X. (s' ≡ s) × (X ≡ W))
  unfolding matches check_that
  matches-agrees rule f w q W Q s d x y = go f (same_test d Q.left W.left q.lhs w.lhs y.left x.left) (same_test d Q.right W.right q.rhs w.rhs y.right x.right)
    where
      that : (n : ℕ) → Nonzero {0} n → (fs : List ℕ) (a b : Bool) → a ≡ b → Agree (check_that a n fs s) (only_if b W) (λ _ s' X. (s' ≡ s) × (X ≡ W))
      that n z fs true true e = agree-ok (refl, refl)
      that n z fs false false e = agree-none z
      that n z fs true false e = absurd (true≢false e)
      that n z fs false true e = absurd (true≢false (sym e))

      equality : (i : ℕ) (g : Option FunctionFact) (b : Bool) → (eqb q.lhs w.lhs && eqb q.rhs w.rhs) ≡ b
          → Agree (matches_equality rule i g w q s) (only_if b W) (λ _ s' X. (s' ≡ s) × (X ≡ W))
      equality i none b e = that 29 tt _ _ b e
      equality i (some g) b e = that 28 tt _ _ b e

      go : (f : Fact) → eqb q.lhs w.lhs ≡ same_tree Q.left W.left → eqb q.rhs w.rhs ≡ same_tree Q.right W.right
          → Agree (matches rule f w q s) (tree_matches f Q W) (λ _ s' X. (s' ≡ s) × (X ≡ W))
      go (equal i l r) a b = equality i (function_fact l r) _ (ap₂ ◌&&◌ a b)
      go (bare i e) a b = that 30 tt _ _ _ b

  -- the normal form of a number has the normal form of its tree
  pub normal-agrees : (room : Room) (T : Tree) (t : ℕ) (s : List Term) → World prog rows s → Rep T s t
      → Agree (normalize_container room prog t s) (some (tree_normal prog rows T)) (Made prog rows s)
  unfolding normalize_container
  normal-agrees room T t s w r = go T r
    where
      by : (ts : Trees) (xs : List ℕ) → Reps ts s xs → (U : Tree) → Rep U s t → (o : Option ℕ)
          → Agree (normalize_by room prog t xs o s) (some (tree_normal_by prog rows ts U o)) (Made prog rows s)
      by ts xs k U u none = agree-ok (record { after = stay prog rows w; rep = u })
      by ts xs k U u (some p) =
          agree-bind {O = some (tree_validate prog rows p ts)} {F = λ O. some (unwrap_or O U)} (valid-agrees prog rows room p ts xs s w k) λ o s' O m. found s' m.after O o m.maybe
        where
          found : (s' : List Term) → After prog rows s s' → (O : Option Tree) (o : Option ℕ) → Maybe O s' o → Agree (ok (unwrap_or o t) s') (some (unwrap_or O U)) (Made prog rows s)
          found s' a none none m = agree-ok (record { after = a; rep = rep-keeps U (keeps prog rows a) t u })
          found s' a none (some v) m = absurd m
          found s' a (some X) none m = absurd m
          found s' a (some X) (some v) m = agree-ok (record { after = a; rep = m })

      go : (T : Tree) → Rep T s t → Agree (normalize_app room prog t (as_app (get_term s t)) s) (some (tree_normal prog rows T)) (Made prog rows s)
      go (leaf l) r = rw r (agree-ok (record { after = stay prog rows w; rep = r }))
      go (named x) r = rw r (agree-ok (record { after = stay prog rows w; rep = r }))
      go (apply f ts) r = rw r.1 (by ts r.0 r.2 (apply f ts) r (normaliser_of prog.normalisers f))
