-- Each step of the walk relates what it accepts, in every closed relation.
use Prim.Native.Nat.{ℕ, zero, suc, ◌<◌}
use native.Mathlib.Omega.{arith}
use native.Mathlib.Nat.{not-suc-le-zero, le_of_suc-le-suc}
use native.Mathlib.Decide.{dec_lt}
use mathlib.Core.Path.{◌≡◌, refl, sym, ap, ap₂, subst, subst₂, ◌∙◌}
use mathlib.Core.Logic.{◌⊎◌, inl, inr}
use mathlib.Core.List.Memᴰ
use mathlib.Core.List.{List, [], ◌∷◌, ◌++◌, Memᴰ}
use mathlib.Core.Bool.{Bool, true, false, ◌&&◌}
use mathlib.Core.Option.{Option, none, some, none-ne-some, some-injective}
use lib.ListN.{length, get_or, set, get_or-eq_default}
use lib.Dec.{eqb}
use Rattle.model.specs.Term.{Term, Literal, lit, var, app, get_term}
use Rattle.model.specs.Program.{Proposition, Binding, Program, Fact, equal, bare, Rule, Proof, Justification, fiat, rule, merge_fn, trans, symm, congr, container_normalize, eval, substitution, Job}
use Rattle.model.specs.Check.{Check, and_then, pure, Room, add_node}
use Rattle.model.specs.Evaluate.{same}
use Rattle.model.specs.Fact.{Offence, primitive_non_normal_arg, container_primitive_not_side_condition, fact_offence, no_offence, assert_body_proof_normal_form, is_container_side_condition, check_fact_matches_proposition}
use Rattle.model.specs.Action.{ActionContext, start_context, same_proposition, among, check_rule_produces_equality}
use Rattle.model.specs.Normalize.{App, as_app}
use Rattle.model.specs.Walk.{no_proof, claim_at, member, rule_of, is_literal, last, front, check_premises, check_rule, check_views, check_both_apps, check_merge_fn, check_trans, check_sym, check_congr, check_container_normalize, check_fiat, check_justification, check_proof_with_context}
use Rattle.model.specs.Tree.{Tree, leaf, named, apply, Trees, tnil, tcons, same_tree, tree_of, TreePair, TreeBinding, TreeRow, tree_rows, TreeContext, tree_start, snoc, both, tree_globals, tree_wanted, tree_normal}
use Rattle.model.specs.Relation.{child, replaced, FactsHold, done, side, premise, ClosedFor}
use Rattle.model.proofs.Tests.{or_cases, eq_of, lt_of, and_left, and_right, words-eq, tree-eq, never}
use Rattle.model.proofs.Represent.{Rep, Reps, rep-keeps, reps_keeps, rep-tree, reps_tree, head_of, args_of}
use Rattle.model.proofs.Post.{Post, post-ok, post-map, post-bind, or-bind, same-bind, that-bind, post-that, post-choose}
use Rattle.model.proofs.Agree.{agree-post}
use Rattle.model.proofs.Evaluation.{Binds, binds-keeps, binds-append, Stands, Found, Covers, covers-keeps, covers-none, covers-cons, stands_same, World, After, keeps, stay, then, Made, add_apply}
use Rattle.model.proofs.Facts.{Form, tree_matches, only_if, wanted-agrees, matches-agrees, condition-agrees, actions-agree, merge-agrees, normal-agrees, reps_snoc}
use Rattle.model.proofs.Fuel.{rule-of}
use Rattle.model.proofs.Valid.{Valid, tree-rep, tree_bindings, tree-binds}

pub among-member : (q : Proposition) (qs : List Proposition) → among q qs ≡ true → Memᴰ q qs
among-member q [] e = never e
among-member q (r ∷ rs) e = go (or_cases (same_proposition q r) (among q rs) e) (among-member q rs)
  where
    go : (same_proposition q r ≡ true) ⊎ (among q rs ≡ true) → (among q rs ≡ true → Memᴰ q rs) → Memᴰ q (r ∷ rs)
    go (inl h) k =
        let l = eq_of q.lhs r.lhs (and_left _ _ h) in
        let m = eq_of q.rhs r.rhs (and_right (eqb q.lhs r.lhs) _ h) in
        Memᴰ.head (λ i. record { lhs = l i; rhs = m i })
    go (inr h) k = Memᴰ.tail (k h)

member-mem : (p : ℕ) (qs : List ℕ) → member p qs ≡ true → Memᴰ p qs
member-mem p [] e = never e
member-mem p (q ∷ qs) e = go (or_cases (eqb p q) (member p qs) e) (member-mem p qs)
  where
    go : (eqb p q ≡ true) ⊎ (member p qs ≡ true) → (member p qs ≡ true → Memᴰ p qs) → Memᴰ p (q ∷ qs)
    go (inl h) k = Memᴰ.head (eq_of p q h)
    go (inr h) k = Memᴰ.tail (k h)

literal-of : (o : Option Term) → is_literal o ≡ true → (l : Literal) × (o ≡ some (lit l))
literal-of none e = never e
literal-of (some (lit l)) e = (l, refl)
literal-of (some (var x)) e = never e
literal-of (some (app f xs)) e = never e

app_of : (o : Option Term) (a : App) → as_app o ≡ some a → o ≡ some (app a.head a.args)
app_of none a e = absurd (none-ne-some a e)
app_of (some (lit l)) a e = absurd (none-ne-some a e)
app_of (some (var x)) a e = absurd (none-ne-some a e)
app_of (some (app f xs)) a e = ap (λ (b : App). some (app b.head b.args)) (some-injective _ a e)

-- the tree of a number that is an application
record Applied (T : Tree) (s : List Term) (f : ℕ) (xs : List ℕ) : Type 0 where
  pub trees : Trees
  pub is : T ≡ apply f trees
  pub reps : Reps trees s xs

rep-apply : (T : Tree) (s : List Term) (t f : ℕ) (xs : List ℕ) → Rep T s t → get_term s t ≡ some (app f xs) → Applied T s f xs
rep-apply (leaf l) s t f xs r e = absurd (let z : ◌≡◌ {A = ℕ} 0 1 = cc in omega arith)
rep-apply (named x) s t f xs r e = absurd (let z : ◌≡◌ {A = ℕ} 0 1 = cc in omega arith)
rep-apply (apply g ts) s t f xs r e = record {
  trees = ts;
  is = ap (λ (h : ℕ). apply h ts) (head_of g f r.0 xs r.1 e);
  reps = subst (Reps ts s) (args_of g f r.0 xs r.1 e) r.2;
}

record Child (TS : Trees) (s : List Term) (i x : ℕ) : Type 0 where
  pub tree : Tree
  pub is : child TS i ≡ some tree
  pub rep : Rep tree s x

child-of : (TS : Trees) (s : List Term) (xs : List ℕ) (i : ℕ) → Reps TS s xs → i < length xs → Child TS s i (get_or xs i 0)
child-of tnil s [] i r h = absurd (not-suc-le-zero h)
child-of tnil s (x ∷ xs) i r h = absurd r
child-of (tcons T TS) s [] i r h = absurd r
child-of (tcons T TS) s (x ∷ xs) zero r h = record { tree = T; is = refl; rep = r.0 }
child-of (tcons T TS) s (x ∷ xs) (suc i) r h = let c = child-of TS s xs i r.1 (le_of_suc-le-suc h) in record { tree = c.tree; is = c.is; rep = c.rep }

reps_set : (TS : Trees) (s : List Term) (xs : List ℕ) (i : ℕ) (T : Tree) (t : ℕ) → Reps TS s xs → Rep T s t → Reps (replaced TS i T) s (set xs i t)
reps_set tnil s [] i T t r p = tt
reps_set tnil s (x ∷ xs) i T t r p = absurd r
reps_set (tcons U TS) s [] i T t r p = absurd r
reps_set (tcons U TS) s (x ∷ xs) zero T t r p = (p, r.1)
reps_set (tcons U TS) s (x ∷ xs) (suc i) T t r p = (r.0, reps_set TS s xs i T t r.1 p)

-- a view: the inputs and the value
record View (TS : Trees) (s : List Term) (xs : List ℕ) (x : ℕ) : Type 0 where
  pub inputs : Trees
  pub value : Tree
  pub is : TS ≡ snoc inputs value
  pub reps : Reps inputs s (front xs)
  pub rep : Rep value s x

view_of : (TS : Trees) (s : List Term) (xs : List ℕ) (x : ℕ) → Reps TS s xs → last xs ≡ some x → View TS s xs x
view_of tnil s [] x r e = absurd (none-ne-some x e)
view_of tnil s (y ∷ ys) x r e = absurd r
view_of (tcons T TS) s [] x r e = absurd r
view_of (tcons T tnil) s (y ∷ []) x r e = record { inputs = tnil; value = T; is = refl; reps = tt; rep = subst (Rep T s) (some-injective y x e) r.0 }
view_of (tcons T (tcons U TS)) s (y ∷ []) x r e = absurd r.1
view_of (tcons T tnil) s (y ∷ z ∷ zs) x r e = absurd r.1
view_of (tcons T (tcons U TS)) s (y ∷ z ∷ zs) x r e =
    let v = view_of (tcons U TS) s (z ∷ zs) x r.1 e in
    record { inputs = tcons T v.inputs; value = v.value; is = ap (tcons T) v.is; reps = (r.0, v.reps); rep = v.rep }

-- the normal form leaves the store as it was
no-offence : (name : ℕ) (o : Option Offence) (s : List Term) → Post (no_offence name o s) (λ _ s'. (s' ≡ s) × (o ≡ none))
no-offence name none s = post-ok (refl, refl)
no-offence name (some (primitive_non_normal_arg e)) s = record { holds = tt }
no-offence name (some (container_primitive_not_side_condition e)) s = record { holds = tt }

-- what a proved pair and a wanted pair that matches it have in common
only-if : (b : Bool) (W X : TreePair) → only_if b W ≡ some X → b ≡ true
only-if true W X e = refl
only-if false W X e = absurd (none-ne-some X e)

module _ {ℓ} (room : Room) (job : Job) (valid : Valid job) (strict : Bool) (R : Tree → Tree → Type ℓ) (closed : ClosedFor strict job R) (ctx : ActionContext) (G : TreeContext)
    (made : tree_globals job.program (tree_rows job.terms job.program.rows) ≡ some G) where
  abbrev prog : Program
  prog = job.program

  abbrev proofs : List Proof
  proofs = job.proofs

  abbrev terms : List Term
  terms = job.terms

  abbrev rows : List TreeRow
  rows = tree_rows job.terms job.program.rows

  abbrev tree : ℕ → Tree
  tree t = tree_of job.terms t

  -- the store of the walk: it comes after the job's, and has the globals
  pub record State (s : List Term) : Type 0 where
    pub after : After prog rows terms s
    pub binds : Binds s G.bindings ctx.bindings
    pub pairs : Covers G.pairs s ctx.pairs

  next : {s s' : List Term} → State s → After prog rows s s' → State s'
  next w a = record { after = then prog rows w.after a; binds = binds-keeps (keeps prog rows a) w.binds; pairs = covers-keeps (keeps prog rows a) w.pairs }

  -- a pair of the job's terms
  pub record Named (q : Proposition) : Type 0 where
    pub lhs : Rep (tree q.lhs) terms q.lhs
    pub rhs : Rep (tree q.rhs) terms q.rhs

  pub record Related (p : ℕ) : Type ℓ where
    pub claim : Named (claim_at proofs p)
    pub related : R (tree (claim_at proofs p).lhs) (tree (claim_at proofs p).rhs)

  -- the proofs in the cache
  pub record Done (ps : List ℕ) : Type ℓ where
    pub each : {p : ℕ} → Memᴰ p ps → Related p

  pub record Walked (s s' : List Term) (ps : List ℕ) (p : ℕ) : Type ℓ where
    pub after : After prog rows s s'
    pub done : Done ps
    pub this : Related p

  pub record Stepped (s s' : List Term) (ps : List ℕ) (q : Proposition) : Type ℓ where
    pub after : After prog rows s s'
    pub done : Done ps
    pub related : R (tree q.lhs) (tree q.rhs)

  pub record Walks (sub : ℕ → List ℕ → Check (List ℕ)) : Type ℓ where
    pub call : (p : ℕ) (ps : List ℕ) (s : List Term) → State s → Done ps → Post (sub p ps s) (λ ps' s'. Walked s s' ps' p)

  -- in a later store a number of the job has its tree, and no other
  here : {s : List Term} → State s → (t : ℕ) → Rep (tree t) terms t → Rep (tree t) s t
  here w t r = rep-keeps (tree t) (keeps prog rows w.after) t r

  only : {s : List Term} → State s → (t : ℕ) → Rep (tree t) terms t → (T : Tree) → Rep T s t → T ≡ tree t
  only {s} w t r T p = rep-tree T (tree t) s t p (here w t r)

  found : {s : List Term} → State s → (q : Proposition) → Named q → (PS : List TreePair) → ((Q : TreePair) → Memᴰ Q PS → R Q.left Q.right) → Found PS s q
      → R (tree q.lhs) (tree q.rhs)
  found w q n PS h f = subst₂ R (only w q.lhs n.lhs f.pair.left f.stands.left) (only w q.rhs n.rhs f.pair.right f.stands.right) (h f.pair f.member)

  same-right : {a b : Tree} → R a b → R b b
  same-right r = closed.transitive (closed.symmetric r) r

  at-eq : (a b c d : ℕ) → a ≡ b → c ≡ d → R (tree b) (tree d) → R (tree a) (tree c)
  at-eq a b c d p q r = subst₂ R (ap tree (sym p)) (ap tree (sym q)) r

  add_post : (f : ℕ) (TS : Trees) (ts : List ℕ) (s : List Term) → World prog rows s → Reps TS s ts → Post (add_node room (app f ts) s) (λ n s'. Made prog rows s n s' (apply f TS))
  add_post f TS ts s w r = post-map (agree-post (add_apply prog rows room f TS ts s w r)) λ n s' m.
      subst (Made prog rows s n s') (sym (some-injective (apply f TS) m.0 m.1)) m.2

  module _ (sub : ℕ → List ℕ → Check (List ℕ)) (walks : Walks sub) where
    fiat-sound : (p : ℕ) (q : Proposition) → Named q → (ps : List ℕ) (s : List Term) → State s → Done ps
        → Post (check_fiat room prog proofs ctx sub p q ps s) (λ ps' s'. Stepped s s' ps' q)
    unfolding check_fiat
    fiat-sound p q n ps s w d =
        that-bind _ _ _ _ _ tt λ h.
        post-ok (record { after = stay prog rows w.after.world; done = d; related = go (or_cases _ _ h) })
      where
        go : ((is_literal (get_term s q.lhs) && eqb q.lhs q.rhs) ≡ true) ⊎ (among q ctx.pairs ≡ true) → R (tree q.lhs) (tree q.rhs)
        go (inl h) =
            let l = literal-of (get_term s q.lhs) (and_left _ _ h) in
            let e : q.lhs ≡ q.rhs = eq_of q.lhs q.rhs (and_right (is_literal (get_term s q.lhs)) _ h) in
            let k : leaf l.0 ≡ tree q.lhs = only w q.lhs n.lhs (leaf l.0) l.1 in
            subst₂ R k (k ∙ ap tree e) (closed.literals l.0)
        go (inr h) = found w q n G.pairs (closed.globals G made) (w.pairs.each (among-member q ctx.pairs h))

    trans-sound : (p : ℕ) (q : Proposition) (l r : ℕ) (ps : List ℕ) (s : List Term) → State s → Done ps
        → Post (check_trans room prog proofs ctx sub p q l r ps s) (λ ps' s'. Stepped s s' ps' q)
    unfolding check_trans
    trans-sound p q l r ps s w d =
        post-bind (walks.call l ps s w d) λ ps₁ s₁ a.
        post-bind (walks.call r ps₁ s₁ (next w a.after) a.done) λ ps₂ s₂ b.
        let x = claim_at proofs l in
        let y = claim_at proofs r in
        that-bind _ _ _ _ _ tt λ h.
        that-bind _ _ _ _ _ tt λ k.
        post-ok (record {
          after = then prog rows a.after b.after;
          done = b.done;
          related = at-eq q.lhs x.lhs q.rhs y.rhs (eq_of _ _ (and_left _ _ k)) (eq_of _ _ (and_right (eqb q.lhs x.lhs) _ k))
              (closed.transitive a.this.related (at-eq x.rhs y.lhs y.rhs y.rhs (eq_of _ _ h) refl b.this.related));
        })

    symm-sound : (p : ℕ) (q : Proposition) (r : ℕ) (ps : List ℕ) (s : List Term) → State s → Done ps
        → Post (check_sym room prog proofs ctx sub p q r ps s) (λ ps' s'. Stepped s s' ps' q)
    unfolding check_sym
    symm-sound p q r ps s w d =
        post-bind (walks.call r ps s w d) λ ps₁ s₁ a.
        let x = claim_at proofs r in
        that-bind _ _ _ _ _ tt λ k.
        post-ok (record {
          after = a.after;
          done = a.done;
          related = at-eq q.lhs x.rhs q.rhs x.lhs (eq_of _ _ (and_left _ _ k)) (eq_of _ _ (and_right (eqb q.lhs x.rhs) _ k))
              (closed.symmetric a.this.related);
        })

    congr-sound : (p : ℕ) (q : Proposition) → Named q → (base i kid : ℕ) (ps : List ℕ) (s : List Term) → State s → Done ps
        → Post (check_congr room prog proofs ctx sub p q base i kid ps s) (λ ps' s'. Stepped s s' ps' q)
    unfolding check_congr
    congr-sound p q n base i kid ps s w d =
        post-bind (walks.call base ps s w d) λ ps₁ s₁ a.
        post-bind (walks.call kid ps₁ s₁ (next w a.after) a.done) λ ps₂ s₂ b.
        let x = claim_at proofs base in
        let y = claim_at proofs kid in
        or-bind (as_app (get_term s₂ x.rhs)) _ _ _ _ tt λ t e.
        that-bind _ _ _ _ _ tt λ h.
        that-bind _ _ _ _ _ tt λ k.
        let w₂ : State s₂ = next (next w a.after) b.after in
        let v = rep-apply (tree x.rhs) s₂ x.rhs t.head t.args (here w₂ x.rhs a.this.claim.rhs) (app_of (get_term s₂ x.rhs) t e) in
        let c = child-of v.trees s₂ t.args i v.reps (lt_of i (length t.args) h) in
        let z = tree y.rhs in
        post-bind (add_post t.head (replaced v.trees i z) (set t.args i y.rhs) s₂ b.after.world
        (reps_set v.trees s₂ t.args i z y.rhs v.reps (here w₂ y.rhs b.this.claim.rhs))) λ u s₃ m.
        that-bind _ _ _ _ _ tt λ j.
        that-bind _ _ _ _ _ tt λ o.
        let first : R (tree x.lhs) (apply t.head v.trees) = subst (R (tree x.lhs)) v.is a.this.related in
        let kid_is : c.tree ≡ tree y.lhs = only w₂ y.lhs b.this.claim.lhs c.tree (subst (Rep c.tree s₂) (eq_of (get_or t.args i 0) y.lhs k) c.rep) in
        let second : R (apply t.head v.trees) (apply t.head (replaced v.trees i z)) =
        closed.arguments t.head v.trees i c.tree z (same-right first) c.is (subst (λ (X : Tree). R X z) (sym kid_is) b.this.related) in
        let last-is : apply t.head (replaced v.trees i z) ≡ tree q.rhs =
        only (next w₂ m.after) q.rhs n.rhs (apply t.head (replaced v.trees i z))
        (subst (Rep (apply t.head (replaced v.trees i z)) s₃) (sym (eq_of q.rhs u j)) m.rep) in
        post-ok (record {
          after = then prog rows a.after (then prog rows b.after m.after);
          done = b.done;
          related = subst₂ R (ap tree (sym (eq_of q.lhs x.lhs o))) last-is (closed.transitive first second);
        })

    normalize-sound : (p : ℕ) (q : Proposition) → Named q → (r : ℕ) (ps : List ℕ) (s : List Term) → State s → Done ps
        → Post (check_container_normalize room prog proofs ctx sub p q r ps s) (λ ps' s'. Stepped s s' ps' q)
    unfolding check_container_normalize
    normalize-sound p q n r ps s w d =
        post-bind (walks.call r ps s w d) λ ps₁ s₁ a.
        let x = claim_at proofs r in
        let w₁ : State s₁ = next w a.after in
        post-bind (agree-post (normal-agrees prog rows room (tree x.rhs) x.rhs s₁ a.after.world (here w₁ x.rhs a.this.claim.rhs))) λ t s₂ m.
        that-bind _ _ _ _ _ tt λ k.
        let normal-is : tree_normal prog rows (tree x.rhs) ≡ tree q.rhs =
        some-injective (tree_normal prog rows (tree x.rhs)) m.0 m.1 ∙
        only (next w₁ m.2.after) q.rhs n.rhs m.0 (subst (Rep m.0 s₂) (sym (eq_of _ _ (and_right (eqb q.lhs x.lhs) _ k))) m.2.rep) in
        post-ok (record {
          after = then prog rows a.after m.2.after;
          done = a.done;
          related = subst₂ R (ap tree (sym (eq_of q.lhs x.lhs (and_left _ _ k)))) normal-is
              (closed.transitive a.this.related (closed.normals (tree x.rhs) (same-right a.this.related)));
        })

    views-sound : (p : ℕ) (q : Proposition) → Named q → (g : ℕ) (a b : App) (s : List Term) → State s → (X Y : Trees) → Reps X s a.args → Reps Y s b.args
        → R (apply a.head X) (apply a.head X) → R (apply b.head Y) (apply b.head Y)
        → Post (check_views room prog p q g a b s) (λ _ s'. After prog rows s s' × R (tree q.lhs) (tree q.rhs))
    unfolding check_views
    views-sound p q n g a b s w X Y rx ry ax ay =
        that-bind _ _ _ _ _ tt λ h.
        or-bind (last a.args) _ _ _ _ tt λ old e.
        or-bind (last b.args) _ _ _ _ tt λ new f.
        that-bind _ _ _ _ _ tt λ k.
        let vx = view_of X s a.args old rx e in
        let vy = view_of Y s b.args new ry f in
        post-bind (agree-post (merge-agrees prog rows room g old new vx.value vy.value s w.after.world vx.rep vy.rep)) λ v s₁ m.
        let merged = apply a.head (snoc vx.inputs m.0.tree) in
        post-bind (add_post a.head (snoc vx.inputs m.0.tree) (front a.args ++ (v.term ∷ [])) s₁ m.2.after.world
        (reps_snoc vx.inputs (front a.args) m.0.tree v.term s₁
        (reps_keeps vx.inputs (keeps prog rows m.2.after) (front a.args) vx.reps) m.2.rep)) λ t s₂ o.
        post-that _ _ _ _ tt λ z.
        let inputs-same : vy.inputs ≡ vx.inputs =
        reps_tree vy.inputs vx.inputs s (front b.args) vy.reps (subst (Reps vx.inputs s) (words-eq (front a.args) (front b.args) k) vx.reps) in
        let other : apply b.head Y ≡ apply a.head (snoc vx.inputs vy.value) =
        ap₂ apply (sym (eq_of a.head b.head h)) (vy.is ∙ ap (λ (I : Trees). snoc I vy.value) inputs-same) in
        let covered : Covers (both merged ∷ m.0.pairs) s₂ (same t ∷ v.pairs) =
        covers-cons (both merged) (stands_same o.rep) (covers-keeps (keeps prog rows o.after) m.2.pairs) in (
          then prog rows m.2.after o.after,
          found (next w (then prog rows m.2.after o.after)) q n (both merged ∷ m.0.pairs)
              (closed.merges a.head g vx.inputs vx.value vy.value m.0
              (subst (λ (Z : Trees). R (apply a.head Z) (apply a.head Z)) vx.is ax)
              (subst (λ (Z : Tree). R Z Z) other ay) m.1)
              (covered.each (among-member q (same t ∷ v.pairs) z)),
        )

    both-sound : (p : ℕ) (q : Proposition) → Named q → (g x y : ℕ) (A B : Option App) (s : List Term) → State s
        → Rep (tree x) terms x → Rep (tree y) terms y → as_app (get_term s x) ≡ A → as_app (get_term s y) ≡ B
        → R (tree x) (tree x) → R (tree y) (tree y)
        → Post (check_both_apps room prog p q g x y A B s) (λ _ s'. After prog rows s s' × R (tree q.lhs) (tree q.rhs))
    both-sound p q n g x y none B s w rx ry ex ey ax ay = record { holds = tt }
    both-sound p q n g x y (some a) none s w rx ry ex ey ax ay = record { holds = tt }
    both-sound p q n g x y (some a) (some b) s w rx ry ex ey ax ay =
        let u = rep-apply (tree x) s x a.head a.args (here w x rx) (app_of (get_term s x) a ex) in
        let v = rep-apply (tree y) s y b.head b.args (here w y ry) (app_of (get_term s y) b ey) in
        views-sound p q n g a b s w u.trees v.trees u.reps v.reps
        (subst (λ (Z : Tree). R Z Z) u.is ax) (subst (λ (Z : Tree). R Z Z) v.is ay)

    merge-sound : (p : ℕ) (q : Proposition) → Named q → (g old new : ℕ) (ps : List ℕ) (s : List Term) → State s → Done ps
        → Post (check_merge_fn room prog proofs ctx sub p q g old new ps s) (λ ps' s'. Stepped s s' ps' q)
    unfolding check_merge_fn
    merge-sound p q n g old new ps s w d =
        post-bind (walks.call old ps s w d) λ ps₁ s₁ a.
        post-bind (walks.call new ps₁ s₁ (next w a.after) a.done) λ ps₂ s₂ b.
        let x = claim_at proofs old in
        let y = claim_at proofs new in
        that-bind _ _ _ _ _ tt λ h.
        that-bind _ _ _ _ _ tt λ k.
        post-bind (both-sound p q n g x.rhs y.rhs (as_app (get_term s₂ x.rhs)) (as_app (get_term s₂ y.rhs)) s₂ (next (next w a.after) b.after)
        a.this.claim.rhs b.this.claim.rhs refl refl (same-right a.this.related) (same-right b.this.related)) λ _ s₃ m.
        post-ok (record { after = then prog rows a.after (then prog rows b.after m.0); done = b.done; related = m.1 })

    -- the facts hold, from the bindings before to those after
    record Premised (s s' : List Term) (fs : List Fact) (Σ' : List TreeBinding) (b : List Binding × List ℕ) : Type ℓ where
      pub after : After prog rows s s'
      pub bindings : List TreeBinding
      pub hold : FactsHold prog rows strict R fs Σ' bindings
      pub binds : Binds s' bindings b.0
      pub finished : Done b.1
      pub normal : (f : Fact) → Memᴰ f fs → fact_offence prog f ≡ none

    normal-cons : (f : Fact) (fs : List Fact) → fact_offence prog f ≡ none → ((g : Fact) → Memᴰ g fs → fact_offence prog g ≡ none)
        → (g : Fact) → Memᴰ g (f ∷ fs) → fact_offence prog g ≡ none
    normal-cons f fs p k g m = go (Memᴰ.cases_cons m)
      where
        go : (g ≡ f) ⊎ Memᴰ g fs → fact_offence prog g ≡ none
        go (inl e) = rw e p
        go (inr m) = k g m

    -- a wanted pair that matches a related one is related
    matched : (f : Fact) (W Q X : TreePair) → Form f W → tree_matches f Q W ≡ some X → R Q.left Q.right → R W.left W.right
    matched (equal i l r) W Q X h e k =
        let b = only-if _ W X e in
        subst₂ R (tree-eq Q.left W.left (and_left _ _ b)) (tree-eq Q.right W.right (and_right (same_tree Q.left W.left) _ b)) k
    matched (bare i x) W Q X h e k =
        let c = tree-eq Q.right W.right (only-if _ W X e) in
        subst₂ R (c ∙ sym h) c (same-right k)

    fact-sound : (name p : ℕ) (f : Fact) (Σ' : List TreeBinding) (σ : List Binding) (s : List Term) → State s → Binds s Σ' σ → Related p
        → Post (check_fact_matches_proposition room prog name σ f (claim_at proofs p) s)
        (λ _ s'. After prog rows s s' × ((W : TreePair) × (tree_wanted prog rows Σ' f ≡ some W) × R W.left W.right))
    fact-sound name p f Σ' σ s w b r =
        post-bind (agree-post (wanted-agrees prog rows room name Σ' σ f s w.after.world b)) λ x s₁ m.
        let w₁ : State s₁ = next w m.2.after in
        let q = claim_at proofs p in
        let Q : TreePair = record { left = tree q.lhs; right = tree q.rhs } in
        let stands : Stands Q s₁ q = record { left = here w₁ q.lhs r.claim.lhs; right = here w₁ q.rhs r.claim.rhs } in
        post-map (agree-post (matches-agrees prog rows name f x q m.0 Q s₁ m.2.after.world.distinct m.2.stands stands)) λ _ s₂ n.
        (subst (After prog rows s) (sym n.2.0) m.2.after, (m.0, m.1, matched f m.0 Q n.0 m.2.form n.1 r.related))

    premises-sound : (name : ℕ) (fs : List Fact) (ps : List ℕ) (Σ' : List TreeBinding) (σ : List Binding) (qs : List ℕ) (s : List Term)
        → State s → Binds s Σ' σ → Done qs
        → Post (check_premises room prog proofs ctx sub strict name fs ps σ qs s) (λ b s'. Premised s s' fs Σ' b)
    unfolding check_premises assert_body_proof_normal_form
    premises-sound name [] ps Σ' σ qs s w b d =
        post-ok (record { after = stay prog rows w.after.world; bindings = Σ'; hold = done; binds = b; finished = d; normal = λ f m. absurd (Memᴰ.not-nil m) })
    premises-sound name (f ∷ fs) [] Σ' σ qs s w b d = record { holds = tt }
    premises-sound name (f ∷ fs) (p ∷ ps) Σ' σ qs s w b d =
        same-bind _ (no-offence name _ s) λ _ fine.
        post-choose (is_container_side_condition prog f) _ _ _
        (λ h.
        post-bind (agree-post (condition-agrees prog rows room name strict Σ' σ f s w.after.world b)) λ σ' s₁ c.
        post-map (premises-sound name fs ps c.0 σ' qs s₁ (next w c.2.after) c.2.binds d) λ r s₂ m.
        record {
          after = then prog rows c.2.after m.after;
          bindings = m.bindings;
          hold = side h c.1 m.hold;
          binds = m.binds;
          finished = m.finished;
          normal = normal-cons f fs fine m.normal;
        })
        (λ h.
        post-bind (walks.call p qs s w d) λ qs' s₁ a.
        let w₁ : State s₁ = next w a.after in
        post-bind (fact-sound name p f Σ' σ s₁ w₁ (binds-keeps (keeps prog rows a.after) b) a.this) λ _ s₂ c.
        post-map (premises-sound name fs ps Σ' σ qs' s₂ (next w₁ c.0) (binds-keeps (keeps prog rows (then prog rows a.after c.0)) b) a.done) λ r s₃ m.
        record {
          after = then prog rows a.after (then prog rows c.0 m.after);
          bindings = m.bindings;
          hold = premise h c.1.1 c.1.2 m.hold;
          binds = m.binds;
          finished = m.finished;
          normal = normal-cons f fs fine m.normal;
        })

    head-sound : (q : Proposition) → Named q → (r : Rule) → Memᴰ r prog.rules → (σ : List Binding) (b : List Binding × List ℕ) {s₀ : List Term} (s : List Term) → State s
        → Premised s₀ s r.facts (tree_bindings terms σ ++ G.bindings) b
        → Post (check_rule_produces_equality room prog r b.0 q s) (λ _ s'. After prog rows s s' × R (tree q.lhs) (tree q.rhs))
    unfolding check_rule_produces_equality
    head-sound q n r i σ b s w m =
        post-bind (agree-post (actions-agree prog rows room r.name r.actions (tree_start m.bindings) (start_context b.0) s m.after.world m.binds covers-none)) λ c s₂ t.
        post-that _ _ _ _ tt λ z. (
          t.2.after,
          found (next w t.2.after) q n t.0.pairs
              (closed.rules G made r i m.normal (tree_bindings terms σ) m.bindings m.hold t.0 t.1)
              (t.2.pairs.each (among-member q c.pairs z)),
        )

    rule-sound : (p : ℕ) (q : Proposition) → Named q → (name : ℕ) (ps : List ℕ) (σ : List Binding) → ((b : Binding) → Memᴰ b σ → b.term < length terms)
        → (qs : List ℕ) (s : List Term) → State s → Done qs
        → Post (check_rule room prog proofs ctx sub strict p q name ps σ qs s) (λ ps' s'. Stepped s s' ps' q)
    unfolding check_rule
    rule-sound p q n name ps σ inside qs s w d =
        or-bind (rule_of prog.rules name) _ _ _ _ tt λ r e.
        that-bind _ _ _ _ _ tt λ h.
        post-bind (premises-sound name r.facts ps (tree_bindings terms σ ++ G.bindings) (σ ++ ctx.bindings) qs s w
        (binds-append (binds-keeps (keeps prog rows w.after) (tree-binds job valid σ inside)) w.binds) d) λ b s₁ m.
        post-bind (head-sound q n r (rule-of prog.rules name r e) σ b s₁ (next w m.after) m) λ _ s₂ t.
        post-ok (record { after = then prog rows m.after t.0; done = m.finished; related = t.1 })

    step-sound : (p : ℕ) (q : Proposition) → Named q → (j : Justification) → ((b : Binding) → Memᴰ b (substitution j) → b.term < length terms)
        → (ps : List ℕ) (s : List Term) → State s → Done ps
        → Post (check_justification room prog proofs ctx sub strict p q j ps s) (λ ps' s'. Stepped s s' ps' q)
    step-sound p q n fiat i ps s w d = fiat-sound p q n ps s w d
    step-sound p q n (rule f rs σ) i ps s w d = rule-sound p q n f rs σ i ps s w d
    step-sound p q n (merge_fn g old new) i ps s w d = merge-sound p q n g old new ps s w d
    step-sound p q n (trans l r) i ps s w d = trans-sound p q l r ps s w d
    step-sound p q n (symm r) i ps s w d = symm-sound p q r ps s w d
    step-sound p q n (congr a k b) i ps s w d = congr-sound p q n a k b ps s w d
    step-sound p q n (container_normalize r) i ps s w d = normalize-sound p q n r ps s w d
    step-sound p q n eval i ps s w d = record { holds = tt }

  pub walk-sound : (f : ℕ) → Walks (check_proof_with_context room prog proofs ctx strict f)
  unfolding check_proof_with_context
  walk-sound zero = record { call = λ p ps s w d. record { holds = tt } }
  walk-sound (suc f) = record {
    call = λ p ps s w d.
        post-choose (member p ps) _ _ _
        (λ h. post-ok (record { after = stay prog rows w.after.world; done = d; this = d.each (member-mem p ps h) }))
        (λ h. go p ps s w d (walk-sound f) (dec_lt p (length proofs)));
  }
    where
      go : (p : ℕ) (ps : List ℕ) (s : List Term) → State s → Done ps → Walks (check_proof_with_context room prog proofs ctx strict f) → Dec (p < length proofs)
          → Post (and_then (check_justification room prog proofs ctx (check_proof_with_context room prog proofs ctx strict f) strict p (claim_at proofs p) (get_or proofs p no_proof).justification ps s) (λ d. pure (p ∷ d)))
          (λ ps' s'. Walked s s' ps' p)
      go p ps s w d k (yes h) =
          let n : Named (claim_at proofs p) = record { lhs = tree-rep terms valid.ordered (claim_at proofs p).lhs (valid.claims p h).0; rhs = tree-rep terms valid.ordered (claim_at proofs p).rhs (valid.claims p h).1 } in
          post-bind (step-sound (check_proof_with_context room prog proofs ctx strict f) k p (claim_at proofs p) n (get_or proofs p no_proof).justification (valid.substitutions p h) ps s w d) λ ps' s' m.
          let r : Related p = record { claim = n; related = m.related } in
          post-ok (record { after = m.after; done = record { each = λ {p = x} y. here-or x r m.done (Memᴰ.cases_cons y) }; this = r })
        where
          here-or : (x : ℕ) → {ps' : List ℕ} → Related p → Done ps' → (x ≡ p) ⊎ Memᴰ x ps' → Related x
          here-or x r d (inl e) = rw e r
          here-or x r d (inr y) = d.each y
      go p ps s w d k (no h) =
          let e : get_or proofs p no_proof ≡ no_proof = get_or-eq_default proofs no_proof {n = p} (omega arith) in
          subst (λ (x : Proof). Post (and_then (check_justification room prog proofs ctx (check_proof_with_context room prog proofs ctx strict f) strict p x.claim x.justification ps s) (λ d. pure (p ∷ d))) (λ ps' s'. Walked s s' ps' p))
          (sym e) (record { holds = tt })
