-- The evaluation on the store and the evaluation on trees agree: values, and the pairs in both directions.
use Prim.Native.Nat.{ℕ, zero, suc, ◌<◌}
use native.Mathlib.Omega.{arith}
use native.Mathlib.Nat.{not-suc-le-zero}
use mathlib.Core.Path.{◌≡◌, refl, sym, ap, ap₂, subst, ◌∙◌}
use mathlib.Core.Logic.{◌⊎◌, inl, inr}
use mathlib.Core.List.Memᴰ
use mathlib.Core.List.{List, [], ◌∷◌, ◌++◌, map, Memᴰ}
use mathlib.Core.Bool.{Bool, true, false, ◌&&◌, true≢false}
use mathlib.Core.Option.{Option, none, some}
use lib.ListN.{length}
use lib.Dec.{eqb}
use Rattle.model.specs.Cell.{same_words}
use Rattle.model.specs.Term.{Term, Literal, lit, app, get_term, Extends, Below, Ordered}
use Rattle.model.specs.Program.{Head, literal, variable, constructor, custom, primitive, Expr, node, Exprs, nil, cons, Proposition, Binding, Row, Program, computes}
use Rattle.model.specs.Check.{or_refuse, Room, add_node, ◌>>?◌}
use Rattle.model.specs.Evaluate.{lookup, primitive_at, row_value, counts_in, add_count, validate_by, validate, validated_by, children, concat_map, subterms_in, same, reflexive, Value, Values, valued, head_value, eval_expr, eval_exprs, fact_head_value, eval_fact_expr, eval_fact_exprs}
use Rattle.model.specs.Counts.{count_of_term, count_value}
use Rattle.model.specs.Tree.{tree_count, tree_counts, tree_validate_by, tree_validate, Tree, leaf, named, apply, Trees, tnil, tcons, same_trees, TreePair, TreeBinding, TreeRow, tree_lookup, tree_row, both, reflexive_tree, reflexive_trees, TreeValue, TreeValues, tree_valued, tree_validated_by, tree_head_value, tree_eval, tree_evals, tree_fact_head_value, tree_fact_eval, tree_fact_evals}
use Rattle.model.proofs.Tests.{words-eq, words_same, trees-eq, trees-same, never}
use Rattle.model.proofs.Represent.{Rep, Reps, Keeps, Distinct, rep-keeps, reps_keeps, reps_one, reps_tree}
use Rattle.model.proofs.Post.{Nonzero}
use Rattle.model.proofs.Agree.{Agree, agree-ok, agree-none, agree-map, agree-bind}
use Rattle.model.proofs.Store.{extends-same, extends-then, extends-keeps, add-agrees, rep-inside}

-- the bindings of numbers and of trees, and the rows of numbers and of trees
pub data Binds (s : List Term) : List TreeBinding → List Binding → Type 0 where
  bnil : Binds s [] []
  bcons : {B : TreeBinding} {b : Binding} {Bs : List TreeBinding} {bs : List Binding}
      → B.name ≡ b.name → Rep B.tree s b.term → Binds s Bs bs → Binds s (B ∷ Bs) (b ∷ bs)

pub data Table (s : List Term) : List TreeRow → List Row → Type 0 where
  rnil : Table s [] []
  rcons : {R : TreeRow} {r : Row} {Rs : List TreeRow} {rs : List Row}
      → R.primitive ≡ r.primitive → Rep R.result s r.result → Reps R.arguments s r.arguments → Table s Rs rs → Table s (R ∷ Rs) (r ∷ rs)

pub binds-keeps : {s s' : List Term} {Σ' : List TreeBinding} {σ : List Binding} → Keeps s s' → Binds s Σ' σ → Binds s' Σ' σ
binds-keeps k bnil = bnil
binds-keeps k (bcons {B = B} {b = b} n r bs) = bcons n (rep-keeps B.tree k b.term r) (binds-keeps k bs)

pub table-keeps : {s s' : List Term} {Rs : List TreeRow} {rs : List Row} → Keeps s s' → Table s Rs rs → Table s' Rs rs
table-keeps k rnil = rnil
table-keeps k (rcons {R = R} {r = r} n v a t) =
    rcons n (rep-keeps R.result k r.result v) (reps_keeps R.arguments k r.arguments a) (table-keeps k t)

pub binds-append : {s : List Term} {Σ' T' : List TreeBinding} {σ τ : List Binding} → Binds s Σ' σ → Binds s T' τ → Binds s (Σ' ++ T') (σ ++ τ)
binds-append bnil c = c
binds-append (bcons n r bs) c = bcons n r (binds-append bs c)

-- both without a value, or a tree and its number
abbrev pub Maybe : Option Tree → List Term → Option ℕ → Type 0
Maybe none s none = Unit {0}
Maybe none s (some t) = ⊥
Maybe (some T) s none = ⊥
Maybe (some T) s (some t) = Rep T s t

pub lookup-same : {s : List Term} {Σ' : List TreeBinding} {σ : List Binding} → Binds s Σ' σ → (x : ℕ) → Maybe (tree_lookup Σ' x) s (lookup σ x)
lookup-same bnil x = tt
lookup-same {s} (bcons {B = B} {b = b} {Bs = Bs} {bs = bs} n r c) x = rw n (go (eqb b.name x) (lookup-same c x))
  where
    go : (d : Bool) → Maybe (tree_lookup Bs x) s (lookup bs x)
        → Maybe (elim d [ true ↦ some B.tree | false ↦ tree_lookup Bs x ]) s (elim d [ true ↦ some b.term | false ↦ lookup bs x ])
    go true h = r
    go false h = h

same_tests : {s : List Term} → Distinct s → (A B : Trees) (a b : List ℕ) → Reps A s a → Reps B s b → same_trees A B ≡ same_words a b
same_tests {s} d A B a b p q = go (same_words a b) refl (same_trees A B) refl
  where
    go : (c : Bool) → same_words a b ≡ c → (d : Bool) → same_trees A B ≡ d → same_trees A B ≡ same_words a b
    go true e true f = f ∙ sym e
    go false e false f = f ∙ sym e
    go true e false f =
        absurd (true≢false (sym (subst (λ (X : Trees). same_trees A X ≡ true) (reps_tree A B s b (subst (Reps A s) (words-eq a b e) p) q) (trees-same A)) ∙ f))
    go false e true f =
        absurd (true≢false (sym (subst (λ (x : List ℕ). same_words a x ≡ true) (reps_one B d a b (subst (λ (X : Trees). Reps X s a) (trees-eq A B f) p) q) (words_same a)) ∙ e))

pub row_same : {s : List Term} {Rs : List TreeRow} {rs : List Row} → Distinct s → Table s Rs rs → (p : ℕ) (TS : Trees) (ts : List ℕ) → Reps TS s ts
    → Maybe (tree_row Rs p TS) s (row_value rs p ts)
row_same d rnil p TS ts a = tt
row_same {s} d (rcons {R = R} {r = r} {Rs = Rs} {rs = rs} n v g t) p TS ts a =
    go (eqb R.primitive p && same_trees R.arguments TS) (eqb r.primitive p && same_words r.arguments ts)
    (ap₂ ◌&&◌ (ap (λ (x : ℕ). eqb x p) n) (same_tests d R.arguments TS r.arguments ts g a)) (row_same d t p TS ts a)
  where
    go : (C c : Bool) → C ≡ c → Maybe (tree_row Rs p TS) s (row_value rs p ts)
        → Maybe (elim C [ true ↦ some R.result | false ↦ tree_row Rs p TS ]) s (elim c [ true ↦ some r.result | false ↦ row_value rs p ts ])
    go true true e h = v
    go false false e h = h
    go true false e h = absurd (true≢false e)
    go false true e h = never e

-- the integers that trees and their numbers stand for
count_same : (T : Tree) (s : List Term) (t : ℕ) → Rep T s t → tree_count T ≡ count_of_term (get_term s t)
count_same (leaf l) s t r = sym (ap count_of_term r)
count_same (named x) s t r = sym (ap count_of_term r)
count_same (apply f ts) s t r = sym (ap count_of_term r.1)

counts_same : (TS : Trees) (s : List Term) (ts : List ℕ) → Reps TS s ts → tree_counts TS ≡ counts_in s ts
counts_same tnil s [] r = refl
counts_same tnil s (t ∷ ts) r = absurd r
counts_same (tcons T TS) s [] r = absurd r
counts_same (tcons T TS) s (t ∷ ts) r = ap₂ ◌∷◌ (count_same T s t r.0) (counts_same TS s ts r.1)

-- a pair of trees and a pair of numbers that have them
pub record Stands (Q : TreePair) (s : List Term) (q : Proposition) : Type 0 where
  pub left : Rep Q.left s q.lhs
  pub right : Rep Q.right s q.rhs

pub record Found (PS : List TreePair) (s : List Term) (q : Proposition) : Type 0 where
  pub pair : TreePair
  pub member : Memᴰ pair PS
  pub stands : Stands pair s q

pub record Numbered (Q : TreePair) (s : List Term) (qs : List Proposition) : Type 0 where
  pub pair : Proposition
  pub member : Memᴰ pair qs
  pub stands : Stands Q s pair

-- the pairs of numbers and the pairs of trees are the same
pub record Covers (PS : List TreePair) (s : List Term) (qs : List Proposition) : Type 0 where
  pub each : {q : Proposition} → Memᴰ q qs → Found PS s q
  pub back : {Q : TreePair} → Memᴰ Q PS → Numbered Q s qs

stands-keeps : {Q : TreePair} {s s' : List Term} {q : Proposition} → Keeps s s' → Stands Q s q → Stands Q s' q
stands-keeps {Q} {q = q} k h = record { left = rep-keeps Q.left k q.lhs h.left; right = rep-keeps Q.right k q.rhs h.right }

pub found-more : {PS QS : List TreePair} {s : List Term} {q : Proposition} → ((p : TreePair) → Memᴰ p PS → Memᴰ p QS) → Found PS s q → Found QS s q
found-more m f = record { pair = f.pair; member = m f.pair f.member; stands = f.stands }

pub numbered_more : {Q : TreePair} {s : List Term} {ps qs : List Proposition} → ((p : Proposition) → Memᴰ p ps → Memᴰ p qs) → Numbered Q s ps → Numbered Q s qs
numbered_more m f = record { pair = f.pair; member = m f.pair f.member; stands = f.stands }

pub covers-keeps : {PS : List TreePair} {s s' : List Term} {qs : List Proposition} → Keeps s s' → Covers PS s qs → Covers PS s' qs
covers-keeps k c = record {
  each = λ m. let f = c.each m in record { pair = f.pair; member = f.member; stands = stands-keeps k f.stands };
  back = λ m. let f = c.back m in record { pair = f.pair; member = f.member; stands = stands-keeps k f.stands };
}

pub covers-none : {s : List Term} → Covers [] s []
covers-none = record { each = λ m. absurd (Memᴰ.not-nil m); back = λ m. absurd (Memᴰ.not-nil m) }

pub covers-append : {PS QS : List TreePair} {s : List Term} {ps qs : List Proposition} → Covers PS s ps → Covers QS s qs → Covers (PS ++ QS) s (ps ++ qs)
covers-append {PS} {QS} {s} {ps} {qs} c d = record { each = λ {q} m. to q (Memᴰ.append_cases ps m); back = λ {Q} m. from Q (Memᴰ.append_cases PS m) }
  where
    to : (q : Proposition) → Memᴰ q ps ⊎ Memᴰ q qs → Found (PS ++ QS) s q
    to q (inl m) = found-more (λ p. Memᴰ.append_left QS) (c.each m)
    to q (inr m) = found-more (λ p. Memᴰ.append_right PS) (d.each m)

    from : (Q : TreePair) → Memᴰ Q PS ⊎ Memᴰ Q QS → Numbered Q s (ps ++ qs)
    from Q (inl m) = numbered_more (λ p. Memᴰ.append_left qs) (c.back m)
    from Q (inr m) = numbered_more (λ p. Memᴰ.append_right ps) (d.back m)

pub covers-cons : {PS : List TreePair} {s : List Term} {q : Proposition} {qs : List Proposition} (Q : TreePair) → Stands Q s q
    → Covers PS s qs → Covers (Q ∷ PS) s (q ∷ qs)
covers-cons {PS} {s} {q} {qs} Q h c = record { each = λ {q = p} m. to p (Memᴰ.cases_cons m); back = λ {Q = P} m. from P (Memᴰ.cases_cons m) }
  where
    to : (p : Proposition) → (p ≡ q) ⊎ Memᴰ p qs → Found (Q ∷ PS) s p
    to p (inl e) = rw e (record { pair = Q; member = Memᴰ.head refl; stands = h })
    to p (inr m) = found-more (λ p m. Memᴰ.tail m) (c.each m)

    from : (P : TreePair) → (P ≡ Q) ⊎ Memᴰ P PS → Numbered P s (q ∷ qs)
    from P (inl e) = rw e (record { pair = q; member = Memᴰ.head refl; stands = h })
    from P (inr m) = numbered_more (λ p m. Memᴰ.tail m) (c.back m)

pub stands_same : {T : Tree} {s : List Term} {t : ℕ} → Rep T s t → Stands (both T) s (same t)
stands_same r = record { left = r; right = r }

-- the subterms of a number have the subtrees of its tree
sub_self : (T : Tree) → Memᴰ (both T) (reflexive_tree T)
unfolding reflexive_tree
sub_self (leaf l) = Memᴰ.head refl
sub_self (named x) = Memᴰ.head refl
sub_self (apply f ts) = Memᴰ.head refl

module _ (s : List Term) where
  record SubIn (PS : List TreePair) (xs : List ℕ) : Type 0 where
    pub each : {x : ℕ} → Memᴰ x xs → Found PS s (same x)

  sub-all : (g : ℕ → List ℕ) → ((T : Tree) (t : ℕ) → Rep T s t → SubIn (reflexive_tree T) (g t))
      → (TS : Trees) (ts : List ℕ) → Reps TS s ts → SubIn (reflexive_trees TS) (concat_map g ts)
  unfolding reflexive_trees
  sub-all g h tnil [] r = record { each = λ m. absurd (Memᴰ.not-nil m) }
  sub-all g h tnil (t ∷ ts) r = absurd r
  sub-all g h (tcons T TS) [] r = absurd r
  sub-all g h (tcons T TS) (t ∷ ts) r = record { each = λ {x} m. go x (Memᴰ.append_cases (g t) m) (sub-all g h TS ts r.1) }
    where
      go : (x : ℕ) → Memᴰ x (g t) ⊎ Memᴰ x (concat_map g ts) → SubIn (reflexive_trees TS) (concat_map g ts) → Found (reflexive_tree T ++ reflexive_trees TS) s (same x)
      go x (inl m) k = found-more (λ p. Memᴰ.append_left (reflexive_trees TS)) ((h T t r.0).each m)
      go x (inr m) k = found-more (λ p. Memᴰ.append_right (reflexive_tree T)) (k.each m)

  sub-below : (g : ℕ → List ℕ) → ((T : Tree) (t : ℕ) → Rep T s t → SubIn (reflexive_tree T) (g t))
      → (T : Tree) (t : ℕ) → Rep T s t → SubIn (reflexive_tree T) (concat_map g (children (get_term s t)))
  unfolding reflexive_tree
  sub-below g h (leaf l) t r = rw r (record { each = λ m. absurd (Memᴰ.not-nil m) })
  sub-below g h (named x) t r = rw r (record { each = λ m. absurd (Memᴰ.not-nil m) })
  sub-below g h (apply f ts) t r = rw r.1 (let k = sub-all g h ts r.0 r.2 in record { each = λ m. found-more (λ p m. Memᴰ.tail m) (k.each m) })

  sub_in : (f : ℕ) (T : Tree) (t : ℕ) → Rep T s t → SubIn (reflexive_tree T) (subterms_in f s t)
  unfolding subterms_in
  sub_in zero T t r = record { each = λ m. absurd (Memᴰ.not-nil m) }
  sub_in (suc f) T t r = record { each = λ {x} m. go x (Memᴰ.cases_cons m) (sub-below (subterms_in f s) (sub_in f) T t r) }
    where
      go : (x : ℕ) → (x ≡ t) ⊎ Memᴰ x (concat_map (subterms_in f s) (children (get_term s t)))
          → SubIn (reflexive_tree T) (concat_map (subterms_in f s) (children (get_term s t))) → Found (reflexive_tree T) s (same x)
      go x (inl e) k = rw e (record { pair = both T; member = sub_self T; stands = stands_same r })
      go x (inr m) k = k.each m

  -- a number among those of a term whose tree, twice, is the pair
  record SubOf (Q : TreePair) (xs : List ℕ) : Type 0 where
    pub number : ℕ
    pub member : Memᴰ number xs
    pub stands : Stands Q s (same number)

  sub_more : {Q : TreePair} {xs ys : List ℕ} → ((x : ℕ) → Memᴰ x xs → Memᴰ x ys) → SubOf Q xs → SubOf Q ys
  sub_more m f = record { number = f.number; member = m f.number f.member; stands = f.stands }

  sub-first : (T : Tree) (t : ℕ) (xs : List ℕ) → Rep T s t → (Q : TreePair) → Q ≡ both T → SubOf Q (t ∷ xs)
  sub-first T t xs r Q e = rw e (record { number = t; member = Memᴰ.head refl; stands = stands_same r })

  sub-only : (T : Tree) (t : ℕ) (xs : List ℕ) → Rep T s t → (Q : TreePair) → (Q ≡ both T) ⊎ Memᴰ Q [] → SubOf Q (t ∷ xs)
  sub-only T t xs r Q (inl e) = sub-first T t xs r Q e
  sub-only T t xs r Q (inr m) = absurd (Memᴰ.not-nil m)

  module _ (o : Ordered s) where
    mutual
      unfolding reflexive_tree reflexive_trees subterms_in

      sub_back : (T : Tree) (f t : ℕ) → t < f → Rep T s t → (Q : TreePair) → Memᴰ Q (reflexive_tree T) → SubOf Q (subterms_in f s t)
      sub_back (leaf l) zero t h r Q m = absurd (not-suc-le-zero h)
      sub_back (leaf l) (suc f) t h r Q m = sub-only (leaf l) t _ r Q (Memᴰ.cases_cons m)
      sub_back (named x) zero t h r Q m = absurd (not-suc-le-zero h)
      sub_back (named x) (suc f) t h r Q m = sub-only (named x) t _ r Q (Memᴰ.cases_cons m)
      sub_back (apply g ts) zero t h r Q m = absurd (not-suc-le-zero h)
      sub_back (apply g ts) (suc f) t h r Q m = go (Memᴰ.cases_cons m) (λ n. subs-back ts f r.0 (λ x k. let l = o.lower t g r.0 r.1 x k in omega arith) r.2 Q n)
        where
          go : (Q ≡ both (apply g ts)) ⊎ Memᴰ Q (reflexive_trees ts)
              → (Memᴰ Q (reflexive_trees ts) → SubOf Q (concat_map (subterms_in f s) r.0))
              → SubOf Q (t ∷ concat_map (subterms_in f s) (children (get_term s t)))
          go (inl e) k = sub-first (apply g ts) t _ r Q e
          go (inr n) k = rw r.1 (sub_more (λ x m. Memᴰ.tail m) (k n))

      subs-back : (TS : Trees) (f : ℕ) (ts : List ℕ) → Below f ts → Reps TS s ts → (Q : TreePair) → Memᴰ Q (reflexive_trees TS) → SubOf Q (concat_map (subterms_in f s) ts)
      subs-back tnil f ts h r Q m = absurd (Memᴰ.not-nil m)
      subs-back (tcons T TS) f [] h r Q m = absurd r
      subs-back (tcons T TS) f (t ∷ ts) h r Q m =
          go (Memᴰ.append_cases (reflexive_tree T) m) (λ n. sub_back T f t (h t (Memᴰ.head refl)) r.0 Q n) (λ n. subs-back TS f ts (λ x k. h x (Memᴰ.tail k)) r.1 Q n)
        where
          go : Memᴰ Q (reflexive_tree T) ⊎ Memᴰ Q (reflexive_trees TS)
              → (Memᴰ Q (reflexive_tree T) → SubOf Q (subterms_in f s t)) → (Memᴰ Q (reflexive_trees TS) → SubOf Q (concat_map (subterms_in f s) ts))
              → SubOf Q (subterms_in f s t ++ concat_map (subterms_in f s) ts)
          go (inl n) a b = sub_more (λ x. Memᴰ.append_left (concat_map (subterms_in f s) ts)) (a n)
          go (inr n) a b = sub_more (λ x. Memᴰ.append_right (subterms_in f s t)) (b n)

  sub-pairs : {PS : List TreePair} (xs : List ℕ) → SubIn PS xs → (q : Proposition) → Memᴰ q (map same xs) → Found PS s q
  sub-pairs xs k q m = let x = Memᴰ.of_map same xs m in rw (← x.2) (k.each x.1)

pub reflexive-covers : (T : Tree) (s : List Term) (t : ℕ) → Ordered s → Rep T s t → Covers (reflexive_tree T) s (reflexive s t)
unfolding reflexive
reflexive-covers T s t o r = record {
  each = λ {q} m. sub-pairs s (subterms_in (suc t) s t) (sub_in s (suc t) T t r) q m;
  back = λ {Q} m. let k = sub_back s o T (suc t) t (omega arith) r Q m in record { pair = same k.number; member = Memᴰ.map same k.member; stands = k.stands };
}

pub reps_below : (TS : Trees) (s : List Term) (ts : List ℕ) → Reps TS s ts → Below (length s) ts
reps_below tnil s [] r x m = absurd (Memᴰ.not-nil m)
reps_below tnil s (t ∷ ts) r x m = absurd r
reps_below (tcons T TS) s [] r x m = absurd r
reps_below (tcons T TS) s (t ∷ ts) r x m = go (Memᴰ.cases_cons m) (reps_below TS s ts r.1 x)
  where
    go : (x ≡ t) ⊎ Memᴰ x ts → (Memᴰ x ts → x < length s) → x < length s
    go (inl e) k = rw e (rep-inside T s t r.0)
    go (inr n) k = k n

module _ (prog : Program) (rows : List TreeRow) where
  -- a store that the check may have, and one that comes after another
  pub record World (s : List Term) : Type 0 where
    pub distinct : Distinct s
    pub ordered : Ordered s
    pub table : Table s rows prog.rows

  pub record After (s s' : List Term) : Type 0 where
    pub grows : Extends s s'
    pub world : World s'

  pub keeps : {s s' : List Term} → After s s' → Keeps s s'
  keeps a = extends-keeps a.grows

  pub stay : {s : List Term} → World s → After s s
  stay w = record { grows = extends-same; world = w }

  pub then : {s s' s'' : List Term} → After s s' → After s' s'' → After s s''
  then a b = record { grows = extends-then a.grows b.grows; world = b.world }

  -- a number and its tree, in a store that came after s
  pub record Made (s : List Term) (t : ℕ) (s' : List Term) (T : Tree) : Type 0 where
    pub after : After s s'
    pub rep : Rep T s' t

  pub record Mades (s : List Term) (ts : List ℕ) (s' : List Term) (TS : Trees) : Type 0 where
    pub after : After s s'
    pub reps : Reps TS s' ts

  pub record Valued (s : List Term) (v : Value) (s' : List Term) (V' : TreeValue) : Type 0 where
    pub after : After s s'
    pub rep : Rep V'.tree s' v.term
    pub pairs : Covers V'.pairs s' v.pairs

  pub record Valueds (s : List Term) (v : Values) (s' : List Term) (V' : TreeValues) : Type 0 where
    pub after : After s s'
    pub reps : Reps V'.trees s' v.terms
    pub pairs : Covers V'.pairs s' v.pairs

  pub add-leaf : (room : Room) (l : Literal) (s : List Term) → World s → Agree (add_node room (lit l) s) (some (leaf l)) (Made s)
  add-leaf room l s w = add-agrees room (lit l) s (leaf l) λ n s' a. record {
    after = record { grows = a.grows; world = record { distinct = a.distinct w.distinct; ordered = a.ordered tt w.ordered; table = table-keeps (extends-keeps a.grows) w.table } };
    rep = a.there;
  }

  pub add_apply : (room : Room) (f : ℕ) (TS : Trees) (ts : List ℕ) (s : List Term) → World s → Reps TS s ts
      → Agree (add_node room (app f ts) s) (some (apply f TS)) (Made s)
  add_apply room f TS ts s w r = add-agrees room (app f ts) s (apply f TS) λ n s' a. record {
    after = record { grows = a.grows; world = record { distinct = a.distinct w.distinct; ordered = a.ordered (reps_below TS s ts r) w.ordered; table = table-keeps (extends-keeps a.grows) w.table } };
    rep = (ts, a.there, reps_keeps TS (extends-keeps a.grows) ts r);
  }

  -- a look-up on both sides
  pub made-or : (O : Option Tree) (o : Option ℕ) (s : List Term) → World s → Maybe O s o → (n : ℕ) (fs : List ℕ) → Nonzero {0} n → Agree (or_refuse o n fs s) O (Made s)
  unfolding or_refuse
  made-or none none s w m n fs z = agree-none z
  made-or none (some t) s w m n fs z = absurd m
  made-or (some T) none s w m n fs z = absurd m
  made-or (some T) (some t) s w m n fs z = agree-ok (record { after = stay w; rep = m })

  -- a value on both sides or on neither, in a store that came after s
  pub record Perhaps (s : List Term) (o : Option ℕ) (s' : List Term) (O : Option Tree) : Type 0 where
    pub after : After s s'
    pub maybe : Maybe O s' o

  -- a count's result, added
  count-agrees : (room : Room) (v : Option Literal) (s : List Term) → World s → Agree (add_count room v s) (some (v >>? λ l. some (leaf l))) (Perhaps s)
  count-agrees room none s w = agree-ok (record { after = stay w; maybe = tt })
  count-agrees room (some l) s w =
      agree-bind {O = some (leaf l)} {F = λ T. some (some T)} (add-leaf room l s w) λ n s' T m. agree-ok (record { after = m.after; maybe = m.rep })

  -- a primitive's validator on both sides
  pub valid-agrees : (room : Room) (p : ℕ) (TS : Trees) (ts : List ℕ) (s : List Term) → World s → Reps TS s ts
      → Agree (validate room prog p ts s) (some (tree_validate prog rows p TS)) (Perhaps s)
  unfolding validate tree_validate
  valid-agrees room p TS ts s w r = by (computes (primitive_at prog.primitives p))
    where
      by : (b : Bool) → Agree (validate_by room prog p ts b s) (some (tree_validate_by prog rows p TS b)) (Perhaps s)
      by false = agree-ok (record { after = stay w; maybe = row_same w.distinct w.table p TS ts r })
      by true = rw (counts_same TS s ts r) (count-agrees room (count_value (primitive_at prog.primitives p).kind (counts_in s ts)) s w)

  made_row : (room : Room) (n p : ℕ) → Nonzero {0} n → (TS : Trees) (ts : List ℕ) (s : List Term) → World s → Reps TS s ts → (b : Bool)
      → Agree (validated_by room prog n p ts b s) (tree_validated_by prog rows p TS b) (Made s)
  made_row room n p z TS ts s w r false = agree-none z
  made_row room n p z TS ts s w r true =
      agree-bind {O = some (tree_validate prog rows p TS)} {F = λ O. O} (valid-agrees room p TS ts s w r) λ o s' O m.
      agree-map (made-or O o s' m.after.world m.maybe 46 _ tt) λ t s'' T k. record { after = then m.after k.after; rep = k.rep }

  valued-of : {s s' : List Term} {T : Tree} {t : ℕ} (PS : List TreePair) (ps : List Proposition) → Covers PS s ps → Made s t s' T
      → Agree (valued ps t s') (tree_valued PS T) (Valued s)
  valued-of {s} {s'} {T} {t} PS ps c m = agree-ok (record {
    after = m.after;
    rep = m.rep;
    pairs = covers-append (covers-keeps (keeps m.after) c) (reflexive-covers T s' t m.after.world.ordered m.rep);
  })

  module _ (room : Room) (rule : ℕ) where
    head-agrees : (Σ' : List TreeBinding) (σ : List Binding) (h : Head) (V' : TreeValues) (v : Values) (s : List Term)
        → World s → Binds s Σ' σ → Reps V'.trees s v.terms → Covers V'.pairs s v.pairs
        → Agree (head_value room prog rule σ h v s) (tree_head_value prog rows Σ' h V') (Valued s)
    unfolding head_value
    head-agrees Σ' σ (literal l) V' v s w b r c =
        agree-bind {O = some (leaf l)} {F = tree_valued []} (add-leaf room l s w) λ n s' T m. valued-of [] [] covers-none m
    head-agrees Σ' σ (variable x) V' v s w b r c =
        agree-bind (made-or (tree_lookup Σ' x) (lookup σ x) s w (lookup-same b x) 45 (rule ∷ x ∷ []) tt) λ n s' T m. valued-of [] [] covers-none m
    head-agrees Σ' σ (constructor f) V' v s w b r c =
        agree-bind {O = some (apply f V'.trees)} {F = tree_valued V'.pairs} (add_apply room f V'.trees v.terms s w r) λ n s' T m. valued-of V'.pairs v.pairs c m
    head-agrees Σ' σ (custom f) V' v s w b r c =
        agree-bind {O = some (apply f V'.trees)} {F = tree_valued V'.pairs} (add_apply room f V'.trees v.terms s w r) λ n s' T m. valued-of V'.pairs v.pairs c m
    head-agrees Σ' σ (primitive p) V' v s w b r c =
        agree-bind (made_row room 51 p tt V'.trees v.terms s w r (primitive_at prog.primitives p).validator) λ n s' T m. valued-of V'.pairs v.pairs c m

    mutual
      unfolding eval_expr tree_eval

      pub eval-agrees : (e : Expr) (Σ' : List TreeBinding) (σ : List Binding) (s : List Term) → World s → Binds s Σ' σ
          → Agree (eval_expr room prog rule σ e s) (tree_eval prog rows e Σ') (Valued s)
      eval-agrees (node i h es) Σ' σ s w b =
          agree-bind (evals_agree es Σ' σ s w b) λ vs s₁ VS m.
          agree-map (head-agrees Σ' σ h VS vs s₁ m.after.world (binds-keeps (keeps m.after) b) m.reps m.pairs) λ v s₂ V' n.
          record { after = then m.after n.after; rep = n.rep; pairs = n.pairs }

      evals_agree : (es : Exprs) (Σ' : List TreeBinding) (σ : List Binding) (s : List Term) → World s → Binds s Σ' σ
          → Agree (eval_exprs room prog rule σ es s) (tree_evals prog rows es Σ') (Valueds s)
      evals_agree nil Σ' σ s w b = agree-ok (record { after = stay w; reps = tt; pairs = covers-none })
      evals_agree (cons e es) Σ' σ s w b =
          agree-bind (eval-agrees e Σ' σ s w b) λ v s₁ V' m.
          agree-bind (evals_agree es Σ' σ s₁ m.after.world (binds-keeps (keeps m.after) b)) λ vs s₂ VS n.
          agree-ok (record {
            after = then m.after n.after;
            reps = (rep-keeps V'.tree (keeps n.after) v.term m.rep, n.reps);
            pairs = covers-append (covers-keeps (keeps n.after) m.pairs) n.pairs;
          })

    fact-head-agrees : (Σ' : List TreeBinding) (σ : List Binding) (h : Head) (TS : Trees) (ts : List ℕ) (s : List Term)
        → World s → Binds s Σ' σ → Reps TS s ts
        → Agree (fact_head_value room prog rule σ h ts s) (tree_fact_head_value prog rows Σ' h TS) (Made s)
    unfolding fact_head_value
    fact-head-agrees Σ' σ (literal l) TS ts s w b r = add-leaf room l s w
    fact-head-agrees Σ' σ (variable x) TS ts s w b r = made-or (tree_lookup Σ' x) (lookup σ x) s w (lookup-same b x) 45 (rule ∷ x ∷ []) tt
    fact-head-agrees Σ' σ (constructor f) TS ts s w b r = add_apply room f TS ts s w r
    fact-head-agrees Σ' σ (custom f) TS ts s w b r = agree-none tt
    fact-head-agrees Σ' σ (primitive p) TS ts s w b r = made_row room 47 p tt TS ts s w r (primitive_at prog.primitives p).validator

    mutual
      unfolding eval_fact_expr tree_fact_eval

      pub fact-eval-agrees : (e : Expr) (Σ' : List TreeBinding) (σ : List Binding) (s : List Term) → World s → Binds s Σ' σ
          → Agree (eval_fact_expr room prog rule σ e s) (tree_fact_eval prog rows e Σ') (Made s)
      fact-eval-agrees (node i h es) Σ' σ s w b =
          agree-bind (fact_evals_agree es Σ' σ s w b) λ ts s₁ TS m.
          agree-map (fact-head-agrees Σ' σ h TS ts s₁ m.after.world (binds-keeps (keeps m.after) b) m.reps) λ t s₂ T n.
          record { after = then m.after n.after; rep = n.rep }

      pub fact_evals_agree : (es : Exprs) (Σ' : List TreeBinding) (σ : List Binding) (s : List Term) → World s → Binds s Σ' σ
          → Agree (eval_fact_exprs room prog rule σ es s) (tree_fact_evals prog rows es Σ') (Mades s)
      fact_evals_agree nil Σ' σ s w b = agree-ok (record { after = stay w; reps = tt })
      fact_evals_agree (cons e es) Σ' σ s w b =
          agree-bind (fact-eval-agrees e Σ' σ s w b) λ t s₁ T m.
          agree-bind (fact_evals_agree es Σ' σ s₁ m.after.world (binds-keeps (keeps m.after) b)) λ ts s₂ TS n.
          agree-ok (record {
            after = then m.after n.after;
            reps = (rep-keeps T (keeps n.after) t m.rep, n.reps);
          })
