-- The relations of the mission's third demand: symmetric, transitive, with literals and the global pairs, and closed under rule instances,
-- replacing one argument, merge steps and container normalisation. A rule's side conditions pass as the mode says, which is a parameter.
use Rattle.std.specs.Prelude.{ℕ, zero, suc, ◌≡◌, Bool, true, false}
use mathlib.Core.List.{List, [], ◌∷◌, ◌++◌, Memᴰ}
use Rattle.std.proofs.Math.Option.{Option, none, some}
use Rattle.model.specs.Term.{Literal}
use Rattle.model.specs.Program.{Program, Fact, Rule, Job}
use Rattle.model.specs.Fact.{fact_offence, is_container_side_condition}
use Rattle.model.specs.Tree.{Tree, leaf, apply, Trees, tnil, tcons, TreePair, TreeBinding, TreeRow, tree_rows, TreeValue, TreeContext, tree_start, both, snoc, tree_wanted, tree_condition, tree_actions, tree_globals, tree_merge, tree_normal}

-- Every fact of a rule is in normal form.
abbrev pub Normal : Program → Rule → Type 0
Normal prog r = (f : Fact) → Memᴰ f r.facts → fact_offence prog f ≡ none

abbrev pub child : Trees → ℕ → Option Tree
child tnil n = none
child (tcons x xs) zero = some x
child (tcons x xs) (suc n) = child xs n

-- The trees with another in place n.
abbrev pub replaced : Trees → ℕ → Tree → Trees
replaced tnil n t = tnil
replaced (tcons x xs) zero t = tcons t xs
replaced (tcons x xs) (suc n) t = tcons x (replaced xs n t)

module _ (prog : Program) (rows : List TreeRow) (strict : Bool) where
  -- The facts of a rule hold in R, from the bindings σ to the bindings τ: side conditions pass, each other fact's pair is related.
  pub data FactsHold {ℓ} (R : Tree → Tree → Type ℓ) : List Fact → List TreeBinding → List TreeBinding → Type ℓ where
    done : {σ : List TreeBinding} → FactsHold R [] σ σ
    side : {f : Fact} {fs : List Fact} {σ σ' τ : List TreeBinding}
        → is_container_side_condition prog f ≡ true → tree_condition prog rows strict σ f ≡ some σ' → FactsHold R fs σ' τ → FactsHold R (f ∷ fs) σ τ
    premise : {f : Fact} {fs : List Fact} {σ τ : List TreeBinding} {q : TreePair}
        → is_container_side_condition prog f ≡ false → tree_wanted prog rows σ f ≡ some q → R q.left q.right → FactsHold R fs σ τ
        → FactsHold R (f ∷ fs) σ τ

  -- One field for each closing of document 01, over relations of every universe level.
  pub record Closed {ℓ} (R : Tree → Tree → Type ℓ) : Type ℓ where
    pub symmetric : {a b : Tree} → R a b → R b a
    pub transitive : {a b c : Tree} → R a b → R b c → R a c
    pub literals : (l : Literal) → R (leaf l) (leaf l)
    pub globals : (c : TreeContext) → tree_globals prog rows ≡ some c → (q : TreePair) → Memᴰ q c.pairs → R q.left q.right
    pub rules : (g : TreeContext) → tree_globals prog rows ≡ some g
        → (r : Rule) → Memᴰ r prog.rules → Normal prog r
        → (σ τ : List TreeBinding) → FactsHold R r.facts (σ ++ g.bindings) τ
        → (c : TreeContext) → tree_actions prog rows r.actions (tree_start τ) ≡ some c
        → (q : TreePair) → Memᴰ q c.pairs → R q.left q.right
    pub arguments : (f : ℕ) (ts : Trees) (i : ℕ) (a b : Tree) → R (apply f ts) (apply f ts) → child ts i ≡ some a → R a b
        → R (apply f ts) (apply f (replaced ts i b))
    pub merges : (f g : ℕ) (ts : Trees) (old new : Tree) (v : TreeValue)
        → R (apply f (snoc ts old)) (apply f (snoc ts old)) → R (apply f (snoc ts new)) (apply f (snoc ts new))
        → tree_merge prog rows g old new ≡ some v
        → (q : TreePair) → Memᴰ q (both (apply f (snoc ts v.tree)) ∷ v.pairs) → R q.left q.right
    pub normals : (t : Tree) → R t t → R t (tree_normal prog rows t)

  -- The pairs reached by finitely many closings, and the facts that hold in them.
  mutual
    pub data Derived : Tree → Tree → Type 0 where
      symmetric : {a b : Tree} → Derived a b → Derived b a
      transitive : {a b c : Tree} → Derived a b → Derived b c → Derived a c
      literals : (l : Literal) → Derived (leaf l) (leaf l)
      globals : (c : TreeContext) → tree_globals prog rows ≡ some c → (q : TreePair) → Memᴰ q c.pairs → Derived q.left q.right
      rules : (g : TreeContext) → tree_globals prog rows ≡ some g
          → (r : Rule) → Memᴰ r prog.rules → Normal prog r
          → (σ τ : List TreeBinding) → FactsDerived r.facts (σ ++ g.bindings) τ
          → (c : TreeContext) → tree_actions prog rows r.actions (tree_start τ) ≡ some c
          → (q : TreePair) → Memᴰ q c.pairs → Derived q.left q.right
      arguments : (f : ℕ) (ts : Trees) (i : ℕ) (a b : Tree) → Derived (apply f ts) (apply f ts) → child ts i ≡ some a → Derived a b
          → Derived (apply f ts) (apply f (replaced ts i b))
      merges : (f g : ℕ) (ts : Trees) (old new : Tree) (v : TreeValue)
          → Derived (apply f (snoc ts old)) (apply f (snoc ts old)) → Derived (apply f (snoc ts new)) (apply f (snoc ts new))
          → tree_merge prog rows g old new ≡ some v
          → (q : TreePair) → Memᴰ q (both (apply f (snoc ts v.tree)) ∷ v.pairs) → Derived q.left q.right
      normals : (t : Tree) → Derived t t → Derived t (tree_normal prog rows t)

    pub data FactsDerived : List Fact → List TreeBinding → List TreeBinding → Type 0 where
      done : {σ : List TreeBinding} → FactsDerived [] σ σ
      side : {f : Fact} {fs : List Fact} {σ σ' τ : List TreeBinding}
          → is_container_side_condition prog f ≡ true → tree_condition prog rows strict σ f ≡ some σ' → FactsDerived fs σ' τ → FactsDerived (f ∷ fs) σ τ
      premise : {f : Fact} {fs : List Fact} {σ τ : List TreeBinding} {q : TreePair}
          → is_container_side_condition prog f ≡ false → tree_wanted prog rows σ f ≡ some q → Derived q.left q.right → FactsDerived fs σ τ
          → FactsDerived (f ∷ fs) σ τ

-- A relation that is closed for a job in a mode: its rows are those of its terms' trees.
abbrev pub ClosedFor {ℓ} : Bool → Job → (Tree → Tree → Type ℓ) → Type ℓ
ClosedFor strict job R = Closed job.program (tree_rows job.terms job.program.rows) strict R
