-- Terms as trees, and what expressions, facts, actions and merges mean on trees: no store, no numbers.
use Rattle.std.specs.Prelude.{ℕ, zero, suc, List, [], ◌∷◌, ◌++◌, Bool, true, false, ◌&&◌, eqb, ℤ}
use Rattle.std.proofs.Math.Option.{Option, none, some}
use Rattle.model.specs.Term.{Term, Literal, lit, var, app, same_literal, get_term}
use Rattle.model.specs.Program.{name_old, name_new, Head, literal, variable, constructor, custom, primitive, Expr, node, Exprs, nil, cons, Program, Row, Fact, equal, bare, Action, bind, union, run, idle, computes}
use Rattle.model.specs.Counts.{count_of, count_value}
use Rattle.model.specs.Evaluate.{primitive_at}
use Rattle.model.specs.Fact.{head_of, args_of, variable_of, FunctionFact, function_fact}
use Rattle.model.specs.Action.{merge_of}
use Rattle.model.specs.Normalize.{normaliser_of, unwrap_or}
use Rattle.model.specs.Check.{◌>>?◌}

-- A term with its children in place.
mutual
  pub data Tree : Type 0 where
    leaf : Literal → Tree
    named : ℕ → Tree
    apply : ℕ → Trees → Tree

  pub data Trees : Type 0 where
    tnil : Trees
    tcons : Tree → Trees → Trees

-- Equality of trees, as a test.
abbrev mutual
  pub same_tree : Tree → Tree → Bool
  same_tree (leaf a) (leaf b) = same_literal a b
  same_tree (leaf a) (named y) = false
  same_tree (leaf a) (apply g ys) = false
  same_tree (named x) (leaf b) = false
  same_tree (named x) (named y) = eqb x y
  same_tree (named x) (apply g ys) = false
  same_tree (apply f xs) (leaf b) = false
  same_tree (apply f xs) (named y) = false
  same_tree (apply f xs) (apply g ys) = eqb f g && same_trees xs ys

  pub same_trees : Trees → Trees → Bool
  same_trees tnil tnil = true
  same_trees tnil (tcons y ys) = false
  same_trees (tcons x xs) tnil = false
  same_trees (tcons x xs) (tcons y ys) = same_tree x y && same_trees xs ys

abbrev pub trees_by : (ℕ → Tree) → List ℕ → Trees
trees_by f [] = tnil
trees_by f (x ∷ xs) = tcons (f x) (trees_by f xs)

-- The tree of a term, from its children's; no admitted job leads to a number without a term.
abbrev pub tree_of_term : (ℕ → Tree) → Option Term → Tree
tree_of_term f none = named 0
tree_of_term f (some (lit l)) = leaf l
tree_of_term f (some (var x)) = named x
tree_of_term f (some (app g xs)) = apply g (trees_by f xs)

-- The tree of a number, by fuel: a child has a lower number, so one more than the number is enough.
unfoldable pub tree_in : ℕ → List Term → ℕ → Tree
tree_in zero s t = named 0
tree_in (suc f) s t = tree_of_term (tree_in f s) (get_term s t)

-- The tree of a number.
abbrev pub tree_of : List Term → ℕ → Tree
tree_of s t = tree_in (suc t) s t

pub record TreePair : Type 0 where
  pub left : Tree
  pub right : Tree

pub record TreeBinding : Type 0 where
  pub name : ℕ
  pub tree : Tree

pub record TreeRow : Type 0 where
  pub primitive : ℕ
  pub result : Tree
  pub arguments : Trees

-- The job's rows, as trees.
abbrev pub tree_rows : List Term → List Row → List TreeRow
tree_rows s [] = []
tree_rows s (r ∷ rs) = record { primitive = r.primitive; result = tree_of s r.result; arguments = trees_by (tree_of s) r.arguments } ∷ tree_rows s rs

abbrev pub tree_lookup : List TreeBinding → ℕ → Option Tree
tree_lookup [] x = none
tree_lookup (b ∷ bs) x = elim (eqb b.name x) [ true ↦ some b.tree | false ↦ tree_lookup bs x ]

abbrev pub tree_row : List TreeRow → ℕ → Trees → Option Tree
tree_row [] p xs = none
tree_row (r ∷ rs) p xs =
    elim (eqb r.primitive p && same_trees r.arguments xs) [ true ↦ some r.result | false ↦ tree_row rs p xs ]

-- The integers that trees stand for.
abbrev pub tree_count : Tree → Option ℤ
tree_count (leaf l) = count_of l
tree_count (named x) = none
tree_count (apply f ts) = none

abbrev pub tree_counts : Trees → List (Option ℤ)
tree_counts tnil = []
tree_counts (tcons t ts) = tree_count t ∷ tree_counts ts

-- A tree, related to itself.
abbrev pub both : Tree → TreePair
both t = record { left = t; right = t }

-- A tree and each of its subtrees, related to itself.
unfoldable mutual
  pub reflexive_tree : Tree → List TreePair
  reflexive_tree (leaf l) = both (leaf l) ∷ []
  reflexive_tree (named x) = both (named x) ∷ []
  reflexive_tree (apply f ts) = both (apply f ts) ∷ reflexive_trees ts

  pub reflexive_trees : Trees → List TreePair
  reflexive_trees tnil = []
  reflexive_trees (tcons t ts) = reflexive_tree t ++ reflexive_trees ts

pub record TreeValue : Type 0 where
  pub tree : Tree
  pub pairs : List TreePair

pub record TreeValues : Type 0 where
  pub trees : Trees
  pub pairs : List TreePair

-- A tree with the pairs collected so far and its own reflexive ones.
abbrev pub tree_valued : List TreePair → Tree → Option TreeValue
tree_valued ps t = some (record { tree = t; pairs = ps ++ reflexive_tree t })

-- The trees with one more behind them.
abbrev pub snoc : Trees → Tree → Trees
snoc tnil t = tcons t tnil
snoc (tcons x xs) t = tcons x (snoc xs t)

abbrev pub tree_bind_output : List TreeBinding → Option ℕ → Tree → Option (List TreeBinding)
tree_bind_output σ none t = none
tree_bind_output σ (some x) t = some (record { name = x; tree = t } ∷ σ)

unfoldable pub tree_compare_sides : List TreeBinding → Option ℕ → Option Tree → Option ℕ → Option Tree → Option (List TreeBinding)
tree_compare_sides σ lv none rv none = none
tree_compare_sides σ lv none rv (some b) = tree_bind_output σ lv b
tree_compare_sides σ lv (some a) rv none = tree_bind_output σ rv a
tree_compare_sides σ lv (some a) rv (some b) = elim (same_tree a b) [ true ↦ some σ | false ↦ none ]

pub record TreeContext : Type 0 where
  pub bindings : List TreeBinding
  pub pairs : List TreePair

abbrev pub tree_start : List TreeBinding → TreeContext
tree_start σ = record { bindings = σ; pairs = [] }

abbrev pub tree_merge_bindings : Tree → Tree → List TreeBinding
tree_merge_bindings old new = record { name = name_old; tree = old } ∷ record { name = name_new; tree = new } ∷ []

module _ (prog : Program) (rows : List TreeRow) where
  abbrev pub tree_validate_by : ℕ → Trees → Bool → Option Tree
  tree_validate_by p ts false = tree_row rows p ts
  tree_validate_by p ts true = count_value (primitive_at prog.primitives p).kind (tree_counts ts) >>? λ l. some (leaf l)

  -- A primitive's validator: it computes, or looks rows up.
  unfoldable pub tree_validate : ℕ → Trees → Option Tree
  tree_validate p ts = tree_validate_by p ts (computes (primitive_at prog.primitives p))

  abbrev pub tree_validated_by : ℕ → Trees → Bool → Option Tree
  tree_validated_by p ts false = none
  tree_validated_by p ts true = tree_validate p ts

  abbrev pub tree_validated : ℕ → Trees → Option Tree
  tree_validated p ts = tree_validated_by p ts (primitive_at prog.primitives p).validator

  abbrev pub tree_head_value : List TreeBinding → Head → TreeValues → Option TreeValue
  tree_head_value σ (literal l) vs = tree_valued [] (leaf l)
  tree_head_value σ (variable x) vs = tree_lookup σ x >>? tree_valued []
  tree_head_value σ (constructor f) vs = tree_valued vs.pairs (apply f vs.trees)
  tree_head_value σ (custom f) vs = tree_valued vs.pairs (apply f vs.trees)
  tree_head_value σ (primitive p) vs = tree_validated p vs.trees >>? tree_valued vs.pairs

  -- Evaluation in heads, globals, merges and side conditions.
  unfoldable mutual
    pub tree_eval : Expr → List TreeBinding → Option TreeValue
    tree_eval (node i h es) σ = tree_evals es σ >>? tree_head_value σ h

    pub tree_evals : Exprs → List TreeBinding → Option TreeValues
    tree_evals nil σ = some (record { trees = tnil; pairs = [] })
    tree_evals (cons e es) σ =
        tree_eval e σ >>? λ v.
        tree_evals es σ >>? λ vs.
        some (record { trees = tcons v.tree vs.trees; pairs = v.pairs ++ vs.pairs })

  abbrev pub tree_fact_head_value : List TreeBinding → Head → Trees → Option Tree
  tree_fact_head_value σ (literal l) ts = some (leaf l)
  tree_fact_head_value σ (variable x) ts = tree_lookup σ x
  tree_fact_head_value σ (constructor f) ts = some (apply f ts)
  tree_fact_head_value σ (custom f) ts = none
  tree_fact_head_value σ (primitive p) ts = tree_validated p ts

  -- Evaluation in ordinary facts.
  unfoldable mutual
    pub tree_fact_eval : Expr → List TreeBinding → Option Tree
    tree_fact_eval (node i h es) σ = tree_fact_evals es σ >>? tree_fact_head_value σ h

    pub tree_fact_evals : Exprs → List TreeBinding → Option Trees
    tree_fact_evals nil σ = some tnil
    tree_fact_evals (cons e es) σ = tree_fact_eval e σ >>? λ t. tree_fact_evals es σ >>? λ ts. some (tcons t ts)

  abbrev pub tree_wanted_equality : List TreeBinding → Expr → Expr → Option FunctionFact → Option TreePair
  tree_wanted_equality σ l r (some f) =
      tree_lookup σ f.variable >>? λ v. tree_fact_evals (args_of l) σ >>? λ ts. some (both (apply f.function (snoc ts v)))
  tree_wanted_equality σ l r none = tree_fact_eval l σ >>? λ a. tree_fact_eval r σ >>? λ b. some (record { left = a; right = b })

  -- The pair that an ordinary fact wants related; of a bare one, the term to itself.
  unfoldable pub tree_wanted : List TreeBinding → Fact → Option TreePair
  tree_wanted σ (equal i l r) = tree_wanted_equality σ l r (function_fact l r)
  tree_wanted σ (bare i e) = tree_fact_eval e σ >>? λ t. some (both t)

  abbrev pub tree_side_by : List TreeBinding → Expr → Option ℕ → Option (Option Tree)
  tree_side_by σ e (some x) = some (tree_lookup σ x)
  tree_side_by σ e none = tree_eval e σ >>? λ v. some (some v.tree)

  -- A side of a condition: a variable may be without a value.
  abbrev pub tree_side : List TreeBinding → Expr → Option (Option Tree)
  tree_side σ e = tree_side_by σ e (variable_of (head_of e))

  -- A container side condition: the bindings after it. A bare one passes; in strict mode, where it has a value.
  unfoldable pub tree_condition : Bool → List TreeBinding → Fact → Option (List TreeBinding)
  tree_condition strict σ (bare i e) = elim strict [ true ↦ tree_side σ e >>? λ _. some σ | false ↦ some σ ]
  tree_condition strict σ (equal i l r) =
      tree_side σ l >>? λ a. tree_side σ r >>? λ b. tree_compare_sides σ (variable_of (head_of l)) a (variable_of (head_of r)) b

  abbrev pub tree_action : TreeContext → Action → Option TreeContext
  tree_action c (bind x e) =
      tree_eval e c.bindings >>? λ v.
      some (record { bindings = record { name = x; tree = v.tree } ∷ c.bindings; pairs = c.pairs ++ v.pairs })
  tree_action c (union l r) =
      tree_eval l c.bindings >>? λ a.
      tree_eval r c.bindings >>? λ b.
      some (record {
        bindings = c.bindings;
        pairs = c.pairs ++ a.pairs ++ b.pairs ++
            (record { left = a.tree; right = b.tree } ∷ record { left = b.tree; right = a.tree } ∷ []);
      })
  tree_action c (run e) =
      tree_eval e c.bindings >>? λ v.
      some (record { bindings = c.bindings; pairs = c.pairs ++ v.pairs })
  tree_action c idle = some c

  -- Actions: the bindings and the pairs after them.
  unfoldable pub tree_actions : List Action → TreeContext → Option TreeContext
  tree_actions [] c = some c
  tree_actions (a ∷ as') c = tree_action c a >>? tree_actions as'

  -- The global actions, from no bindings.
  abbrev pub tree_globals : Option TreeContext
  tree_globals = tree_actions prog.globals (tree_start [])

  -- The merge that a name leads to, on an old and a new value.
  unfoldable pub tree_merge : ℕ → Tree → Tree → Option TreeValue
  tree_merge g old new = merge_of prog.functions g >>? λ e. tree_eval e (tree_merge_bindings old new)

  abbrev pub tree_normal_by : Trees → Tree → Option ℕ → Tree
  tree_normal_by ts t none = t
  tree_normal_by ts t (some p) = unwrap_or (tree_validate p ts) t

  -- A container's normal form; no normaliser, or no value, gives the tree itself.
  abbrev pub tree_normal : Tree → Tree
  tree_normal (leaf l) = leaf l
  tree_normal (named x) = named x
  tree_normal (apply f ts) = tree_normal_by ts (apply f ts) (normaliser_of prog.normalisers f)
