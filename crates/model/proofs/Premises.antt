-- The premises of the closings count. Of a program with a rule out of normal form, a merge and a normaliser, some closed relation relates no application at all and not
-- the pair of that rule's head, though the rule's facts hold in it and the merge has a value, in either mode.
use Prim.Native.Nat.{ℕ}
use native.Mathlib.Omega.{arith}
use mathlib.Core.Path.{◌≡◌, refl, sym, subst, ◌∙◌}
use mathlib.Core.Logic.{◌⊎◌, inl, inr}
use mathlib.Core.List.Memᴰ
use mathlib.Core.List.{List, [], ◌∷◌, Memᴰ}
use mathlib.Core.Bool.{Bool, true, false}
use mathlib.Core.Option.{Option, none, some, none-ne-some, some-injective}
use Rattle.model.specs.Term.{Literal}
use Rattle.model.specs.Program.{literal, variable, constructor, primitive, node, nil, cons, Fact, bare, union, Rule, Program}
use Rattle.model.specs.Fact.{primitive_non_normal_arg, offence, offences, fact_offence}
use Rattle.model.specs.Action.{merge_of}
use Rattle.model.specs.Tree.{tree_validate, Tree, leaf, named, apply, Trees, tnil, tcons, TreePair, both, TreeRow, TreeContext, tree_start, reflexive_tree, snoc, tree_eval, tree_evals, tree_fact_eval, tree_fact_evals, tree_wanted, tree_actions, tree_globals, tree_merge, tree_normal}
use Rattle.model.specs.Relation.{Normal, FactsHold, Closed}

abbrev integer : ℕ → Literal
integer n = record { kind = 2; low = n; high = 0 }

-- a primitive call with a constructor call under it
abbrev offends : Fact
offends = bare 0 (node 2 (primitive 0) (cons (node 1 (constructor 7) nil) nil))

-- its head unites 1 and 2
abbrev unites : Rule
unites = record { name = 4; facts = offends ∷ []; actions = union (node 3 (literal (integer 1)) nil) (node 4 (literal (integer 2)) nil) ∷ [] }

abbrev program : Program
program = record {
  globals = [];
  functions = record { name = 5; merge = some (node 0 (variable 1) nil) } ∷ [];
  primitives = record { name = 6; kind = 1; validator = true; container = false } ∷ [];
  rows = [];
  normalisers = record { head = 9; primitive = 0 } ∷ [];
  rules = unites ∷ [];
}

abbrev rows : List TreeRow
rows = record { primitive = 0; result = leaf (integer 1); arguments = tcons (apply 7 tnil) tnil } ∷ []

-- two literals of one low word
abbrev low : Tree → Option ℕ
low (leaf l) = some l.low
low (named x) = none
low (apply f ts) = none

abbrev pub SameLow : Tree → Tree → Type 0
SameLow a b = (n : ℕ) × (low a ≡ some n) × (low b ≡ some n)

no-application : {A : Type 0} (f : ℕ) (ts : Trees) → SameLow (apply f ts) (apply f ts) → A
no-application f ts (n, h, k) = absurd (none-ne-some n h)

no_pairs : (c : TreeContext) → tree_globals program rows ≡ some c → (q : TreePair) → Memᴰ q c.pairs → ⊥
unfolding tree_actions
no_pairs c e q m = Memᴰ.not-nil (subst (λ (d : TreeContext). Memᴰ q d.pairs) (some-injective c (tree_start []) (sym e)) m)

offence-is : fact_offence program offends ≡ some (primitive_non_normal_arg 1)
unfolding offence offences
offence-is = refl

not-normal : (r : Rule) → Memᴰ r program.rules → Normal program r → ⊥
not-normal r m n = go (Memᴰ.cases_cons m)
  where
    go : (r ≡ unites) ⊎ Memᴰ r [] → ⊥
    go (inl e) = none-ne-some _ (sym (subst (Normal program) e n offends (Memᴰ.head refl)) ∙ offence-is)
    go (inr k) = Memᴰ.not-nil k

normal-low : (t : Tree) → SameLow t t → SameLow t (tree_normal program rows t)
normal-low (leaf l) h = h
normal-low (named x) (n, h, k) = absurd (none-ne-some n h)
normal-low (apply f ts) h = no-application f ts h

pub low-closed : (strict : Bool) → Closed program rows strict SameLow
low-closed strict = record {
  symmetric = λ (n, h, k). (n, k, h);
  transitive = λ (n, h, k) (m, i, j). (n, h, j ∙ sym i ∙ k);
  literals = λ l. (l.low, refl, refl);
  globals = λ c e q m. absurd (no_pairs c e q m);
  rules = λ g e r m n σ τ h c a q k. absurd (not-normal r m n);
  arguments = λ f ts i a b h c k. no-application f ts h;
  merges = λ f g ts old new v h k e q m. no-application f (snoc ts old) h;
  normals = normal-low;
}

-- all but the normal form holds of the rule
pub facts-hold : (strict : Bool) → FactsHold program rows strict SameLow unites.facts [] []
unfolding tree_wanted tree_fact_eval tree_fact_evals tree_validate
facts-hold strict = FactsHold.premise refl refl (1, refl, refl) FactsHold.done

pub head-pairs : tree_actions program rows unites.actions (tree_start [])
    ≡ some (record { bindings = []; pairs = both (leaf (integer 1)) ∷ both (leaf (integer 2)) ∷ record { left = leaf (integer 1); right = leaf (integer 2) } ∷ record { left = leaf (integer 2); right = leaf (integer 1) } ∷ [] })
unfolding tree_actions tree_eval tree_evals reflexive_tree
head-pairs = refl

pub not-united : SameLow (leaf (integer 1)) (leaf (integer 2)) → ⊥
not-united (n, h, k) = let e : 1 ≡ n = some-injective 1 n h in let f : 2 ≡ n = some-injective 2 n k in omega arith

-- and the merge of two views has a value
pub merges-new : (old new : Tree) → tree_merge program rows 5 old new ≡ some (record { tree = new; pairs = reflexive_tree new })
unfolding tree_merge merge_of tree_eval tree_evals
merges-new old new = refl
