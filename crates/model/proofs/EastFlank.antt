-- The job of the east flank in examples/east_flank.bin: a rule takes the narrowing of a position away where the position is exact, which is a bare container condition.
-- The rows have 2^24 as exact, and not 2^24 + 3. Mode 0 accepts the rule's step for either; strict mode refuses the second with 46, and some relation that is closed
-- in strict mode does not relate its two sides.
use Prim.Native.Nat.{ℕ, zero, suc, ◌/◌, ◌%◌}
use mathlib.Core.Path.{◌≡◌, refl, sym, ap, subst, subst⁻¹, ◌∙◌}
use mathlib.Core.Logic.{◌⊎◌, inl, inr}
use mathlib.Core.List.Memᴰ
use mathlib.Core.List.{List, [], ◌∷◌, ◌++◌, map, Memᴰ}
use mathlib.Core.Bool.{Bool, true, false, true≢false, ◌&&◌}
use mathlib.Core.Option.{Option, none, some, none-ne-some, some-injective}
use lib.ListN.{replicate}
use lib.Dec.{eqb}
use Rattle.model.specs.Cell.{tabulate, start_of, words_at, cells_of}
use Rattle.model.specs.Term.{read_term, find_term, get_term}
use Rattle.model.specs.Program.{Program, Fact, bare, Rule, node, nil, cons, primitive, variable, constructor, union}
use Rattle.model.specs.Layout.{sizes_of, kinds_of, ends_of, pool_of, tables_of}
use Rattle.model.specs.Decode.{job_of, expr_in, read_program, read_job}
use Rattle.model.specs.Check.{or_refuse, check_that, add_node, ◌>>?◌}
use Rattle.model.specs.Load.{refused_if, first_marked, doubles, load_refusal}
use Rattle.model.specs.Evaluate.{validate, subterms_in, reflexive, head_value, eval_exprs}
use Rattle.model.specs.Fact.{offences, assert_body_proof_normal_form, check_side_condition}
use Rattle.model.specs.Action.{process_actions, check_rule_produces_equality, merge_of}
use Rattle.model.specs.Walk.{check_premises, check_rule, check_proof_with_context, new_context, check_proof}
use Rattle.model.specs.Answer.{Arrays, checked, check, entry}
use Rattle.model.specs.Host.{words_of, host_answer, host_entry_mode, host_entry, program_answer}
use Rattle.model.specs.Tree.{TreeValue, TreeValues, tree_valued, tree_head_value, Tree, leaf, named, apply, Trees, tnil, tcons, TreePair, tree_in, reflexive_tree, reflexive_trees, tree_validate, tree_eval, tree_evals, tree_condition, tree_actions, tree_merge, same_trees, same_tree, TreeBinding, TreeRow, tree_rows, TreeContext, tree_lookup, tree_start, tree_normal}
use Rattle.model.specs.Relation.{ClosedFor, child, replaced, FactsHold}
use Rattle.model.proofs.Tests.{tree-eq, and_left}
use Rattle.model.proofs.Sound.{accepted}
use Rattle.model.proofs.Example.{all_pairs, all-member, not-leaf}

-- The sizes, the kinds, the ends and the pool.
unfoldable pub east_flank : List ℕ
east_flank =
    5 ∷ 3 ∷ 1 ∷ 1 ∷ 0 ∷ 0 ∷ 1 ∷ 1 ∷ 0 ∷ 1 ∷ 4 ∷ 46 ∷
    ((0 ∷ 0 ∷ 2 ∷ 2 ∷ 2 ∷ 1 ∷ 4 ∷ 2 ∷ 1 ∷ 1 ∷ 3 ∷ 0 ∷ 0 ∷ 0 ∷ 1 ∷ 0 ∷ 1 ∷ []) ++
    (3 ∷ 6 ∷ 8 ∷ 10 ∷ 12 ∷ 13 ∷ 15 ∷ 17 ∷ 18 ∷ 20 ∷ 21 ∷ 24 ∷ 28 ∷ 30 ∷ 37 ∷ 39 ∷ 46 ∷ []) ++
    (2 ∷ 16777216 ∷ 0 ∷ 2 ∷ 16777219 ∷ 0 ∷ 11 ∷ 0 ∷ 11 ∷ 1 ∷ 7 ∷ 0 ∷ 4 ∷ 0 ∷ 0 ∷ 11 ∷ 0 ∷ 1 ∷ 2 ∷ 0 ∷ 6 ∷ 0 ∷ 4 ∷ 0 ∷ 5 ∷ 1 ∷ 0 ∷ 0 ∷ 0 ∷ 0 ∷ 2 ∷ 0 ∷ 5 ∷ 1 ∷ 0 ∷ 4 ∷ 0 ∷ 1 ∷ 1 ∷ 3 ∷ 1 ∷ 5 ∷ 1 ∷ 2 ∷ 4 ∷ 1 ∷ []))

-- A store that has room for the job's terms and no more.
abbrev exactly : Arrays
exactly = record { kinds = replicate 5 0; ends = replicate 5 0; pool = replicate 12 0 }

-- Proofs 1 and 3 in mode 0 and in strict mode; in a mode that there is not, proof 3 and a proof that there is not.
answers : map (λ (q : ℕ × ℕ). (check east_flank q.0 q.1 exactly 16 18).answer) ((1, 0) ∷ (3, 0) ∷ (1, 1) ∷ (3, 1) ∷ (3, 2) ∷ (4, 2) ∷ [])
    ≡ (0 ∷ 5 ∷ 2 ∷ 0 ∷ 1 ∷ 0 ∷ 0 ∷ 0 ∷ []) ∷ (0 ∷ 5 ∷ 3 ∷ 1 ∷ 1 ∷ 0 ∷ 0 ∷ 0 ∷ []) ∷
    (0 ∷ 5 ∷ 2 ∷ 0 ∷ 1 ∷ 0 ∷ 0 ∷ 0 ∷ []) ∷ (46 ∷ 5 ∷ 6 ∷ 0 ∷ 0 ∷ 0 ∷ 0 ∷ 0 ∷ []) ∷ (11 ∷ 0 ∷ 0 ∷ 0 ∷ 0 ∷ 0 ∷ 0 ∷ 0 ∷ []) ∷ (3 ∷ 0 ∷ 0 ∷ 0 ∷ 0 ∷ 0 ∷ 0 ∷ 0 ∷ []) ∷ []
unfolding east_flank tabulate start_of words_at cells_of read_term find_term get_term sizes_of kinds_of ends_of pool_of tables_of expr_in read_program read_job or_refuse check_that add_node refused_if first_marked load_refusal doubles validate subterms_in reflexive head_value eval_exprs offences assert_body_proof_normal_form check_side_condition process_actions check_rule_produces_equality check_premises check_rule check_proof_with_context new_context check_proof checked check
answers = refl

-- The job's bytes.
abbrev bytes_of : List ℕ → List ℕ
bytes_of [] = []
bytes_of (w ∷ ws) = w % 256 ∷ w / 256 % 256 ∷ w / 65536 % 256 ∷ w / 16777216 ∷ bytes_of ws

-- The program and the host entry without a mode accept proof 3; the host entry with a mode does so in mode 0, and refuses it in strict mode.
by_bytes : program_answer (bytes_of east_flank) ∷ map (λ e. e.answer) (host_entry (bytes_of east_flank) 3 (replicate 8 0) ∷ host_entry_mode (bytes_of east_flank) 3 0 (replicate 8 0) ∷ host_entry_mode (bytes_of east_flank) 3 1 (replicate 8 0) ∷ [])
    ≡ (0 ∷ 5 ∷ 3 ∷ 1 ∷ 1 ∷ 0 ∷ 0 ∷ 0 ∷ []) ∷ (0 ∷ 5 ∷ 3 ∷ 1 ∷ 1 ∷ 0 ∷ 0 ∷ 0 ∷ []) ∷ (0 ∷ 5 ∷ 3 ∷ 1 ∷ 1 ∷ 0 ∷ 0 ∷ 0 ∷ []) ∷ (46 ∷ 5 ∷ 6 ∷ 0 ∷ 0 ∷ 0 ∷ 0 ∷ 0 ∷ []) ∷ []
unfolding east_flank tabulate start_of words_at cells_of read_term find_term get_term sizes_of kinds_of ends_of pool_of tables_of expr_in read_program read_job or_refuse check_that add_node refused_if first_marked load_refusal doubles validate subterms_in reflexive head_value eval_exprs offences assert_body_proof_normal_form check_side_condition process_actions check_rule_produces_equality check_premises check_rule check_proof_with_context new_context check_proof checked check words_of host_answer host_entry_mode
by_bytes = refl

abbrev pub integer : ℕ → Tree
integer n = leaf (record { kind = 2; low = n; high = 0 })

abbrev pub narrowing : Tree → Tree
narrowing t = apply 11 (tcons t tnil)

-- in mode 0 every closed relation relates the narrowing of 2^24 + 3 to that position
related {ℓ} : (R : Tree → Tree → Type ℓ) → ClosedFor false (job_of east_flank) R → R (narrowing (integer 16777219)) (integer 16777219)
unfolding east_flank tabulate start_of words_at cells_of read_term find_term get_term sizes_of kinds_of ends_of pool_of tables_of expr_in read_program read_job or_refuse check_that add_node refused_if first_marked load_refusal doubles subterms_in reflexive head_value eval_exprs offences assert_body_proof_normal_form check_side_condition process_actions check_rule_produces_equality check_premises check_rule check_proof_with_context new_context check_proof checked check entry tree_in
related R closed = (accepted R east_flank 3 0 exactly 16 18 (replicate 8 0) refl closed).related

-- in strict mode every closed relation does so for 2^24
related-exact {ℓ} : (R : Tree → Tree → Type ℓ) → ClosedFor true (job_of east_flank) R → R (narrowing (integer 16777216)) (integer 16777216)
unfolding east_flank tabulate start_of words_at cells_of read_term find_term get_term sizes_of kinds_of ends_of pool_of tables_of expr_in read_program read_job or_refuse check_that add_node refused_if first_marked load_refusal doubles validate subterms_in reflexive head_value eval_exprs offences assert_body_proof_normal_form check_side_condition process_actions check_rule_produces_equality check_premises check_rule check_proof_with_context new_context check_proof checked check entry tree_in
related-exact R closed = (accepted R east_flank 1 1 exactly 16 18 (replicate 8 0) refl closed).related

abbrev narrowed_by : ℕ → Trees → Bool → Tree
narrowed_by f ts true = integer 16777216
narrowed_by f ts false = apply f ts

-- The tree with every narrowing of 2^24 taken away.
abbrev mutual
  narrowed : Tree → Tree
  narrowed (leaf l) = leaf l
  narrowed (named x) = named x
  narrowed (apply f ts) = narrowed_by f (narrowed_all ts) (eqb f 11 && same_trees (narrowed_all ts) (tcons (integer 16777216) tnil))

  narrowed_all : Trees → Trees
  narrowed_all tnil = tnil
  narrowed_all (tcons t ts) = tcons (narrowed t) (narrowed_all ts)

abbrev pub SameNarrowed : Tree → Tree → Type 0
SameNarrowed a b = narrowed a ≡ narrowed b

replaced-narrowed : (ts : Trees) (i : ℕ) (a b : Tree) → child ts i ≡ some a → SameNarrowed a b → narrowed_all ts ≡ narrowed_all (replaced ts i b)
replaced-narrowed tnil i a b e h = refl
replaced-narrowed (tcons t ts) zero a b e h = ap (λ (x : Tree). tcons x (narrowed_all ts)) (ap narrowed (some-injective t a e) ∙ h)
replaced-narrowed (tcons t ts) (suc i) a b e h = ap (tcons (narrowed t)) (replaced-narrowed ts i a b e h)

abbrev program : Program
program = (job_of east_flank).program

abbrev rows : List TreeRow
rows = tree_rows (job_of east_flank).terms (job_of east_flank).program.rows

-- the rule's condition and its head
abbrev condition : Fact
condition = bare 0 (node 1 (primitive 0) (cons (node 0 (variable 4) nil) nil))

abbrev narrows : Rule
narrows = record { name = 5; facts = condition ∷ []; actions = union (node 2 (constructor 11) (cons (node 0 (variable 4) nil) nil)) (node 0 (variable 4) nil) ∷ [] }

-- the condition has a value at 2^24 alone
exact-alone : (σ σ' : List TreeBinding) → tree_condition program rows true σ condition ≡ some σ' → (tree_lookup σ 4 ≡ some (integer 16777216)) × (σ ≡ σ')
unfolding east_flank tabulate start_of words_at cells_of read_term get_term sizes_of kinds_of ends_of pool_of tables_of read_program read_job tree_in tree_validate tree_eval tree_condition
exact-alone σ σ' e = go (tree_lookup σ 4) refl e
  where
    found : List TreePair → Option Tree → Option (List TreeBinding)
    found ps o = ((o >>? tree_valued ps) >>? λ v. some (some v.tree)) >>? λ _. some σ

    by : (ps : List TreePair) (t : Tree) (b : Bool) → same_trees (tcons (integer 16777216) tnil) (tcons t tnil) ≡ b
        → found ps (elim b [ true ↦ some (apply 7 (tcons (integer 16777216) tnil)) | false ↦ none ]) ≡ some σ' → (integer 16777216 ≡ t) × (σ ≡ σ')
    by ps t true h e = (tree-eq (integer 16777216) t (and_left _ _ h), some-injective σ σ' e)
    by ps t false h e = absurd (none-ne-some σ' e)

    go : (o : Option Tree) → tree_lookup σ 4 ≡ o
        → (((((o >>? tree_valued []) >>? λ v. some (record { trees = tcons v.tree tnil; pairs = v.pairs ++ [] })) >>? tree_head_value program rows σ (primitive 0)) >>? λ v. some (some v.tree)) >>? λ _. some σ) ≡ some σ'
        → (tree_lookup σ 4 ≡ some (integer 16777216)) × (σ ≡ σ')
    go none l e = absurd (none-ne-some σ' e)
    go (some t) l e = let r = by (reflexive_tree t ++ []) t _ refl e in (l ∙ ap {B = Option Tree} some (sym r.0), r.1)

-- so the head gives pairs of the relation
head-pairs : (τ : List TreeBinding) → tree_lookup τ 4 ≡ some (integer 16777216) → (c : TreeContext) → tree_actions program rows narrows.actions (tree_start τ) ≡ some c
    → (q : TreePair) → Memᴰ q c.pairs → SameNarrowed q.left q.right
unfolding reflexive_trees tree_evals tree_actions
head-pairs τ l c e q m = tree-eq _ _ (all-member (λ r. same_tree (narrowed r.left) (narrowed r.right)) c.pairs (passes (tree_lookup τ 4) l e) q m)
  where
    -- the head's context, from the value of the position
    arguments : TreeValue → Option TreeValues
    arguments v = some (record { trees = tcons v.tree tnil; pairs = v.pairs ++ [] })

    union-of : TreeValue → TreeValue → Option TreeContext
    union-of a b = some (record { bindings = τ; pairs = [] ++ a.pairs ++ b.pairs ++ (record { left = a.tree; right = b.tree } ∷ record { left = b.tree; right = a.tree } ∷ []) })

    context : Option Tree → Option TreeContext
    context o =
        ((((o >>? tree_valued []) >>? arguments) >>? λ vs. tree_valued vs.pairs (apply 11 vs.trees)) >>? λ a.
        (o >>? tree_valued []) >>? λ b.
        union-of a b) >>? some

    passes : (o : Option Tree) → o ≡ some (integer 16777216) → context o ≡ some c → all_pairs (λ r. same_tree (narrowed r.left) (narrowed r.right)) c.pairs ≡ true
    passes o h e = subst (λ (d : TreeContext). all_pairs (λ r. same_tree (narrowed r.left) (narrowed r.right)) d.pairs ≡ true) (some-injective _ c (sym (ap context h) ∙ e)) refl

rule-pairs : (σ τ : List TreeBinding) → FactsHold program rows true SameNarrowed narrows.facts σ τ
    → (c : TreeContext) → tree_actions program rows narrows.actions (tree_start τ) ≡ some c → (q : TreePair) → Memᴰ q c.pairs → SameNarrowed q.left q.right
unfolding east_flank tabulate cells_of sizes_of kinds_of tables_of read_program read_job
rule-pairs σ τ (FactsHold.side h e FactsHold.done) = let x = exact-alone σ τ e in head-pairs τ (subst (λ (ρ : List TreeBinding). tree_lookup ρ 4 ≡ some (integer 16777216)) x.1 x.0)
rule-pairs σ τ (FactsHold.premise h e r k) = absurd (true≢false h)

one-rule : (r : Rule) → (r ≡ narrows) ⊎ Memᴰ r [] → (σ τ : List TreeBinding) → FactsHold program rows true SameNarrowed r.facts σ τ
    → (c : TreeContext) → tree_actions program rows r.actions (tree_start τ) ≡ some c → (q : TreePair) → Memᴰ q c.pairs → SameNarrowed q.left q.right
one-rule r (inl e) σ τ =
    subst⁻¹ (λ (s : Rule). FactsHold program rows true SameNarrowed s.facts σ τ → (c : TreeContext) → tree_actions program rows s.actions (tree_start τ) ≡ some c → (q : TreePair) → Memᴰ q c.pairs → SameNarrowed q.left q.right)
    e (rule-pairs σ τ)
one-rule r (inr m) σ τ = absurd (Memᴰ.not-nil m)

normal-narrowed : (t : Tree) → SameNarrowed t (tree_normal program rows t)
unfolding east_flank sizes_of tables_of read_program read_job
normal-narrowed (leaf l) = refl
normal-narrowed (named x) = refl
normal-narrowed (apply f ts) = refl

-- that relation is closed in strict mode
pub narrowed-closed : ClosedFor true (job_of east_flank) SameNarrowed
unfolding east_flank tabulate start_of words_at cells_of sizes_of kinds_of ends_of pool_of tables_of expr_in read_program read_job merge_of tree_actions tree_merge
narrowed-closed = record {
  symmetric = λ h. sym h;
  transitive = λ h k. h ∙ k;
  literals = λ l. refl;
  globals = λ c e q m. absurd (Memᴰ.not-nil (subst (λ (d : TreeContext). Memᴰ q d.pairs) (some-injective c (tree_start []) (sym e)) m));
  rules = λ g e r m n σ τ h c a q k. one-rule r (Memᴰ.cases_cons m) (σ ++ g.bindings) τ h c a q k;
  arguments = λ f ts i a b h c k. ap (λ (us : Trees). narrowed_by f us (eqb f 11 && same_trees us (tcons (integer 16777216) tnil))) (replaced-narrowed ts i a b c k);
  merges = λ f g ts old new v h k e q m. absurd (none-ne-some v e);
  normals = λ t h. normal-narrowed t;
}

-- and does not relate the narrowing of 2^24 + 3 to that position, so that it is not closed in mode 0
pub not-related : ¬ (SameNarrowed (narrowing (integer 16777219)) (integer 16777219))
not-related e = not-leaf e

pub not-closed : ¬ ClosedFor false (job_of east_flank) SameNarrowed
not-closed c = not-related (related SameNarrowed c)
