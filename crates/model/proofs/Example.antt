-- On job B the third demand is neither empty nor trivial: it gives a pair that is no literal and no global pair, and some closed relation leaves a pair out.
use Prim.Native.Nat.{ℕ}
use native.Mathlib.Omega.{arith}
use mathlib.Core.Path.{◌≡◌, refl, sym, subst, ◌∙◌}
use mathlib.Core.Logic.{◌⊎◌, inl, inr}
use mathlib.Core.List.Memᴰ
use mathlib.Core.List.{List, [], ◌∷◌, Memᴰ}
use mathlib.Core.Bool.{Bool, true, false, not, ◌&&◌}
use mathlib.Core.Option.{some, none-ne-some, some-injective}
use lib.ListN.{replicate}
use lib.Dec.{eqb}
use Rattle.model.specs.Cell.{tabulate, start_of, words_at, cells_of}
use Rattle.model.specs.Term.{Literal, read_term, find_term, get_term}
use Rattle.model.specs.Program.{Program}
use Rattle.model.specs.Layout.{sizes_of, kinds_of, ends_of, pool_of, tables_of}
use Rattle.model.specs.Decode.{expr_in, read_program, read_job, job_of}
use Rattle.model.specs.Load.{refused_if, first_marked, doubles, load_refusal}
use Rattle.model.specs.Check.{or_refuse, check_that, add_node}
use Rattle.model.specs.Evaluate.{subterms_in, reflexive, head_value, eval_expr, eval_exprs}
use Rattle.model.specs.Action.{merge_of, process_actions}
use Rattle.model.specs.Walk.{check_fiat, check_congr, check_proof_with_context, new_context, check_proof}
use Rattle.model.specs.Answer.{checked, check, entry}
use Rattle.model.specs.Tree.{Tree, leaf, named, apply, Trees, tnil, tcons, same_tree, tree_in, TreePair, TreeRow, tree_rows, TreeContext, tree_globals, tree_actions, tree_eval, tree_evals, reflexive_tree, reflexive_trees, tree_merge, tree_normal}
use Rattle.model.specs.Relation.{ClosedFor}
use Rattle.model.proofs.Tests.{eq_of, and_left, and_right, never}
use Rattle.model.proofs.Sound.{accepted}
use Rattle.model.proofs.JobB.{job_b, exactly}

-- name 4 of a literal 64-bit integer
unfoldable pub four : ℕ → Tree
four n = apply 4 (tcons (leaf (record { kind = 2; low = n; high = 0 })) tnil)

-- the congruence of job B is accepted, so every closed relation relates name 4 of 7 to name 4 of 8
pub related {ℓ} : (R : Tree → Tree → Type ℓ) → ClosedFor false (job_of job_b) R → R (four 7) (four 8)
unfolding four job_b exactly entry check checked load_refusal doubles refused_if first_marked tables_of sizes_of kinds_of ends_of pool_of cells_of tabulate start_of words_at read_term read_job read_program expr_in check_proof new_context check_proof_with_context check_fiat check_congr process_actions eval_expr eval_exprs head_value or_refuse check_that add_node find_term get_term reflexive subterms_in tree_in
related R closed = (accepted R job_b 8 0 exactly 8 34 (replicate 8 0) refl closed).related

-- what holds of each pair of a list, by a test that computes
abbrev pub all_pairs : (TreePair → Bool) → List TreePair → Bool
all_pairs f [] = true
all_pairs f (q ∷ qs) = f q && all_pairs f qs

pub all-member : (f : TreePair → Bool) (qs : List TreePair) → all_pairs f qs ≡ true → (q : TreePair) → Memᴰ q qs → f q ≡ true
all-member f [] e q m = absurd (Memᴰ.not-nil m)
all-member f (p ∷ ps) e q m = go (Memᴰ.cases_cons m) (all-member f ps (and_right (f p) _ e) q)
  where
    go : (q ≡ p) ⊎ Memᴰ q ps → (Memᴰ q ps → f q ≡ true) → f q ≡ true
    go (inl h) k = rw h (and_left _ _ e)
    go (inr h) k = k h

abbrev program_b : Program
program_b = (job_of job_b).program

abbrev rows_b : List TreeRow
rows_b = tree_rows (job_of job_b).terms (job_of job_b).program.rows

-- each global pair of job B passes a test that its two unions and its reflexive pairs pass
global-pairs : (f : TreePair → Bool) (pairs : List TreePair) → (c : TreeContext) → tree_globals program_b rows_b ≡ some c → tree_globals program_b rows_b ≡ some (record { bindings = []; pairs = pairs })
    → all_pairs f pairs ≡ true → (q : TreePair) → Memᴰ q c.pairs → f q ≡ true
global-pairs f pairs c e g h q m =
    all-member f pairs h q (subst (λ (d : TreeContext). Memᴰ q d.pairs) (some-injective c (record { bindings = []; pairs = pairs }) (sym e ∙ g)) m)

unfoldable pub seven : Tree
seven = leaf (record { kind = 2; low = 7; high = 0 })

unfoldable pub eight : Tree
eight = leaf (record { kind = 2; low = 8; high = 0 })

abbrev pub pair : Tree → Tree → TreePair
pair a b = record { left = a; right = b }

unfoldable globals_b : List TreePair
globals_b = pair seven seven ∷ pair eight eight ∷ pair seven eight ∷ pair eight seven ∷ pair seven seven ∷ pair (four 7) (four 7) ∷ pair seven seven ∷ []

globals-are : tree_globals program_b rows_b ≡ some (record { bindings = []; pairs = globals_b })
unfolding globals_b seven eight four job_b tables_of sizes_of kinds_of ends_of pool_of cells_of tabulate start_of words_at read_term read_job read_program expr_in tree_actions tree_eval tree_evals reflexive_tree reflexive_trees
globals-are = refl

-- that pair is no literal's and no global one
pub no-global : (c : TreeContext) → tree_globals program_b rows_b ≡ some c → ¬ (Memᴰ (pair (four 7) (four 8)) c.pairs)
unfolding globals_b seven eight four
no-global c e m = never (global-pairs (λ q. not (same_tree q.left (four 7) && same_tree q.right (four 8))) globals_b c e globals-are refl (pair (four 7) (four 8)) m)

-- no application is a literal
pub not-leaf : {f : ℕ} {ts : Trees} {l : Literal} → ¬ (apply f ts ≡ leaf l)
not-leaf e = subst IsApply e tt
  where
    IsApply : Tree → Type 0
    IsApply (leaf l) = ⊥
    IsApply (named x) = ⊥
    IsApply (apply f ts) = Unit {0}

pub no-literal : (l : Literal) → ¬ (four 7 ≡ leaf l)
unfolding four
no-literal l e = not-leaf e

-- the kind of a tree's top
abbrev shape : Tree → ℕ
shape (leaf l) = 0
shape (named x) = 1
shape (apply f ts) = 2

abbrev pub SameShape : Tree → Tree → Type 0
SameShape a b = shape a ≡ shape b

normal-shape : (t : Tree) → SameShape t (tree_normal program_b rows_b t)
unfolding job_b tables_of sizes_of kinds_of ends_of pool_of cells_of tabulate start_of words_at read_job read_program
normal-shape (leaf l) = refl
normal-shape (named x) = refl
normal-shape (apply f ts) = refl

-- a closed relation of job B's program that does not relate all
pub shape-closed : (strict : Bool) → ClosedFor strict (job_of job_b) SameShape
unfolding globals_b seven eight four job_b tables_of sizes_of kinds_of ends_of pool_of cells_of tabulate start_of words_at read_job read_program tree_merge merge_of
shape-closed strict = record {
  symmetric = λ h. sym h;
  transitive = λ h k. h ∙ k;
  literals = λ l. refl;
  globals = λ c e q m. eq_of (shape q.left) (shape q.right) (global-pairs (λ q. eqb (shape q.left) (shape q.right)) globals_b c e globals-are refl q m);
  rules = λ g e r m n σ τ h c a q k. absurd (Memᴰ.not-nil m);
  arguments = λ f ts i a b h c k. refl;
  merges = λ f g ts old new v h k e q m. absurd (none-ne-some v e);
  normals = λ t h. normal-shape t;
}

pub not-all : ¬ (SameShape seven (four 7))
unfolding seven four
not-all e = absurd (omega arith)
