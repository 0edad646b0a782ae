-- The job of tilt counts in examples/tilt.bin: two counts of a station, 3 and -5, are merged by their sum, and its level is five times that by 4, rounded toward zero.
use Prim.Native.Nat.{ℕ}
use mathlib.Core.Path.{◌≡◌, refl}
use mathlib.Core.List.{List, [], ◌∷◌, ◌++◌, map}
use mathlib.Core.Bool.{false}
use lib.ListN.{replicate}
use Rattle.model.specs.Cell.{tabulate, start_of, words_at, cells_of}
use Rattle.model.specs.Term.{read_term, find_term, get_term}
use Rattle.model.specs.Counts.{int_of, fits, literal_of_int, count_of, exact, fitting, count_value}
use Rattle.model.specs.Layout.{sizes_of, kinds_of, ends_of, pool_of, tables_of}
use Rattle.model.specs.Decode.{job_of, expr_in, read_program, read_job}
use Rattle.model.specs.Load.{refused_if, first_marked, doubles, load_refusal}
use Rattle.model.specs.Check.{or_refuse, check_that, add_node}
use Rattle.model.specs.Evaluate.{validate, subterms_in, reflexive, head_value, eval_exprs, fact_head_value, eval_fact_exprs}
use Rattle.model.specs.Fact.{offences, assert_body_proof_normal_form, wanted_equality, wanted, matches}
use Rattle.model.specs.Action.{process_actions, check_rule_produces_equality, merge_of, run_merge}
use Rattle.model.specs.Walk.{check_views, check_premises, check_rule, check_merge_fn, check_fiat, check_proof_with_context, new_context, check_proof}
use Rattle.model.specs.Answer.{Arrays, checked, check, entry}
use Rattle.model.specs.Tree.{Tree, leaf, apply, tcons, tnil, tree_in}
use Rattle.model.specs.Relation.{ClosedFor}
use Rattle.model.proofs.Sound.{accepted}

-- The sizes, the kinds, the ends and the pool.
unfoldable tilt : List ℕ
tilt =
    8 ∷ 16 ∷ 1 ∷ 3 ∷ 2 ∷ 1 ∷ 3 ∷ 0 ∷ 0 ∷ 1 ∷ 4 ∷ 94 ∷
    ((0 ∷ 0 ∷ 0 ∷ 2 ∷ 2 ∷ 0 ∷ 2 ∷ 2 ∷ 0 ∷ 0 ∷ 0 ∷ 0 ∷ 3 ∷ 0 ∷ 3 ∷ 1 ∷ 1 ∷ 4 ∷ 1 ∷ 1 ∷ 3 ∷ 4 ∷ 4 ∷ 2 ∷ 0 ∷ 2 ∷ 2 ∷ 1 ∷ 1 ∷ 4 ∷ 6 ∷ 8 ∷ 0 ∷ 0 ∷ 0 ∷ 2 ∷ 1 ∷ []) ++
    (3 ∷ 6 ∷ 9 ∷ 12 ∷ 15 ∷ 18 ∷ 21 ∷ 23 ∷ 26 ∷ 29 ∷ 32 ∷ 35 ∷ 38 ∷ 41 ∷ 44 ∷ 45 ∷ 46 ∷ 49 ∷ 50 ∷ 51 ∷ 53 ∷ 56 ∷ 59 ∷ 61 ∷ 63 ∷ 64 ∷ 65 ∷ 67 ∷ 69 ∷ 70 ∷ 71 ∷ 72 ∷ 76 ∷ 78 ∷ 80 ∷ 85 ∷ 94 ∷ []) ++
    (2 ∷ 1 ∷ 0 ∷ 2 ∷ 3 ∷ 0 ∷ 2 ∷ 4294967291 ∷ 4294967295 ∷ 4 ∷ 0 ∷ 1 ∷ 4 ∷ 0 ∷ 2 ∷ 2 ∷ 4294967294 ∷ 4294967295 ∷ 4 ∷ 0 ∷ 5 ∷ 5 ∷ 0 ∷ 2 ∷ 1 ∷ 0 ∷ 2 ∷ 5 ∷ 0 ∷ 2 ∷ 4 ∷ 0 ∷ 2 ∷ 3 ∷ 0 ∷ 4 ∷ 0 ∷ 3 ∷ 2 ∷ 4294967291 ∷ 4294967295 ∷ 4 ∷ 0 ∷ 5 ∷ 0 ∷ 1 ∷ 0 ∷ 7 ∷ 8 ∷ 6 ∷ 7 ∷ 4 ∷ 10 ∷ 1 ∷ 11 ∷ 1 ∷ 2 ∷ 13 ∷ 2 ∷ 5 ∷ 10 ∷ 12 ∷ 11 ∷ 4 ∷ 6 ∷ 15 ∷ 14 ∷ 4 ∷ 9 ∷ 14 ∷ 16 ∷ 18 ∷ 8 ∷ 1 ∷ 0 ∷ 2 ∷ 3 ∷ 3 ∷ 4 ∷ 4 ∷ 6 ∷ 6 ∷ 4 ∷ 0 ∷ 1 ∷ 7 ∷ 5 ∷ 8 ∷ 1 ∷ 2 ∷ 6 ∷ 0 ∷ 7 ∷ 5 ∷ []))

-- A store of so many cells and pool words.
abbrev lent : ℕ → ℕ → Arrays
lent cells words = record { kinds = replicate cells 0; ends = replicate cells 0; pool = replicate words 0 }

-- The answer where there is just room for the three terms that the check adds; the product finds no cell; it finds too few words.
answers : map (λ a. (check tilt 3 0 a 32 30).answer) (lent 11 32 ∷ lent 9 32 ∷ lent 11 28 ∷ [])
    ≡ (0 ∷ 11 ∷ 7 ∷ 5 ∷ 3 ∷ 0 ∷ 0 ∷ 0 ∷ []) ∷ (53 ∷ 9 ∷ 26 ∷ 0 ∷ 0 ∷ 0 ∷ 0 ∷ 0 ∷ []) ∷ (53 ∷ 9 ∷ 26 ∷ 0 ∷ 0 ∷ 0 ∷ 0 ∷ 0 ∷ []) ∷ []
unfolding tilt tabulate start_of words_at cells_of read_term find_term get_term int_of fits literal_of_int count_of exact fitting count_value sizes_of kinds_of ends_of pool_of tables_of expr_in read_program read_job refused_if first_marked load_refusal doubles or_refuse check_that add_node validate subterms_in reflexive head_value eval_exprs fact_head_value eval_fact_exprs offences assert_body_proof_normal_form wanted_equality wanted matches process_actions check_rule_produces_equality merge_of run_merge check_views check_premises check_rule check_merge_fn check_fiat check_proof_with_context new_context check_proof checked check
answers = refl

-- Every closed relation relates the station's level to -2.
related {ℓ} : (R : Tree → Tree → Type ℓ) → ClosedFor false (job_of tilt) R
    → R (apply 5 (tcons (leaf (record { kind = 2; low = 1; high = 0 })) tnil)) (leaf (record { kind = 2; low = 4294967294; high = 4294967295 }))
unfolding tilt tabulate start_of words_at cells_of read_term find_term get_term int_of fits literal_of_int count_of exact fitting count_value sizes_of kinds_of ends_of pool_of tables_of expr_in read_program read_job refused_if first_marked load_refusal doubles or_refuse check_that add_node validate subterms_in reflexive head_value eval_exprs fact_head_value eval_fact_exprs offences assert_body_proof_normal_form wanted_equality wanted matches process_actions check_rule_produces_equality merge_of run_merge check_views check_premises check_rule check_merge_fn check_fiat check_proof_with_context new_context check_proof checked check entry tree_in
related R closed = (accepted R tilt 3 0 (lent 11 32) 32 30 (replicate 8 0) refl closed).related
