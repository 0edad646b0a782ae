-- Job B of document 01: its twelve marked cases, from the job's words to the eight words of the answer.
use Prim.Native.Nat.{ℕ}
use mathlib.Core.Path.{◌≡◌, refl}
use mathlib.Core.List.{List, [], ◌∷◌, ◌++◌, map}
use lib.ListN.{replicate}
use Rattle.model.specs.Cell.{tabulate, start_of, words_at, cells_of}
use Rattle.model.specs.Term.{read_term, find_term, get_term}
use Rattle.model.specs.Layout.{sizes_of, kinds_of, ends_of, pool_of, tables_of}
use Rattle.model.specs.Decode.{expr_in, read_program, read_job}
use Rattle.model.specs.Load.{refused_if, first_marked, doubles, load_refusal}
use Rattle.model.specs.Check.{or_refuse, check_that, add_node}
use Rattle.model.specs.Evaluate.{subterms_in, reflexive, head_value, eval_expr, eval_exprs}
use Rattle.model.specs.Action.{process_actions}
use Rattle.model.specs.Walk.{check_fiat, check_trans, check_sym, check_congr, check_proof_with_context, new_context, check_proof}
use Rattle.model.specs.Answer.{Arrays, checked, check}

-- The sizes, the kinds, the ends and the pool: terms, expressions, actions, proofs.
unfoldable pub job_b : List ℕ
job_b =
    4 ∷ 3 ∷ 0 ∷ 2 ∷ 2 ∷ 0 ∷ 0 ∷ 0 ∷ 0 ∷ 0 ∷ 13 ∷ 67 ∷
    ((0 ∷ 0 ∷ 2 ∷ 2 ∷ 0 ∷ 0 ∷ 2 ∷ 1 ∷ 3 ∷ 0 ∷ 0 ∷ 0 ∷ 0 ∷ 0 ∷ 3 ∷ 3 ∷ 4 ∷ 5 ∷ 5 ∷ 5 ∷ 5 ∷ 5 ∷ []) ++
    (3 ∷ 6 ∷ 8 ∷ 10 ∷ 13 ∷ 16 ∷ 18 ∷ 20 ∷ 21 ∷ 23 ∷ 25 ∷ 27 ∷ 29 ∷ 31 ∷ 35 ∷ 39 ∷ 42 ∷ 47 ∷ 52 ∷ 57 ∷ 62 ∷ 67 ∷ []) ++
    (2 ∷ 7 ∷ 0 ∷ 2 ∷ 8 ∷ 0 ∷ 4 ∷ 0 ∷ 4 ∷ 1 ∷ 2 ∷ 7 ∷ 0 ∷ 2 ∷ 8 ∷ 0 ∷ 4 ∷ 0 ∷ 0 ∷ 1 ∷ 2 ∷ 0 ∷ 1 ∷ 0 ∷ 0 ∷ 2 ∷ 2 ∷ 3 ∷ 3 ∷ 1 ∷ 0 ∷ 0 ∷ 0 ∷ 0 ∷ 4 ∷ 0 ∷ 1 ∷ 0 ∷ 0 ∷ 0 ∷ 1 ∷ 0 ∷ 2 ∷ 3 ∷ 2 ∷ 0 ∷ 0 ∷ 2 ∷ 3 ∷ 2 ∷ 1 ∷ 0 ∷ 2 ∷ 3 ∷ 2 ∷ 0 ∷ 4 ∷ 2 ∷ 2 ∷ 2 ∷ 0 ∷ 0 ∷ 3 ∷ 3 ∷ 2 ∷ 0 ∷ 0 ∷ []))

-- A store that has room for the job's terms and no more.
unfoldable pub exactly : Arrays
exactly = record { kinds = replicate 4 0; ends = replicate 4 0; pool = replicate 10 0 }

-- The answer for each asked proof.
unfoldable pub answers : List ℕ → List (List ℕ)
answers ps = map (λ p. (check job_b p 0 exactly 8 34).answer) ps

-- The marked cases, in document 01's order.
unfoldable pub marked_proofs : List ℕ
marked_proofs = 0 ∷ 1 ∷ 2 ∷ 3 ∷ 5 ∷ 6 ∷ 7 ∷ 8 ∷ 9 ∷ 10 ∷ 11 ∷ 12 ∷ []

unfoldable pub marked_answers : List (List ℕ)
marked_answers =
    (0 ∷ 4 ∷ 0 ∷ 1 ∷ 1 ∷ 0 ∷ 0 ∷ 0 ∷ []) ∷
    (0 ∷ 4 ∷ 0 ∷ 0 ∷ 1 ∷ 0 ∷ 0 ∷ 0 ∷ []) ∷
    (0 ∷ 4 ∷ 2 ∷ 2 ∷ 1 ∷ 0 ∷ 0 ∷ 0 ∷ []) ∷
    (33 ∷ 4 ∷ 3 ∷ 3 ∷ 3 ∷ 0 ∷ 0 ∷ 0 ∷ []) ∷
    (0 ∷ 4 ∷ 0 ∷ 0 ∷ 2 ∷ 0 ∷ 0 ∷ 0 ∷ []) ∷
    (21 ∷ 4 ∷ 6 ∷ 1 ∷ 0 ∷ 0 ∷ 0 ∷ 0 ∷ []) ∷
    (20 ∷ 4 ∷ 7 ∷ 0 ∷ 1 ∷ 1 ∷ 0 ∷ 0 ∷ []) ∷
    (0 ∷ 4 ∷ 2 ∷ 3 ∷ 2 ∷ 0 ∷ 0 ∷ 0 ∷ []) ∷
    (23 ∷ 4 ∷ 9 ∷ 1 ∷ 1 ∷ 0 ∷ 0 ∷ 0 ∷ []) ∷
    (24 ∷ 4 ∷ 10 ∷ 1 ∷ 0 ∷ 0 ∷ 0 ∷ 0 ∷ []) ∷
    (25 ∷ 4 ∷ 11 ∷ 2 ∷ 3 ∷ 0 ∷ 0 ∷ 0 ∷ []) ∷
    (26 ∷ 4 ∷ 12 ∷ 0 ∷ 0 ∷ 0 ∷ 0 ∷ 0 ∷ []) ∷ []

pub marked-cases : answers marked_proofs ≡ marked_answers
unfolding answers marked_proofs marked_answers job_b exactly check checked load_refusal doubles refused_if first_marked tables_of sizes_of kinds_of ends_of pool_of cells_of tabulate start_of words_at read_term read_job read_program expr_in check_proof new_context check_proof_with_context check_fiat check_trans check_sym check_congr process_actions eval_expr eval_exprs head_value or_refuse check_that add_node find_term get_term reflexive subterms_in
marked-cases = refl
