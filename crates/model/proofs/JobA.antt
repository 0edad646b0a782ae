-- Job A of document 01: the line that the program prints, from the job's bytes.
use Prim.Native.Nat.{ℕ}
use mathlib.Core.Path.{◌≡◌, refl}
use mathlib.Core.List.{List, [], ◌∷◌}
use Rattle.model.specs.Cell.{tabulate, start_of, words_at, cells_of}
use Rattle.model.specs.Term.{read_term, find_term, get_term}
use Rattle.model.specs.Layout.{sizes_of, kinds_of, ends_of, pool_of, tables_of}
use Rattle.model.specs.Decode.{expr_in, read_program, read_job}
use Rattle.model.specs.Load.{refused_if, first_marked, doubles, load_refusal}
use Rattle.model.specs.Check.{or_refuse, check_that, add_node}
use Rattle.model.specs.Action.{process_actions}
use Rattle.model.specs.Walk.{check_fiat, check_sym, check_proof_with_context, new_context, check_proof}
use Rattle.model.specs.Answer.{checked, check}
use Rattle.model.specs.Host.{words_of, host_answer, program_answer}

unfoldable pub bytes_a : List ℕ
bytes_a =
    1 ∷ 0 ∷ 0 ∷ 0 ∷ 0 ∷ 0 ∷ 0 ∷ 0 ∷ 0 ∷ 0 ∷ 0 ∷ 0 ∷ 0 ∷ 0 ∷ 0 ∷ 0 ∷ 0 ∷ 0 ∷ 0 ∷ 0 ∷ 0 ∷ 0 ∷ 0 ∷ 0 ∷ 0 ∷ 0 ∷ 0 ∷ 0 ∷ 0 ∷ 0 ∷ 0 ∷ 0 ∷ 0 ∷ 0 ∷ 0 ∷ 0 ∷ 0 ∷ 0 ∷ 0 ∷ 0 ∷ 2 ∷ 0 ∷ 0 ∷ 0 ∷ 8 ∷ 0 ∷ 0 ∷ 0 ∷ 0 ∷ 0 ∷ 0 ∷ 0 ∷ 0 ∷ 0 ∷ 0 ∷ 0 ∷ 4 ∷ 0 ∷ 0 ∷ 0 ∷ 3 ∷ 0 ∷ 0 ∷ 0 ∷ 5 ∷ 0 ∷ 0 ∷ 0 ∷ 8 ∷ 0 ∷ 0 ∷ 0 ∷ 2 ∷ 0 ∷ 0 ∷ 0 ∷ 7 ∷ 0 ∷ 0 ∷ 0 ∷ 0 ∷ 0 ∷ 0 ∷ 0 ∷ 0 ∷ 0 ∷ 0 ∷ 0 ∷ 0 ∷ 0 ∷ 0 ∷ 0 ∷ 0 ∷ 0 ∷ 0 ∷ 0 ∷ 0 ∷ 0 ∷ 0 ∷ 0 ∷ 0 ∷ 0 ∷ 0 ∷ 0 ∷ []

pub job-A : program_answer bytes_a ≡ 0 ∷ 1 ∷ 0 ∷ 0 ∷ 2 ∷ 0 ∷ 0 ∷ 0 ∷ []
unfolding bytes_a words_of host_answer check checked load_refusal doubles refused_if first_marked tables_of sizes_of kinds_of ends_of pool_of cells_of tabulate start_of words_at read_term read_job read_program expr_in check_proof new_context check_proof_with_context check_fiat check_sym process_actions or_refuse check_that add_node find_term get_term
job-A = refl
