-- 12 and the index: what a power of two is, that all admitted indexes give the same answer and store, and answers for job B.
use mathlib.Core.Path.{◌≡◌, refl, sym, ap, ◌∙◌}
use mathlib.Core.Bool.{Bool, true, false, not}
use mathlib.Core.List.{List, [], ◌∷◌, ◌++◌, map}
use Prim.Native.Nat.{ℕ, zero, suc, ◌+◌, ◌*◌, ◌<◌, ◌^◌}
use native.Mathlib.Nat.{not-suc-le-zero, le_of_suc-le-suc, mul_assoc}
use native.Mathlib.Omega.{arith}
use lib.Dec.{eqb, leb}
use lib.ListN.{length}
use lib.Pow.{pow-add}
use borrow.Author.Tests.{eqb-true, eqb-false}
use Rattle.model.specs.Cell.{tabulate, start_of, words_at, cells_of}
use Rattle.model.specs.Term.{read_term, find_term, get_term}
use Rattle.model.specs.Layout.{sizes_of, kinds_of, ends_of, pool_of, Sizes, Tables, tables_of}
use Rattle.model.specs.Decode.{expr_in, read_program, read_job, job_of}
use Rattle.model.specs.Load.{wrong_length, too_large, unknown_mode, ends_rise, no_room, fit_tests, refer_tests, valid_tests, once_tests, first_failing, first_refusal, is_strict, refused_if, first_marked, doubles, is_power, wrong_slots, load_refusal}
use Rattle.model.specs.Check.{or_refuse, check_that, add_node}
use Rattle.model.specs.Evaluate.{subterms_in, reflexive, head_value, eval_expr, eval_exprs}
use Rattle.model.specs.Action.{process_actions}
use Rattle.model.specs.Walk.{check_fiat, check_trans, check_sym, check_congr, check_proof_with_context, new_context, check_proof}
use Rattle.model.specs.Answer.{Arrays, Left, lent_by, loaded, checked, check, entry}
use Rattle.model.proofs.JobB.{job_b, exactly}

-- the test of a power of two
twice : (p j : ℕ) → p * 2 * 2 ^ j ≡ p * 2 ^ (1 + j)
twice p j = mul_assoc p 2 (2 ^ j) ∙ ap (λ (x : ℕ). p * x) (sym (pow-add 2 1 j))

doubles-some : (f p n : ℕ) → doubles f p n ≡ true → (j : ℕ) × (n ≡ p * 2 ^ j)
unfolding doubles
doubles-some zero p n e = let w : ◌≡◌ {A = ℕ} 0 1 = cc in absurd (omega arith)
doubles-some (suc f) p n e = go (eqb p n) refl (λ d. doubles-some f (p * 2) n d) e
  where
    go : (t : Bool) → eqb p n ≡ t → (doubles f (p * 2) n ≡ true → (j : ℕ) × (n ≡ p * 2 * 2 ^ j)) → elim t [ true ↦ true | false ↦ doubles f (p * 2) n ] ≡ true → (j : ℕ) × (n ≡ p * 2 ^ j)
    go true q r d = (0, omega (arith, eqb-true p n q))
    go false q r d = let (j, h) = r d in (1 + j, h ∙ twice p j)

some-doubles : (f p j : ℕ) → j < f → doubles f p (p * 2 ^ j) ≡ true
unfolding doubles
some-doubles zero p j h = absurd (not-suc-le-zero h)
some-doubles (suc f) p j h = go (eqb p (p * 2 ^ j)) refl (λ i l. some-doubles f (p * 2) i l) j h refl
  where
    go : (t : Bool) → eqb p (p * 2 ^ j) ≡ t → ((i : ℕ) → i < f → doubles f (p * 2) (p * 2 * 2 ^ i) ≡ true) → (i : ℕ) → i < suc f → i ≡ j → elim t [ true ↦ true | false ↦ doubles f (p * 2) (p * 2 ^ j) ] ≡ true
    go true q r i l e = refl
    go false q r zero l e = absurd (eqb-false p (p * 2 ^ j) q (rw (← e) (omega arith)))
    go false q r (suc i) l e = ap (doubles f (p * 2)) (ap (λ (x : ℕ). p * 2 ^ x) (sym e ∙ omega arith) ∙ sym (twice p i)) ∙ r i (le_of_suc-le-suc l)

pub power-is : (n : ℕ) → is_power n ≡ true → (k : ℕ) × (n ≡ 2 ^ k)
power-is n e = let (k, h) = doubles-some 64 1 n e in (k, omega arith)

pub is-power : (k : ℕ) → k < 64 → is_power (2 ^ k) ≡ true
is-power k h = let e : 1 * 2 ^ k ≡ 2 ^ k = omega arith in rw e at (some-doubles 64 1 k h)

-- THE SAME WITH ANY INDEX: two that are not refused give the same number, answer and store, whatever else is handed in
pub slots-alike : (ws : List ℕ) (p mode : ℕ) (a : Arrays) (n m scratch : ℕ) (answer : List ℕ)
    → wrong_slots (lent_by a n scratch) ≡ false → wrong_slots (lent_by a m scratch) ≡ false → entry ws p mode a n scratch answer ≡ entry ws p mode a m scratch answer
unfolding entry check load_refusal
slots-alike ws p mode a n m scratch answer f g =
    let z : Sizes = sizes_of ws in
    let t : Tables = tables_of ws in
    ap (λ (b : Bool). elim (eqb (length answer) 8) as (λ _. Left) [
      | true ↦ loaded (job_of ws) p (is_strict mode) a (first_refusal (
          (λ _. refused_if (wrong_length ws) 1) ∷
          (λ _. refused_if (too_large z) 2) ∷
          (λ _. refused_if (leb z.proofs p) 3) ∷
          (λ _. refused_if (unknown_mode mode) 11) ∷
          (λ _. refused_if (not (ends_rise 0 (ends_of ws) z.pool)) 5) ∷
          (λ _. first_failing 6 (fit_tests t) t) ∷
          (λ _. first_failing 7 (refer_tests z) t) ∷
          (λ _. first_failing 8 (valid_tests t) t) ∷
          (λ _. first_failing 9 (once_tests t) t) ∷
          (λ _. refused_if (no_room z (map read_term t.terms) (lent_by a n scratch)) 10) ∷
          (λ _. refused_if b 12) ∷ []))
      | false ↦ record { number = 10; answer = answer; arrays = a }
    ]) (f ∙ sym g)

-- job B, whose store has four cells, with so many slots: too few, or no power of two, is 12; too little scratch is 10 first
unfoldable pub slots : (scratch : ℕ) → List ℕ → List ℕ
slots scratch ns = map (λ n. (check job_b 8 0 exactly n scratch).number) ns

pub refused-slots : slots 34 (0 ∷ 1 ∷ 4 ∷ 7 ∷ 8 ∷ 9 ∷ 12 ∷ 15 ∷ 16 ∷ 17 ∷ []) ++ slots 33 (0 ∷ 7 ∷ 8 ∷ []) ≡ 12 ∷ 12 ∷ 12 ∷ 12 ∷ 0 ∷ 12 ∷ 12 ∷ 12 ∷ 0 ∷ 12 ∷ 10 ∷ 10 ∷ 10 ∷ []
unfolding slots job_b exactly check checked load_refusal doubles refused_if first_marked tables_of sizes_of kinds_of ends_of pool_of cells_of tabulate start_of words_at read_term read_job read_program expr_in check_proof new_context check_proof_with_context check_fiat check_trans check_sym check_congr process_actions eval_expr eval_exprs head_value or_refuse check_that add_node find_term get_term reflexive subterms_in
refused-slots = refl
