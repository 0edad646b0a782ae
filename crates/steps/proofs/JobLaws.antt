-- The terms and the proofs of a job that steps read.
use mathlib.Core.Path.{◌≡◌, refl, sym, ap, subst, ◌∙◌}
use mathlib.Core.Bool.{true}
use mathlib.Core.List.{List, map, Memᴰ}
use mathlib.Core.Option.{Option, some}
use Prim.Native.Nat.{ℕ, zero, suc, ◌+◌, ◌-◌, ◌<◌, ◌≤◌}
use native.Mathlib.Omega.{arith}
use lib.Dec.{leb, lit<}
use lib.ListN.{length, get_or, take, drop, length-drop, length-map}
use lib.Seq.{drop-drop}
use borrow.Rule.Slice.PartMut.{put_mid, mid_len, take_put, drop_put}
use Rattle.model.specs.Layout.{sizes_of}
use Rattle.model.specs.Cell.{Cell, no_cell}
use Rattle.model.specs.Term.{Term, read_term}
use Rattle.model.specs.Program as program
use Rattle.model.specs.Program.{references}
use Rattle.model.specs.Load.{term_fits}
use Rattle.model.specs.Evaluate.{children}
use Rattle.model.specs.Walk.{claim_at}
use Rattle.model.proofs.Tests.{le_of, and_right, never}
use Rattle.model.proofs.Store.{extends-length, get-extends}
use Rattle.decode.specs.View.{cell, proposition_of, justification_of}
use Rattle.decode.specs.declared.Proposition.{Proposition}
use Rattle.decode.specs.declared.Justification.{Justification}
use Rattle.termdag.specs.Store.{terms_in}
use Rattle.termdag.proofs.Laws.{get-read, terms-length}
use Rattle.index.specs.declared.Fill.{Fill}
use Rattle.program.specs.Ready.{tables_for, Ready}
use Rattle.program.specs.Read.{proofs_for, proof_cell, premises_for, pairs_for, ClaimAt, JustificationAt}
use Rattle.program.proofs.Laws.{table-long, fits}
use Rattle.program.proofs.Proving.{claim-read}
use Rattle.merges.specs.Step.{Small}
use Rattle.steps.specs.Step.{TermsFirst, SecondPart}

-- a term's cell that fits has at most 16 children
cell-few : (c : Cell) → term_fits c ≡ true → length (children (some (read_term c))) ≤ 16
unfolding read_term
cell-few c e = go c.kind c.words e
  where
    go : (k : ℕ) (ws : List ℕ) → term_fits (cell k ws) ≡ true → length (children (some (read_term (cell k ws)))) ≤ 16
    go zero ws q = omega arith
    go (suc zero) ws q = omega arith
    go (suc (suc zero)) ws q = let b = le_of (length ws) 17 (and_right (leb 1 (length ws)) _ q) in omega (arith, length-drop 1 ws)
    go (suc (suc (suc k))) ws q = never q

module _ {Ws : List ℕ} (R : Ready Ws) where
  terms-long : length (tables_for Ws).terms ≡ (sizes_of Ws).terms
  terms-long = table-long Ws 0 (lit< tt)

  pub first-long : {s : List Term} → TermsFirst Ws s → (sizes_of Ws).terms ≤ length s
  first-long F = let l = extends-length F.extends in let m = length-map (tables_for Ws).terms read_term in let n = terms-long in omega arith

  pub first-cells : (k e p : List ℕ) (f : Fill) → TermsFirst Ws (terms_in k e p f) → (sizes_of Ws).terms ≤ f.cells
  first-cells k e p f F = let l = first-long F in let m = terms-length k e p f in omega arith

  pub term-small : {s : List Term} {t : ℕ} → TermsFirst Ws s → t < (sizes_of Ws).terms → Small s t
  term-small {s} {t} F h =
      let n = terms-long in
      let m = length-map (tables_for Ws).terms read_term in
      record {
        inside = let l = first-long F in omega arith;
        few = subst (λ (o : Option Term). length (children o) ≤ 16)
            (sym (get-extends (map read_term (tables_for Ws).terms) s F.extends t (omega arith) ∙ get-read (tables_for Ws).terms t (omega arith)))
            (cell-few (get_or (tables_for Ws).terms t no_cell) (fits R 0 (lit< tt) t h));
      }

  -- what proof x claims
  pub claim-inside : (x : ℕ) → x < (sizes_of Ws).proofs → (claim_at (proofs_for Ws) x).rhs < (sizes_of Ws).terms
  claim-inside x h =
      let c : ClaimAt Ws x (record { lhs = get_or (proof_cell Ws x).words 0 0; rhs = get_or (proof_cell Ws x).words 1 0 }) = claim-read R x h refl (λ k. refl) in
      subst (λ (q : program.Proposition). q.rhs < (sizes_of Ws).terms) c.is c.rhs

pub claim-of : {Ws : List ℕ} {n x : ℕ} {a : Proposition} → ClaimAt Ws n a → n ≡ x → proposition_of a ≡ claim_at (proofs_for Ws) x
claim-of {Ws} C e = C.is ∙ ap (claim_at (proofs_for Ws)) e

-- a proof that proof p refers to
pub reference-inside : {Ws : List ℕ} {p : ℕ} {j g : Justification} {x n : ℕ} → JustificationAt Ws p j → p < (sizes_of Ws).proofs → j ≡ g
    → Memᴰ x (references (justification_of g (premises_for Ws p) (pairs_for Ws p))) → n ≡ x → n < (sizes_of Ws).proofs
reference-inside {Ws} {p} {j} {g} {x} J h e m q =
    let l = J.lower x (subst (λ (y : program.Justification). Memᴰ x (references y)) (ap (λ (y : Justification). justification_of y (premises_for Ws p) (pairs_for Ws p)) (sym e) ∙ J.is) m) in
    omega arith

-- the first n words of the second part of the scratch
module _ (c n : ℕ) (W : List ℕ) (h : c + c ≤ length W) (l : n ≤ c) where
  pub second-long : length (take (c + n - c) (drop c W)) ≡ n
  second-long = mid_len c (c + n) W (omega arith) ∙ (omega arith)

  past : (xs : List ℕ) → drop (c + c) xs ≡ drop (c - n) (drop (c + n) xs)
  past xs = let e : c + c ≡ c + n + (c - n) = omega arith in ap (λ (i : ℕ). drop i xs) e ∙ sym (drop-drop (c - n) (c + n) xs)

  pub second-part : (ys : List ℕ) → length ys ≡ length (take (c + n - c) (drop c W)) → SecondPart c W (put_mid c (c + n - c) W ys)
  second-part ys k = let m = second-long in record {
    before = take_put c (c + n - c) W ys (omega arith);
    behind = past (put_mid c (c + n - c) W ys) ∙ ap (drop (c - n)) (drop_put c (c + n) W ys (omega arith) (omega arith) (omega arith)) ∙ sym (past W);
  }

pub part_same : (c : ℕ) (W : List ℕ) → SecondPart c W W
part_same c W = record { before = refl; behind = refl }
