-- Laws of a job's tables: their cells among all cells, and the test of each.
use Rattle.std.specs.Prelude.{Some, None}
use mathlib.Core.Path.{◌≡◌, refl, sym, ap, subst, ◌∙◌}
use mathlib.Core.Logic.{◌⊎◌, inl, inr}
use mathlib.Core.Bool.{Bool, true, false, not, ◌&&◌, ◌||◌}
use mathlib.Core.List.{List, [], ◌∷◌, ◌++◌}
use Prim.Native.Nat.{ℕ, zero, suc, ◌+◌, ◌≤◌, ◌<◌}
use native.Mathlib.Numerals.{add-one}
use native.Mathlib.Omega.{arith}
use lib.Dec.{eqb, ltb}
use lib.ListN.{length, get_or, take, drop, length-take, length-drop, drop_of_length-le, get_or-eq_default}
use lib.Seq.{get_or-take, get_or-drop, drop-cons, take-take}
use borrow.Author.Tests.{ne_eqb, ltb-true, ltb-false, lt-ltb, le-ltb, le-leb, lt-leb}
use Rattle.model.specs.Cell.{Cell, no_cell, same_cell, cells_of}
use Rattle.model.specs.Layout.{Sizes, Tables, part, tables_in, table_list, cell_count, first_fact, first_action, first_function, first_primitive, first_row, first_normaliser, first_rule, first_proof}
use Rattle.model.specs.Decode.{read_arguments, read_primitive}
use Rattle.model.specs.Program.{looks_up}
use Rattle.model.specs.Load.{any, fails_from, marks, is_first, same_head, counts, is_set_call, set_fits, primitive_looks_up, passed, fit_tests, valid_tests, once_tests}
use Rattle.model.proofs.Tests.{or_cases, eq_of, and-true}
use Rattle.cells.proofs.Laws.{cell-at, cells-length, cells-fewer, same-cell-eq}
use Rattle.cells.specs.Table.{Formed}
use Rattle.cells.specs.declared.Fill.{Fill}
use Rattle.cells.specs.declared.Table.{Table}
use Rattle.load.specs.declared.tables.Cells.{Cells}
use Rattle.chains.specs.Chains.{words_from, same_key, Differ}
use Rattle.load.specs.declared.sizes.Sizes.{Sizes as SizesHeld}
use Rattle.load.specs.Held.{table_held, HeldCells, cell_of, sizes_in, fill_of, Limits, Distinct, Sound, counts_of, cell_number, fixed_counts, alike_by, first_among, tables_for, cell_held, Passing, tests_for, first_found}

-- a cell of a table is a cell of the job
pub part_at : (cs : List Cell) (from count i : ℕ) → i < count → get_or (part cs from count) i no_cell ≡ get_or cs (from + i) no_cell
part_at cs from count i h = get_or-take count (drop from cs) i no_cell h ∙ get_or-drop from cs i no_cell

part-from : (cs : List Cell) (f g n : ℕ) → f ≡ g → part cs f n ≡ part cs g n
part-from cs f g n e = ap (λ (x : ℕ). part cs x n) e

-- a table by its number
pub table_is : (z : Sizes) (cs : List Cell) (k : ℕ) → k < 10 → get_or (table_list (tables_in z cs)) k [] ≡ part cs (cell_number z k) (get_or (counts_of z) k 0)
table_is z cs zero h = refl
table_is z cs (suc zero) h = part-from cs z.terms (cell_number z 1) z.expressions (omega arith)
table_is z cs (suc (suc zero)) h = part-from cs (first_fact z) (cell_number z 2) z.facts (omega arith)
table_is z cs (suc (suc (suc zero))) h = part-from cs (first_action z) (cell_number z 3) z.actions (omega arith)
table_is z cs (suc (suc (suc (suc zero)))) h = part-from cs (first_function z) (cell_number z 4) z.functions (omega arith)
table_is z cs (suc (suc (suc (suc (suc zero))))) h = part-from cs (first_primitive z) (cell_number z 5) z.primitives (omega arith)
table_is z cs (suc (suc (suc (suc (suc (suc zero)))))) h = part-from cs (first_row z) (cell_number z 6) z.rows (omega arith)
table_is z cs (suc (suc (suc (suc (suc (suc (suc zero))))))) h = part-from cs (first_normaliser z) (cell_number z 7) z.normalisers (omega arith)
table_is z cs (suc (suc (suc (suc (suc (suc (suc (suc zero)))))))) h = part-from cs (first_rule z) (cell_number z 8) z.rules (omega arith)
table_is z cs (suc (suc (suc (suc (suc (suc (suc (suc (suc zero))))))))) h = part-from cs (first_proof z) (cell_number z 9) z.proofs (omega arith)
table_is z cs (suc (suc (suc (suc (suc (suc (suc (suc (suc (suc k)))))))))) h = absurd (omega arith)

-- a set's expression
module _ (exprs : List Cell) (ws : List ℕ) where
  pub set_other : (k : ℕ) → (k ≡ 2 → ⊥) → true ≡ set_fits exprs (record { kind = k; words = ws })
  set_other k h = rw (ne_eqb k 2 h)

  pub set_out : (n : ℕ) → length exprs ≡ n → n ≤ get_or ws 0 0 → true ≡ set_fits exprs (record { kind = 2; words = ws })
  set_out n e h = rw (e, le-leb n (get_or ws 0 0) h)

  pub set-in : (n : ℕ) → length exprs ≡ n → get_or ws 0 0 < n → is_set_call (get_or exprs (get_or ws 0 0) no_cell) ≡ set_fits exprs (record { kind = 2; words = ws })
  set-in n e h = rw (e, lt-leb n (get_or ws 0 0) h)

pub set-call : (k : ℕ) (us : List ℕ) → (ltb 1 k && ltb 0 (length (drop 1 us))) ≡ is_set_call (record { kind = k; words = us })
set-call zero us = refl
set-call (suc zero) us = refl
set-call (suc (suc k)) us = rw (le-ltb (suc (suc k)) 2 (omega arith), read_arguments)

-- the tables whose kinds have each one operand count
pub fixed-table : (t : Tables) (k i : ℕ) (c : Cell) → k < 10 → (k ≡ 0 → ⊥) → (k ≡ 1 → ⊥) → (k ≡ 3 → ⊥) → (k ≡ 6 → ⊥) → (k ≡ 8 → ⊥) → (k ≡ 9 → ⊥)
    → counts (fixed_counts k) c ≡ get_or (fit_tests t) k passed i c
fixed-table t zero i c h a b d e f g = absurd (a refl)
fixed-table t (suc zero) i c h a b d e f g = absurd (b refl)
fixed-table t (suc (suc zero)) i c h a b d e f g = refl
fixed-table t (suc (suc (suc zero))) i c h a b d e f g = absurd (d refl)
fixed-table t (suc (suc (suc (suc zero)))) i c h a b d e f g = refl
fixed-table t (suc (suc (suc (suc (suc zero))))) i c h a b d e f g = refl
fixed-table t (suc (suc (suc (suc (suc (suc zero)))))) i c h a b d e f g = absurd (e refl)
fixed-table t (suc (suc (suc (suc (suc (suc (suc zero))))))) i c h a b d e f g = refl
fixed-table t (suc (suc (suc (suc (suc (suc (suc (suc zero)))))))) i c h a b d e f g = absurd (f refl)
fixed-table t (suc (suc (suc (suc (suc (suc (suc (suc (suc zero))))))))) i c h a b d e f g = absurd (g refl)
fixed-table t (suc (suc (suc (suc (suc (suc (suc (suc (suc (suc k)))))))))) i c h a b d e f g = absurd (omega arith)

-- the expressions of a job
pub exprs_length : (z : Sizes) (cs : List Cell) → length cs ≡ cell_count z → length (tables_in z cs).expressions ≡ z.expressions
exprs_length z cs e = simp (length-take, length-drop) (omega arith)

-- a set's expression in range, read off the arrays
pub set-held : (z : Sizes) (cs : List Cell) (k i : ℕ) (us ws : List ℕ) → length cs ≡ cell_count z → i ≡ z.terms + get_or ws 0 0 → get_or ws 0 0 < z.expressions
    → k ≡ (get_or cs i no_cell).kind → us ≡ drop 1 (get_or cs i no_cell).words
    → (ltb 1 k && ltb 0 (length us)) ≡ set_fits (tables_in z cs).expressions (record { kind = 2; words = ws })
set-held z cs k i us ws n e h f g =
    let x : get_or (tables_in z cs).expressions (get_or ws 0 0) no_cell ≡ get_or cs i no_cell = part_at cs z.terms z.expressions (get_or ws 0 0) h ∙ ap (λ (j : ℕ). get_or cs j no_cell) (sym e) in
    rw (f, g) (set-call (get_or cs i no_cell).kind (get_or cs i no_cell).words) ∙ ap is_set_call (sym x) ∙ set-in (tables_in z cs).expressions ws z.expressions (exprs_length z cs n) h

-- a cell read off the arrays
pub held-cell : (K E P : List ℕ) (n i : ℕ) (us : List ℕ) → i < n → us ≡ (get_or (cells_of K E P n) i no_cell).words → record { kind = get_or K i 0; words = us } ≡ get_or (cells_of K E P n) i no_cell
held-cell K E P n i us h e =
    let k : get_or K i 0 ≡ (get_or (cells_of K E P n) i no_cell).kind = sym (ap (λ (x : Cell). x.kind) (cell-at K E P n i h)) in
    λ t. record { kind = k t; words = e t }

-- the cells as one table
pub formed-table : {c : Cells} {t : Table} → t ≡ table_held c → HeldCells c → Formed t.kinds.now t.ends.now t.pool.now t.fill
formed-table {c} {t} e h = rw e h.formed

pub table-held : (c : Cells) {t : Table} {i : ℕ} {us : List ℕ} → t ≡ table_held c → i < cell_count (sizes_in c.sizes)
    → us ≡ (get_or (cells_of t.kinds.now t.ends.now t.pool.now t.fill.cells) i no_cell).words → record { kind = get_or c.kinds.now i 0; words = us } ≡ cell_of c i
table-held c {t} {i} {us} e h w =
    held-cell c.kinds.now c.ends.now c.pool.now (cell_count (sizes_in c.sizes)) i us h (w ∙ ap (λ (x : Table). (get_or (cells_of x.kinds.now x.ends.now x.pool.now x.fill.cells) i no_cell).words) e)

pub validator-kind : (k : ℕ) → (eqb k 1 || eqb k 3) ≡ (get_or (false ∷ true ∷ false ∷ []) k true && not (ltb 3 k))
validator-kind zero = refl
validator-kind (suc zero) = refl
validator-kind (suc (suc zero)) = refl
validator-kind (suc (suc (suc zero))) = refl
validator-kind (suc (suc (suc (suc k)))) =
    let n = suc (suc (suc (suc k))) in rw (ne_eqb n 1 (λ e. omega arith), ne_eqb n 3 (λ e. omega arith), lt-ltb 3 n (omega arith))

-- the primitives of a job
pub primitive-held : (z : Sizes) (cs : List Cell) (p k : ℕ) → p < z.primitives → k ≡ (get_or cs (first_primitive z + p) no_cell).kind
    → (eqb k 1 || eqb k 3) ≡ primitive_looks_up (tables_in z cs).primitives p
primitive-held z cs p k h e =
    let x = part_at cs (first_primitive z) z.primitives p h in
    rw e (validator-kind (get_or cs (first_primitive z + p) no_cell).kind) ∙ ap (λ (c : Cell). looks_up (read_primitive c)) (sym x)

pub primitive-out : (z : Sizes) (cs : List Cell) (p : ℕ) → z.primitives ≤ p → false ≡ primitive_looks_up (tables_in z cs).primitives p
primitive-out z cs p h =
    let l : length (tables_in z cs).primitives ≤ p = simp length-take (omega arith) in
    ap (λ (c : Cell). looks_up (read_primitive c)) (sym (get_or-eq_default (tables_in z cs).primitives no_cell l))

pub valid-other : (t : Tables) (k i : ℕ) (c : Cell) → (k ≡ 6 → ⊥) → (k ≡ 7 → ⊥) → true ≡ get_or (valid_tests t) k passed i c
valid-other t zero i c a b = refl
valid-other t (suc zero) i c a b = refl
valid-other t (suc (suc zero)) i c a b = refl
valid-other t (suc (suc (suc zero))) i c a b = refl
valid-other t (suc (suc (suc (suc zero)))) i c a b = refl
valid-other t (suc (suc (suc (suc (suc zero))))) i c a b = refl
valid-other t (suc (suc (suc (suc (suc (suc zero)))))) i c a b = absurd (a refl)
valid-other t (suc (suc (suc (suc (suc (suc (suc zero))))))) i c a b = absurd (b refl)
valid-other t (suc (suc (suc (suc (suc (suc (suc (suc zero)))))))) i c a b = refl
valid-other t (suc (suc (suc (suc (suc (suc (suc (suc (suc zero))))))))) i c a b = refl
valid-other t (suc (suc (suc (suc (suc (suc (suc (suc (suc (suc k)))))))))) i c a b = refl

pub alike-other : (k : ℕ) (a b : Cell) → (k ≡ 0 → ⊥) → (k ≡ 6 → ⊥) → same_head a b ≡ alike_by k a b
alike-other zero a b g h = absurd (g refl)
alike-other (suc zero) a b g h = refl
alike-other (suc (suc zero)) a b g h = refl
alike-other (suc (suc (suc zero))) a b g h = refl
alike-other (suc (suc (suc (suc zero)))) a b g h = refl
alike-other (suc (suc (suc (suc (suc zero))))) a b g h = refl
alike-other (suc (suc (suc (suc (suc (suc zero)))))) a b g h = absurd (h refl)
alike-other (suc (suc (suc (suc (suc (suc (suc k))))))) a b g h = refl

-- one earlier cell after another
module _ (f : Cell → Bool) (cs : List Cell) (first i j : ℕ) (h : j < i) (l : first + i ≤ length cs) where
  any_step : any f (drop j (take i (drop first cs))) ≡ (f (get_or cs (first + j) no_cell) || any f (drop (j + 1) (take i (drop first cs))))
  any_step =
      let n : length (take i (drop first cs)) ≡ i = simp (length-take, length-drop) (omega arith) in
      let e : get_or (take i (drop first cs)) j no_cell ≡ get_or cs (first + j) no_cell = get_or-take i (drop first cs) j no_cell h ∙ get_or-drop first cs j no_cell in
      rw (drop-cons (take i (drop first cs)) j no_cell (omega arith), e, add-one)

  pub earlier-yes : f (get_or cs (first + j) no_cell) ≡ true → false ≡ not (any f (drop j (take i (drop first cs))))
  earlier-yes e = rw (any_step, e)

  pub earlier-no : f (get_or cs (first + j) no_cell) ≡ false → any f (drop j (take i (drop first cs))) ≡ any f (drop (j + 1) (take i (drop first cs)))
  earlier-no e = rw (any_step, e)

pub earlier-end : (f : Cell → Bool) (cs : List Cell) (first i j : ℕ) → i ≤ j → true ≡ not (any f (drop j (take i (drop first cs))))
earlier-end f cs first i j h = rw (drop_of_length-le (take i (drop first cs)) {i = j} (simp length-take (omega arith)))

-- none is the same, where each is not
earlier-none : (f : Cell → Bool) (xs : List Cell) → ((j : ℕ) → j < length xs → f (get_or xs j no_cell) ≡ false) → any f xs ≡ false
earlier-none f [] h = refl
earlier-none f (x ∷ xs) h = rw (h 0 (omega arith)) (earlier-none f xs (λ j l. h (suc j) (omega arith)))

-- a place of a table is a cell of the job
pub place_inside : (z : Sizes) (k i : ℕ) → k < 10 → i < get_or (counts_of z) k 0 → cell_number z k + i < cell_count z
place_inside z zero i h l = omega arith
place_inside z (suc zero) i h l = omega arith
place_inside z (suc (suc zero)) i h l = omega arith
place_inside z (suc (suc (suc zero))) i h l = omega arith
place_inside z (suc (suc (suc (suc zero)))) i h l = omega arith
place_inside z (suc (suc (suc (suc (suc zero))))) i h l = omega arith
place_inside z (suc (suc (suc (suc (suc (suc zero)))))) i h l = omega arith
place_inside z (suc (suc (suc (suc (suc (suc (suc zero))))))) i h l = omega arith
place_inside z (suc (suc (suc (suc (suc (suc (suc (suc zero)))))))) i h l = omega arith
place_inside z (suc (suc (suc (suc (suc (suc (suc (suc (suc zero))))))))) i h l = omega arith
place_inside z (suc (suc (suc (suc (suc (suc (suc (suc (suc (suc k)))))))))) i h l = absurd (omega arith)

-- a table's cell before which none is the same
pub first-in : (z : Sizes) (cs : List Cell) (same : Cell → Cell → Bool) (k first i : ℕ) → k < 10 → first ≡ cell_number z k → i < get_or (counts_of z) k 0
    → first_among same cs first i ≡ is_first same (get_or (table_list (tables_in z cs)) k []) i (get_or cs (first + i) no_cell)
first-in z cs same k first i h e l =
    let n = get_or (counts_of z) k 0 in
    let t : get_or (table_list (tables_in z cs)) k [] ≡ part cs first n = table_is z cs k h ∙ ap (λ (f : ℕ). part cs f n) (sym e) in
    let c = get_or cs (first + i) no_cell in
    ap (λ (l : List Cell). not (any (λ x. same x c) l)) (sym (take-take i n (drop first cs) (omega arith))) ∙ ap (λ (l : List Cell). is_first same l i c) (sym t)

-- a cell of a table is first where each before it differs
differ-first : (same : Cell → Cell → Bool) (cs : List Cell) (first i : ℕ) → ((j : ℕ) → j < i → same (get_or cs (first + j) no_cell) (get_or cs (first + i) no_cell) ≡ false) → true ≡ first_among same cs first i
differ-first same cs first i d =
    let c = get_or cs (first + i) no_cell in
    ap not (sym (earlier-none (λ x. same x c) (take i (drop first cs)) (λ j l. let h : j < i = omega (arith, length-take i (drop first cs)) in ap (λ (x : Cell). same x c) (part_at cs first i j h) ∙ d j h)))

-- and passes 9, where that is the table's test
once-pass : {K E P : List ℕ} {z : SizesHeld} {n : ℕ} (k : ℕ) → k < 10 → ((t : Tables) → is_first (alike_by k) (get_or (table_list t) k []) ≡ get_or (once_tests t) k passed) → n ≤ get_or (counts_of (sizes_in z)) k 0
    → ((i j : ℕ) → i < n → j < i → alike_by k (cell_held K E P z (cell_number (sizes_in z) k + j)) (cell_held K E P z (cell_number (sizes_in z) k + i)) ≡ false) → Passing K E P z 3 k n
once-pass {K} {E} {P} {z} {n} k h is few d = record {
  few = few;
  pass = λ i l.
      let cs = cells_of K E P (cell_count (sizes_in z)) in
      let first = cell_number (sizes_in z) k in
      differ-first (alike_by k) cs first i (λ j. d i j l) ∙ first-in (sizes_in z) cs (alike_by k) k first i h refl (omega arith) ∙ ap (λ (f : ℕ → Cell → Bool). f i (get_or cs (first + i) no_cell)) (is (tables_for K E P z));
}

-- terms that are known to differ
module _ {K E P : List ℕ} {z : SizesHeld} {n : ℕ} (D : Distinct K E P z n) where
  differ : (i j : ℕ) → i < n → j < i → same_cell (cell_held K E P z (0 + j)) (cell_held K E P z (0 + i)) ≡ false
  differ i j h q = go (same_cell (cell_held K E P z (0 + j)) (cell_held K E P z (0 + i))) refl
    where
      go : (t : Bool) → same_cell (cell_held K E P z (0 + j)) (cell_held K E P z (0 + i)) ≡ t → t ≡ false
      go false e = refl
      go true e =
          let m = cell_count (sizes_in z) in
          let few : n ≤ m = omega (arith, D.few) in
          let long : length (cells_of K E P n) ≡ n = cells-length K E P n in
          let same : get_or (cells_of K E P n) (0 + j) no_cell ≡ get_or (cells_of K E P n) (0 + i) no_cell = cells-fewer K E P n m (0 + j) few (omega arith) ∙ same-cell-eq _ _ e ∙ sym (cells-fewer K E P n m (0 + i) few (omega arith)) in
          absurd (omega (arith, D.once.one (0 + j) (0 + i) (omega arith) (omega arith) same))

  pub distinct-pass : Passing K E P z 3 0 n
  distinct-pass = once-pass {K = K} {E = E} {P = P} {z = z} 0 (omega arith) (λ t. refl) D.few differ

-- rows and normalisers
keyed : (k : ℕ) → (eqb k 6 || eqb k 7) ≡ true → (k ≡ 6) ⊎ (k ≡ 7)
keyed k e = elim (or_cases (eqb k 6) (eqb k 7) e) [ inl p ↦ inl (eq_of k 6 p) | inr p ↦ inr (eq_of k 7 p) ]

pub keyed-table : (k : ℕ) → (eqb k 6 || eqb k 7) ≡ true → k < 10
keyed-table k e = elim (keyed k e) [ inl p ↦ omega arith | inr p ↦ omega arith ]

pub keyed-few : (z : Sizes) (k : ℕ) → Limits z → (eqb k 6 || eqb k 7) ≡ true → get_or (counts_of z) k 0 ≤ 4096
keyed-few z k l e = elim (keyed k e) [ inl p ↦ rw p l.rows | inr p ↦ rw p l.normalisers ]

-- those whose keys differ from the keys before them
abbrev KeysDiffer : List ℕ → List ℕ → List ℕ → SizesHeld → ℕ → ℕ → Type 0
KeysDiffer K E P z n k = Differ (same_key (eqb k 6) (words_from K E P (fill_of z) (cell_number (sizes_in z) k))) (get_or (counts_of (sizes_in z)) k 0) n

module _ {K E P : List ℕ} {z : SizesHeld} {n : ℕ} where
  rows_pass : KeysDiffer K E P z n 6 → Passing K E P z 3 6 n
  rows_pass d = once-pass 6 (omega arith) (λ t. refl) d.low d.differ

  normalisers-pass : KeysDiffer K E P z n 7 → Passing K E P z 3 7 n
  normalisers-pass d = once-pass 7 (omega arith) (λ t. refl) d.low (λ i j h q. sym (and-true _) ∙ d.differ i j h q)

  pub keys-pass : (k first count : ℕ) (f : Fill) → (eqb k 6 || eqb k 7) ≡ true → first ≡ cell_number (sizes_in z) k → count ≡ get_or (counts_of (sizes_in z)) k 0 → f ≡ fill_of z
      → Differ (same_key (eqb k 6) (words_from K E P f first)) count n → Passing K E P z 3 k n
  keys-pass k first count f e p q g d =
      let differing : KeysDiffer K E P z n k = rw (p, q, g) at d in
      elim (keyed k e) [ inl o ↦ rw o (rows_pass (rw o at differing)) | inr o ↦ rw o (normalisers-pass (rw o at differing)) ]

-- the tables whose cells may stand once, by a test with the cells before
pub once-first : (t : Tables) (k i : ℕ) (c : Cell) → (k ≡ 0) ⊎ ((6 ≤ k) × (k < 8)) → get_or (once_tests t) k passed i c ≡ is_first (alike_by k) (get_or (table_list t) k []) i c
once-first t zero i c h = refl
once-first t (suc zero) i c h = elim h [ inl p ↦ absurd (omega arith) | inr (p, q) ↦ absurd (omega arith) ]
once-first t (suc (suc zero)) i c h = elim h [ inl p ↦ absurd (omega arith) | inr (p, q) ↦ absurd (omega arith) ]
once-first t (suc (suc (suc zero))) i c h = elim h [ inl p ↦ absurd (omega arith) | inr (p, q) ↦ absurd (omega arith) ]
once-first t (suc (suc (suc (suc zero)))) i c h = elim h [ inl p ↦ absurd (omega arith) | inr (p, q) ↦ absurd (omega arith) ]
once-first t (suc (suc (suc (suc (suc zero))))) i c h = elim h [ inl p ↦ absurd (omega arith) | inr (p, q) ↦ absurd (omega arith) ]
once-first t (suc (suc (suc (suc (suc (suc zero)))))) i c h = refl
once-first t (suc (suc (suc (suc (suc (suc (suc zero))))))) i c h = refl
once-first t (suc (suc (suc (suc (suc (suc (suc (suc k)))))))) i c h = elim h [ inl p ↦ absurd (omega arith) | inr (p, q) ↦ absurd (omega arith) ]

pub once-other : (t : Tables) (k i : ℕ) (c : Cell) → (k ≡ 9 → ⊥) → (k ≡ 0 → ⊥) → (k ≡ 6 → ⊥) → (k ≡ 7 → ⊥) → true ≡ get_or (once_tests t) k passed i c
once-other t zero i c a b d e = absurd (b refl)
once-other t (suc zero) i c a b d e = refl
once-other t (suc (suc zero)) i c a b d e = refl
once-other t (suc (suc (suc zero))) i c a b d e = refl
once-other t (suc (suc (suc (suc zero)))) i c a b d e = refl
once-other t (suc (suc (suc (suc (suc zero))))) i c a b d e = refl
once-other t (suc (suc (suc (suc (suc (suc zero)))))) i c a b d e = absurd (d refl)
once-other t (suc (suc (suc (suc (suc (suc (suc zero))))))) i c a b d e = absurd (e refl)
once-other t (suc (suc (suc (suc (suc (suc (suc (suc zero)))))))) i c a b d e = refl
once-other t (suc (suc (suc (suc (suc (suc (suc (suc (suc zero))))))))) i c a b d e = absurd (a refl)
once-other t (suc (suc (suc (suc (suc (suc (suc (suc (suc (suc k)))))))))) i c a b d e = refl

pub number-count : (z : Sizes) (k : ℕ) → k < 10 → cell_number z k + get_or (counts_of z) k 0 ≤ cell_count z
number-count z zero h = omega arith
number-count z (suc zero) h = omega arith
number-count z (suc (suc zero)) h = omega arith
number-count z (suc (suc (suc zero))) h = omega arith
number-count z (suc (suc (suc (suc zero)))) h = omega arith
number-count z (suc (suc (suc (suc (suc zero))))) h = omega arith
number-count z (suc (suc (suc (suc (suc (suc zero)))))) h = omega arith
number-count z (suc (suc (suc (suc (suc (suc (suc zero))))))) h = omega arith
number-count z (suc (suc (suc (suc (suc (suc (suc (suc zero)))))))) h = omega arith
number-count z (suc (suc (suc (suc (suc (suc (suc (suc (suc zero))))))))) h = omega arith
number-count z (suc (suc (suc (suc (suc (suc (suc (suc (suc (suc k)))))))))) h = absurd (omega arith)

module _ (z : Sizes) (cs : List Cell) (n : length cs ≡ cell_count z) (k : ℕ) (h : k < 10) where
  pub table-length : length (get_or (table_list (tables_in z cs)) k []) ≡ get_or (counts_of z) k 0
  table-length = rw (table_is z cs k h) (simp (length-take, length-drop) (omega (arith, number-count z k h)))

  pub table-cell : (i : ℕ) → i < get_or (counts_of z) k 0 → get_or (get_or (table_list (tables_in z cs)) k []) i no_cell ≡ get_or cs (cell_number z k + i) no_cell
  table-cell i l = ap (λ (t : List Cell). get_or t i no_cell) (table_is z cs k h) ∙ part_at cs (cell_number z k) (get_or (counts_of z) k 0) i l

-- one cell of a table after another
module _ (f : ℕ → Cell → Bool) (t : List Cell) (first i : ℕ) where
  fails_step : i < length t → fails_from i f (drop i t) ≡ not (f i (get_or t i no_cell)) ∷ fails_from (i + 1) f (drop (i + 1) t)
  fails_step h = rw (drop-cons t i no_cell h, add-one)

  pub found-yes : i < length t → f i (get_or t i no_cell) ≡ false → Some (first + i) ≡ first_found (first + i) (fails_from i f (drop i t))
  unfolding first_found
  found-yes h e = rw (fails_step h, e)

  pub found-no : i < length t → f i (get_or t i no_cell) ≡ true → first_found (first + i) (fails_from i f (drop i t)) ≡ first_found (first + (i + 1)) (fails_from (i + 1) f (drop (i + 1) t))
  unfolding first_found
  found-no h e = let s : suc (first + i) ≡ first + (i + 1) = omega arith in rw (fails_step h, e) (ap (λ (j : ℕ). first_found j (fails_from (i + 1) f (drop (i + 1) t))) s)

  pub found-end : length t ≤ i → None ≡ first_found (first + i) (fails_from i f (drop i t))
  unfolding first_found
  found-end h = rw (drop_of_length-le t h)

plus-zero : (n : ℕ) → n ≡ n + 0
plus-zero n = omega arith

-- cells that pass, one more each time
pub none_pass : {K E P : List ℕ} {z : SizesHeld} {round k : ℕ} → Passing K E P z round k 0
none_pass = record { few = omega arith; pass = λ i h. absurd (omega arith) }

pub more-pass : {K E P : List ℕ} {z : SizesHeld} {round k n : ℕ} → n < get_or (counts_of (sizes_in z)) k 0 → Passing K E P z round k n
    → true ≡ get_or (tests_for round (sizes_in z) (tables_for K E P z)) k passed n (cell_held K E P z (cell_number (sizes_in z) k + n)) → Passing K E P z round k (n + 1)
more-pass {K} {E} {P} {z} {round} {k} {n} l A e = record { few = omega arith; pass = λ i h. go i (ltb i n) refl h }
  where
    go : (i : ℕ) (b : Bool) → ltb i n ≡ b → i < n + 1 → true ≡ get_or (tests_for round (sizes_in z) (tables_for K E P z)) k passed i (cell_held K E P z (cell_number (sizes_in z) k + i))
    go i true q h = A.pass i (ltb-true i n q)
    go i false q h =
        let d : n ≡ i = let g = ltb-false i n q in omega arith in
        subst (λ (j : ℕ). true ≡ get_or (tests_for round (sizes_in z) (tables_for K E P z)) k passed j (cell_held K E P z (cell_number (sizes_in z) k + j))) d e

-- terms that pass 6 and 7
pub sound-round : {K E P : List ℕ} {z : SizesHeld} {n : ℕ} → Sound K E P z n → (round : ℕ) → round < 2 → Passing K E P z round 0 n
sound-round S zero h = S.fit
sound-round S (suc zero) h = S.refer
sound-round S (suc (suc k)) h = absurd (omega arith)

-- past cells that pass
pub found-past : (f : ℕ → Cell → Bool) (t : List Cell) (first n : ℕ) → n ≤ length t → ((i : ℕ) → i < n → true ≡ f i (get_or t i no_cell))
    → first_found first (fails_from 0 f t) ≡ first_found (first + n) (fails_from n f (drop n t))
found-past f t first zero h p = ap (λ (i : ℕ). first_found i (fails_from 0 f t)) (plus-zero first)
found-past f t first (suc n) h p =
    found-past f t first n (omega arith) (λ i l. p i (omega arith)) ∙ found-no f t first n (omega arith) (sym (p n (omega arith)))
    ∙ ap (λ (i : ℕ). first_found (first + i) (fails_from i f (drop i t))) (add-one n)

pub fails-length : (f : ℕ → Cell → Bool) (i : ℕ) (t : List Cell) → length (fails_from i f t) ≡ length t
fails-length f i [] = refl
fails-length f i (c ∷ cs) = ap suc (fails-length f (suc i) cs)

-- the first mark of two lists
pub found_left : (ms ns : List Bool) (i j : ℕ) → first_found i ms ≡ Some j → first_found i (ms ++ ns) ≡ Some j
unfolding first_found
found_left [] ns i j e = let z : ◌≡◌ {A = ℕ} 0 1 = cc in absurd (omega arith)
found_left (true ∷ ms) ns i j e = e
found_left (false ∷ ms) ns i j e = found_left ms ns (suc i) j e

pub found_right : (ms ns : List Bool) (i : ℕ) → first_found i ms ≡ None → first_found i (ms ++ ns) ≡ first_found (i + length ms) ns
unfolding first_found
found_right [] ns i e = ap (λ (j : ℕ). first_found j ns) (plus-zero i)
found_right (true ∷ ms) ns i e = let z : ◌≡◌ {A = ℕ} 0 1 = cc in absurd (omega arith)
found_right (false ∷ ms) ns i e = found_right ms ns (suc i) e ∙ ap (λ (j : ℕ). first_found j ns) (shift i (length ms))
  where
    shift : (i n : ℕ) → suc i + n ≡ i + suc n
    shift i n = omega arith

-- one table after another
marks-step : (fs : List (ℕ → Cell → Bool)) (ts : List (List Cell)) (k : ℕ) → k < length fs → k < length ts
    → marks (drop k fs) (drop k ts) ≡ fails_from 0 (get_or fs k passed) (get_or ts k []) ++ marks (drop (k + 1) fs) (drop (k + 1) ts)
marks-step fs ts k h l = rw (drop-cons fs k passed h, drop-cons ts k [] l, add-one)

module _ (fs : List (ℕ → Cell → Bool)) (ts : List (List Cell)) (k first : ℕ) (h : k < length fs) (l : k < length ts) where
  pub tables-yes : (j : ℕ) → first_found first (fails_from 0 (get_or fs k passed) (get_or ts k [])) ≡ Some j → first_found first (marks (drop k fs) (drop k ts)) ≡ Some j
  tables-yes j e = ap (first_found first) (marks-step fs ts k h l) ∙ found_left _ _ first j e

  pub tables-no : first_found first (fails_from 0 (get_or fs k passed) (get_or ts k [])) ≡ None
      → first_found first (marks (drop k fs) (drop k ts)) ≡ first_found (first + length (get_or ts k [])) (marks (drop (k + 1) fs) (drop (k + 1) ts))
  tables-no e = ap (first_found first) (marks-step fs ts k h l) ∙ found_right _ _ first e
      ∙ ap (λ (n : ℕ). first_found (first + n) (marks (drop (k + 1) fs) (drop (k + 1) ts))) (fails-length (get_or fs k passed) 0 (get_or ts k []))

pub tests-ten : (round : ℕ) (z : Sizes) (t : Tables) → length (tests_for round z t) ≡ 10
tests-ten zero z t = refl
tests-ten (suc zero) z t = refl
tests-ten (suc (suc zero)) z t = refl
tests-ten (suc (suc (suc k))) z t = refl

pub tables_end : (round : ℕ) (z : Sizes) (t : Tables) (first : ℕ) → None ≡ first_found first (marks (drop 10 (tests_for round z t)) (drop 10 (table_list t)))
unfolding first_found
tables_end round z t first = rw (drop_of_length-le (tests_for round z t) {i = 10} (omega (arith, tests-ten round z t)))

pub number-next : (z : Sizes) (k : ℕ) → k < 10 → cell_number z k + get_or (counts_of z) k 0 ≡ cell_number z (k + 1)
number-next z zero h = omega arith
number-next z (suc zero) h = omega arith
number-next z (suc (suc zero)) h = omega arith
number-next z (suc (suc (suc zero))) h = omega arith
number-next z (suc (suc (suc (suc zero)))) h = omega arith
number-next z (suc (suc (suc (suc (suc zero))))) h = omega arith
number-next z (suc (suc (suc (suc (suc (suc zero)))))) h = omega arith
number-next z (suc (suc (suc (suc (suc (suc (suc zero))))))) h = omega arith
number-next z (suc (suc (suc (suc (suc (suc (suc (suc zero)))))))) h = omega arith
number-next z (suc (suc (suc (suc (suc (suc (suc (suc (suc zero))))))))) h = omega arith
number-next z (suc (suc (suc (suc (suc (suc (suc (suc (suc (suc k)))))))))) h = absurd (omega arith)
