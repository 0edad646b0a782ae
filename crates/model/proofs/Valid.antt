-- What loading ensures of a job, and that each of its numbers has its tree.
use Prim.Native.Nat.{ℕ, zero, suc, ◌+◌, ◌<◌, ◌≤◌, min}
use native.Mathlib.Omega.{arith}
use native.Mathlib.Nat.{not-suc-le-zero, le_of_suc-le-suc}
use native.Mathlib.Decide.{dec_lt}
use mathlib.Core.Path.{◌≡◌, refl, sym, ap, subst, ◌∙◌}
use mathlib.Core.Logic.{◌⊎◌, inl, inr}
use mathlib.Core.List.Memᴰ
use mathlib.Core.List.{List, [], ◌∷◌, map, Memᴰ}
use mathlib.Core.Bool.{Bool, true, false, not, ◌&&◌, ◌||◌, true≢false}
use mathlib.Core.Option.{Option, none, some, none-ne-some, some-injective}
use lib.ListN.{length, get_or, take, drop, length-append, length-take, length-map, get_or-eq_default}
use lib.Dec.{eqb, leb, ltb, lit<}
use Rattle.model.specs.Cell.{Cell, no_cell, same_cell, tabulate, cells_of}
use Rattle.model.specs.Term.{Term, lit, var, app, get_term, term_words, cell_of, read_literal, read_term, Below, Ordered}
use Rattle.model.specs.Program.{Binding, Row, Proof, references, substitution, Job}
use Rattle.model.specs.Layout.{Sizes, sizes_of, cell_count, kinds_of, ends_of, pool_of, Tables, part, table_list, tables_of}
use Rattle.model.specs.Decode.{read_head, read_arguments, read_row, read_proof, read_program, read_job, job_of}
use Rattle.model.specs.Check.{Refusal}
use Rattle.model.specs.Load.{Lent, any, between, term_fits, below, term_refers, head_refers, row_refers, proof_refers, is_first, fails_from, marks, passed, fit_tests, refer_tests, valid_tests, once_tests, first_marked, first_refusal, first_failing, Admitted, load_tests, load_refusal}
use Rattle.model.specs.Tree.{Tree, trees_by, tree_of_term, tree_in, tree_of, TreeBinding, tree_rows}
use Rattle.model.specs.Walk.{no_proof, claim_at}
use Rattle.model.proofs.Tests.{eq_of, eqb_same, lt_of, le_of, and_left, and_right, not-false, never, words_same}
use Rattle.model.proofs.Represent.{Rep, Reps, Distinct}
use Rattle.model.proofs.Store.{get-below}
use Rattle.model.proofs.Evaluation.{Binds, bnil, bcons, Table, rnil, rcons, World}

-- what the check relies on
pub record Valid (job : Job) : Type 0 where
  pub ordered : Ordered job.terms
  pub distinct : Distinct job.terms
  pub rows : (r : Row) → Memᴰ r job.program.rows → (r.result < length job.terms) × Below (length job.terms) r.arguments
  pub claims : (p : ℕ) → p < length job.proofs → ((claim_at job.proofs p).lhs < length job.terms) × ((claim_at job.proofs p).rhs < length job.terms)
  pub substitutions : (p : ℕ) → p < length job.proofs → (b : Binding) → Memᴰ b (substitution (get_or job.proofs p no_proof).justification) → b.term < length job.terms
  pub references : (p : ℕ) → p < length job.proofs → Below p (references (get_or job.proofs p no_proof).justification)

-- no cell is marked
abbrev Unmarked : List Bool → Type 0
Unmarked ms = (m : Bool) → Memᴰ m ms → m ≡ false

unmarked : (n i : ℕ) (ms : List Bool) → first_marked n i ms ≡ none → Unmarked ms
unfolding first_marked
unmarked n i [] e m k = absurd (Memᴰ.not-nil k)
unmarked n i (false ∷ ms) e m k = go (Memᴰ.cases_cons k) (unmarked n (suc i) ms e m)
  where
    go : (m ≡ false) ⊎ Memᴰ m ms → (Memᴰ m ms → m ≡ false) → m ≡ false
    go (inl h) r = h
    go (inr h) r = r h
unmarked n i (true ∷ ms) e m k = absurd (none-ne-some (record { number = n; fields = i ∷ [] }) (sym e))

unmarked-head : (m : Bool) (ms : List Bool) → Unmarked (m ∷ ms) → m ≡ false
unmarked-head m ms u = u m (Memᴰ.head refl)

unmarked-tail : (m : Bool) (ms : List Bool) → Unmarked (m ∷ ms) → Unmarked ms
unmarked-tail m ms u b k = u b (Memᴰ.tail k)

-- each table's test passes at each place
marked-table : (fs : List (ℕ → Cell → Bool)) (ts : List (List Cell)) → Unmarked (marks fs ts) → (k : ℕ) → k < length fs → k < length ts
    → Unmarked (fails_from 0 (get_or fs k passed) (get_or ts k []))
marked-table [] ts u k h l = absurd (not-suc-le-zero h)
marked-table (f ∷ fs) [] u k h l = absurd (not-suc-le-zero l)
marked-table (f ∷ fs) (t ∷ ts) u zero h l = λ b m. u b (Memᴰ.append_left (marks fs ts) m)
marked-table (f ∷ fs) (t ∷ ts) u (suc k) h l = marked-table fs ts (λ b m. u b (Memᴰ.append_right (fails_from 0 f t) m)) k (le_of_suc-le-suc h) (le_of_suc-le-suc l)

passes_at : (i : ℕ) (f : ℕ → Cell → Bool) (cs : List Cell) → Unmarked (fails_from i f cs) → (k : ℕ) → k < length cs → f (i + k) (get_or cs k no_cell) ≡ true
passes_at i f [] u k h = absurd (not-suc-le-zero h)
passes_at i f (c ∷ cs) u zero h = subst (λ (j : ℕ). f j c ≡ true) (omega arith) (not-false (f i c) (unmarked-head _ _ u))
passes_at i f (c ∷ cs) u (suc k) h =
    subst (λ (j : ℕ). f j (get_or cs k no_cell) ≡ true) (omega arith) (passes_at (suc i) f cs (unmarked-tail (not (f i c)) _ u) k (le_of_suc-le-suc h))

passes : (f : ℕ → Cell → Bool) (cs : List Cell) → Unmarked (fails_from 0 f cs) → (k : ℕ) → k < length cs → f k (get_or cs k no_cell) ≡ true
passes f cs u k h = subst (λ (j : ℕ). f j (get_or cs k no_cell) ≡ true) (omega arith) (passes_at 0 f cs u k h)

-- a place of what was read is a place of the cells
module _ {A : Type 0} (read : Cell → A) where
  pub read_at : (cs : List Cell) (d : A) (k : ℕ) → k < length cs → get_or (map read cs) k d ≡ read (get_or cs k no_cell)
  read_at [] d k h = absurd (not-suc-le-zero h)
  read_at (c ∷ cs) d zero h = refl
  read_at (c ∷ cs) d (suc k) h = read_at cs d k (le_of_suc-le-suc h)

  member-at : (cs : List Cell) (a : A) → Memᴰ a (map read cs) → (k : ℕ) × (k < length cs) × (read (get_or cs k no_cell) ≡ a)
  member-at [] a m = absurd (Memᴰ.not-nil m)
  member-at (c ∷ cs) a m = go (Memᴰ.cases_cons m) (member-at cs a)
    where
      go : (a ≡ read c) ⊎ Memᴰ a (map read cs) → (Memᴰ a (map read cs) → (k : ℕ) × (k < length cs) × (read (get_or cs k no_cell) ≡ a))
          → (k : ℕ) × (k < length (c ∷ cs)) × (read (get_or (c ∷ cs) k no_cell) ≡ a)
      go (inl e) r = (zero, omega arith, sym e)
      go (inr n) r = let k = r n in (suc k.0, omega (arith, k.1), k.2)

term-at : (cs : List Cell) (n : ℕ) (t : Term) → get_term (map read_term cs) n ≡ some t → (n < length cs) × (read_term (get_or cs n no_cell) ≡ t)
unfolding get_term
term-at [] n t e = absurd (none-ne-some t e)
term-at (c ∷ cs) zero t e = (omega arith, some-injective (read_term c) t e)
term-at (c ∷ cs) (suc n) t e = let h = term-at cs n t e in (omega (arith, h.0), h.1)

pub below_of : (n : ℕ) (xs : List ℕ) → below n xs ≡ true → Below n xs
below_of n [] e x m = absurd (Memᴰ.not-nil m)
below_of n (y ∷ ys) e x m = go (Memᴰ.cases_cons m) (below_of n ys (and_right (ltb y n) _ e))
  where
    go : (x ≡ y) ⊎ Memᴰ x ys → Below n ys → x < n
    go (inl h) k = rw h (lt_of y n (and_left _ _ e))
    go (inr m) k = k x m

-- a cell that fits is its term's cell
module _ (ws : List ℕ) where
  three : (us : List ℕ) → eqb (length us) 3 ≡ true → us ≡ term_words (lit (read_literal us))
  three [] e = never e
  three (a ∷ []) e = never e
  three (a ∷ b ∷ []) e = never e
  three (a ∷ b ∷ d ∷ []) e = refl
  three (a ∷ b ∷ d ∷ x ∷ us) e = absurd (let h = eq_of (length (a ∷ b ∷ d ∷ x ∷ us)) 3 e in omega arith)

  one : (us : List ℕ) → between 1 1 (record { kind = 1; words = us }) ≡ true → us ≡ get_or us 0 0 ∷ []
  one [] e = never e
  one (a ∷ []) e = refl
  one (a ∷ b ∷ us) e = absurd (let h = le_of (length (a ∷ b ∷ us)) 1 (and_right (leb 1 (length (a ∷ b ∷ us))) _ e) in omega arith)

  some_words : (us : List ℕ) → between 1 17 (record { kind = 2; words = us }) ≡ true → us ≡ get_or us 0 0 ∷ drop 1 us
  some_words [] e = never e
  some_words (a ∷ us) e = refl

pub term-cell : (c : Cell) → term_fits c ≡ true → c ≡ cell_of (read_term c)
unfolding read_term
term-cell c e = go c.kind c.words e
  where
    go : (k : ℕ) (ws : List ℕ) → term_fits (record { kind = k; words = ws }) ≡ true → record { kind = k; words = ws } ≡ cell_of (read_term (record { kind = k; words = ws }))
    go zero ws e = ap (λ (us : List ℕ). record { kind = 0; words = us }) (three ws ws (and_left _ _ e))
    go (suc zero) ws e = ap (λ (us : List ℕ). record { kind = 1; words = us }) (one ws ws e)
    go (suc (suc zero)) ws e = ap (λ (us : List ℕ). record { kind = 2; words = us }) (some_words ws ws e)
    go (suc (suc (suc k))) ws e = never e

pub cell_same : (c : Cell) → same_cell c c ≡ true
cell_same c = rw (eqb_same c.kind) (words_same c.words)

any-take : (f : Cell → Bool) (cs : List Cell) (m n : ℕ) → m < n → m < length cs → f (get_or cs m no_cell) ≡ true → any f (take n cs) ≡ true
any-take f [] m n h l e = absurd (not-suc-le-zero l)
any-take f (c ∷ cs) m zero h l e = absurd (not-suc-le-zero h)
any-take f (c ∷ cs) zero (suc n) h l e = rw e
any-take f (c ∷ cs) (suc m) (suc n) h l e = either (f c) (any-take f cs m n (le_of_suc-le-suc h) (le_of_suc-le-suc l) e)
  where
    either : (a : Bool) → any f (take n cs) ≡ true → (a || any f (take n cs)) ≡ true
    either true k = refl
    either false k = k

-- no term's cell is that of one before it
once-of : (cs : List Cell) → ((k : ℕ) → k < length cs → term_fits (get_or cs k no_cell) ≡ true) → ((k : ℕ) → k < length cs → is_first same_cell cs k (get_or cs k no_cell) ≡ true)
    → (m n : ℕ) (t : Term) → m < n → m < length cs → n < length cs → read_term (get_or cs m no_cell) ≡ t → read_term (get_or cs n no_cell) ≡ t → ⊥
once-of cs fit first m n t h l k a b =
    let same : get_or cs m no_cell ≡ get_or cs n no_cell = term-cell (get_or cs m no_cell) (fit m l) ∙ ap cell_of (a ∙ sym b) ∙ sym (term-cell (get_or cs n no_cell) (fit n k)) in
    let seen : any (λ e. same_cell e (get_or cs n no_cell)) (take n cs) ≡ true =
    any-take (λ e. same_cell e (get_or cs n no_cell)) cs m n h l (subst (λ (c : Cell). same_cell c (get_or cs n no_cell) ≡ true) (sym same) (cell_same (get_or cs n no_cell))) in
    true≢false (sym (first n k) ∙ ap not seen)

distinct_of : (cs : List Cell) → ((k : ℕ) → k < length cs → term_fits (get_or cs k no_cell) ≡ true) → ((k : ℕ) → k < length cs → is_first same_cell cs k (get_or cs k no_cell) ≡ true)
    → (m n : ℕ) (t : Term) → get_term (map read_term cs) m ≡ some t → get_term (map read_term cs) n ≡ some t → m ≡ n
distinct_of cs fit first m n t a b = go (dec_lt m n) (dec_lt n m) (term-at cs m t a) (term-at cs n t b)
  where
    go : Dec (m < n) → Dec (n < m) → (m < length cs) × (read_term (get_or cs m no_cell) ≡ t) → (n < length cs) × (read_term (get_or cs n no_cell) ≡ t) → m ≡ n
    go (yes h) q x y = absurd (once-of cs fit first m n t h x.0 y.0 x.1 y.1)
    go (no h) (yes k) x y = absurd (once-of cs fit first n m t k y.0 x.0 y.1 x.1)
    go (no h) (no k) x y = omega arith

ordered_of : (cs : List Cell) → ((k : ℕ) → k < length cs → term_refers k (read_term (get_or cs k no_cell)) ≡ true)
    → (n f : ℕ) (xs : List ℕ) → get_term (map read_term cs) n ≡ some (app f xs) → Below n xs
ordered_of cs refers n f xs g =
    let t = term-at cs n (app f xs) g in
    below_of n xs (subst (λ (u : Term). term_refers n u ≡ true) t.1 (refers n t.0))

module _ {A : Type 0} where
  pub length-tabulate : (n : ℕ) (f : ℕ → A) → length (tabulate n f) ≡ n
  unfolding tabulate
  length-tabulate zero f = refl
  length-tabulate (suc n) f = let h = length-tabulate n f in length-append (tabulate n f) (f n ∷ []) ∙ omega arith

-- a job has as many terms as its size says
terms-length : (ws : List ℕ) → (sizes_of ws).terms ≤ length (tables_of ws).terms
unfolding tables_of cells_of
terms-length ws =
    let z = sizes_of ws in
    let cells = cells_of (kinds_of ws) (ends_of ws) (pool_of ws) (cell_count z) in
    let n : length cells ≡ cell_count z = length-tabulate (cell_count z) _ in
    let m : length (part cells 0 z.terms) ≡ min z.terms (length cells) = length-take z.terms cells in
    omega arith

-- no test refuses
pub pass : (ts : List (Unit {0} → Option Refusal)) → first_refusal ts ≡ none → (t : Unit {0} → Option Refusal) → Memᴰ t ts → t tt ≡ none
pass [] e t m = absurd (Memᴰ.not-nil m)
pass (u ∷ us) e t m = go (u tt) refl e (Memᴰ.cases_cons m) (λ h. pass us h t)
  where
    go : (o : Option Refusal) → u tt ≡ o → ◌≡◌ {A = Option Refusal} (elim o [ none ↦ first_refusal us | some r ↦ some r ]) none → (t ≡ u) ⊎ Memᴰ t us
        → (first_refusal us ≡ none → Memᴰ t us → t tt ≡ none) → t tt ≡ none
    go none h e (inl i) k = ap (λ (f : Unit {0} → Option Refusal). f tt) i ∙ h
    go none h e (inr n) k = k e n
    go (some r) h e i k = absurd (none-ne-some r (sym e))

-- where none fails, each cell of each table passes its table's test
pub table-passes : (t : Tables) (n : ℕ) (fs : List (ℕ → Cell → Bool)) (k : ℕ) → k < 10 → length fs ≡ 10 → (i : ℕ) → i < length (get_or (table_list t) k []) → first_failing n fs t ≡ none
    → get_or fs k passed i (get_or (get_or (table_list t) k []) i no_cell) ≡ true
table-passes t n fs k h l i m q = passes (get_or fs k passed) (get_or (table_list t) k []) (marked-table fs (table_list t) (unmarked n 0 _ q) k (omega arith) h) i m

pub loads-admitted : (ws : List ℕ) (p mode : ℕ) (lent : Lent) → load_refusal ws p mode lent ≡ none → Admitted (sizes_of ws) (tables_of ws)
unfolding load_refusal
loads-admitted ws p mode lent e = record {
  fits = λ k h i l. table-passes t 6 (fit_tests t) k h refl i l (pass tests e _ (Memᴰ.tail (Memᴰ.tail (Memᴰ.tail (Memᴰ.tail (Memᴰ.tail (Memᴰ.head refl)))))));
  refers = λ k h i l. table-passes t 7 (refer_tests z) k h refl i l (pass tests e _ (Memᴰ.tail (Memᴰ.tail (Memᴰ.tail (Memᴰ.tail (Memᴰ.tail (Memᴰ.tail (Memᴰ.head refl))))))));
  validated = λ k h i l. table-passes t 8 (valid_tests t) k h refl i l (pass tests e _ (Memᴰ.tail (Memᴰ.tail (Memᴰ.tail (Memᴰ.tail (Memᴰ.tail (Memᴰ.tail (Memᴰ.tail (Memᴰ.head refl)))))))));
  once = λ k h i l. table-passes t 9 (once_tests t) k h refl i l (pass tests e _ (Memᴰ.tail (Memᴰ.tail (Memᴰ.tail (Memᴰ.tail (Memᴰ.tail (Memᴰ.tail (Memᴰ.tail (Memᴰ.tail (Memᴰ.head refl))))))))));
}
  where
    z : Sizes
    z = sizes_of ws

    t : Tables
    t = tables_of ws

    tests : List (Unit {0} → Option Refusal)
    tests = load_tests ws (sizes_of ws) (tables_of ws) p mode lent

-- an admitted job is valid
admitted-valid : (z : Sizes) (t : Tables) → z.terms ≤ length t.terms → Admitted z t → Valid (read_job z t)
unfolding read_job read_program
admitted-valid z t size a = record {
  ordered = record { lower = ordered_of t.terms (a.refers 0 (lit< tt)) };
  distinct = record { one = distinct_of t.terms (a.fits 0 (lit< tt)) (a.once 0 (lit< tt)) };
  rows = λ r m.
      let k = member-at read_row t.rows r m in
      row r (subst (λ (x : Row). row_refers z.primitives z.terms x ≡ true) k.2 (a.refers 6 (lit< tt) k.0 k.1));
  claims = λ p h. claims p (inside p h);
  substitutions = λ p h b m. bound p (inside p h) b m;
  references = λ p h. below_of p (references (get_or (map read_proof t.proofs) p no_proof).justification)
      (and_right (ltb (claim_at (map read_proof t.proofs) p).lhs z.terms && ltb (claim_at (map read_proof t.proofs) p).rhs z.terms) _
      (and_left (ltb (claim_at (map read_proof t.proofs) p).lhs z.terms && ltb (claim_at (map read_proof t.proofs) p).rhs z.terms && below p (references (get_or (map read_proof t.proofs) p no_proof).justification)) _ (proof-at p (inside p h))));
}
  where
    terms : length (map read_term t.terms) ≡ length t.terms
    terms = length-map t.terms read_term

    inside : (p : ℕ) → p < length (map read_proof t.proofs) → p < length t.proofs
    inside p h = omega (arith, length-map t.proofs read_proof)

    row : (r : Row) → row_refers z.primitives z.terms r ≡ true → (r.result < length (map read_term t.terms)) × Below (length (map read_term t.terms)) r.arguments
    row r h =
        let k = and_left (ltb r.primitive z.primitives && ltb r.result z.terms) _ h in
        let l : r.result < z.terms = lt_of r.result z.terms (and_right (ltb r.primitive z.primitives) _ k) in
        (omega (arith, terms), λ y n. let j : y < z.terms = below_of z.terms r.arguments (and_right (ltb r.primitive z.primitives && ltb r.result z.terms) _ h) y n in omega (arith, terms))

    proof-at : (p : ℕ) → p < length t.proofs → proof_refers z.terms p (get_or (map read_proof t.proofs) p no_proof) ≡ true
    proof-at p h = subst (λ (q : Proof). proof_refers z.terms p q ≡ true) (sym (read_at read_proof t.proofs no_proof p h)) (a.refers 9 (lit< tt) p h)

    front : (p : ℕ) → proof_refers z.terms p (get_or (map read_proof t.proofs) p no_proof) ≡ true
        → (ltb (claim_at (map read_proof t.proofs) p).lhs z.terms && ltb (claim_at (map read_proof t.proofs) p).rhs z.terms) ≡ true
    front p e = and_left _ (below p (references (get_or (map read_proof t.proofs) p no_proof).justification))
        (and_left _ (below z.terms (map (λ b. b.term) (substitution (get_or (map read_proof t.proofs) p no_proof).justification))) e)

    claims : (p : ℕ) → p < length t.proofs
        → ((claim_at (map read_proof t.proofs) p).lhs < length (map read_term t.terms)) × ((claim_at (map read_proof t.proofs) p).rhs < length (map read_term t.terms))
    claims p h =
        let c = proof-at p h in
        let l : (claim_at (map read_proof t.proofs) p).lhs < z.terms = lt_of _ z.terms (and_left _ (ltb (claim_at (map read_proof t.proofs) p).rhs z.terms) (front p c)) in
        let k : (claim_at (map read_proof t.proofs) p).rhs < z.terms = lt_of _ z.terms (and_right (ltb (claim_at (map read_proof t.proofs) p).lhs z.terms) _ (front p c)) in
        (omega (arith, terms), omega (arith, terms))

    bound : (p : ℕ) → p < length t.proofs → (b : Binding) → Memᴰ b (substitution (get_or (map read_proof t.proofs) p no_proof).justification) → b.term < length (map read_term t.terms)
    bound p h b m =
        let l : b.term < z.terms = below_of z.terms _ (and_right (ltb (claim_at (map read_proof t.proofs) p).lhs z.terms && ltb (claim_at (map read_proof t.proofs) p).rhs z.terms
        && below p (references (get_or (map read_proof t.proofs) p no_proof).justification)) _ (proof-at p h)) b.term (Memᴰ.map (λ (c : Binding). c.term) m) in
        omega (arith, terms)

pub loads-valid : (ws : List ℕ) (p mode : ℕ) (lent : Lent) → load_refusal ws p mode lent ≡ none → Valid (job_of ws)
loads-valid ws p mode lent e = admitted-valid (sizes_of ws) (tables_of ws) (terms-length ws) (loads-admitted ws p mode lent e)

-- an argument of an admitted job's expression has a lower number
pub expressions-lower : (z : Sizes) (t : Tables) → Admitted z t → (e : ℕ) → Below e (read_arguments (get_or t.expressions e no_cell))
expressions-lower z t a e = go (dec_lt e (length t.expressions))
  where
    go : Dec (e < length t.expressions) → Below e (read_arguments (get_or t.expressions e no_cell))
    go (yes l) x m = below_of e _ (and_right (head_refers z.primitives (read_head (get_or t.expressions e no_cell))) _ (a.refers 1 (lit< tt) e l)) x m
    go (no l) x m = absurd (Memᴰ.not-nil (subst (λ (c : Cell). Memᴰ x (read_arguments c)) (get_or-eq_default t.expressions no_cell {n = e} (omega arith)) m))

-- each number of a valid job has its tree
pub trees_reps : (g : ℕ → Tree) (s : List Term) (xs : List ℕ) → ((x : ℕ) → Memᴰ x xs → Rep (g x) s x) → Reps (trees_by g xs) s xs
trees_reps g s [] h = tt
trees_reps g s (x ∷ xs) h = (h x (Memᴰ.head refl), trees_reps g s xs (λ y m. h y (Memᴰ.tail m)))

of-term : (g : ℕ → Tree) (s : List Term) (n : ℕ) (t : Term) → get_term s n ≡ some t
    → ((f : ℕ) (xs : List ℕ) → get_term s n ≡ some (app f xs) → (x : ℕ) → Memᴰ x xs → Rep (g x) s x) → Rep (tree_of_term g (some t)) s n
of-term g s n (lit l) e h = e
of-term g s n (var x) e h = e
of-term g s n (app f xs) e h = (xs, e, trees_reps g s xs (h f xs e))

pub tree-in : (s : List Term) → Ordered s → (f n : ℕ) → n < f → n < length s → Rep (tree_in f s n) s n
unfolding tree_in
tree-in s o zero n h k = absurd (not-suc-le-zero h)
tree-in s o (suc f) n h k =
    let t = get-below s n k in
    subst (λ (x : Option Term). Rep (tree_of_term (tree_in f s) x) s n) (sym t.1)
    (of-term (tree_in f s) s n t.0 t.1 (λ g xs e x m. let l : x < n = o.lower n g xs e x m in tree-in s o f x (omega arith) (omega arith)))

pub tree-rep : (s : List Term) → Ordered s → (n : ℕ) → n < length s → Rep (tree_of s n) s n
tree-rep s o n h = tree-in s o (suc n) n (omega arith) h

pub tree_bindings : List Term → List Binding → List TreeBinding
tree_bindings s [] = []
tree_bindings s (b ∷ bs) = record { name = b.name; tree = tree_of s b.term } ∷ tree_bindings s bs

module _ (job : Job) (valid : Valid job) where
  table_of : (rs : List Row) → ((r : Row) → Memᴰ r rs → (r.result < length job.terms) × Below (length job.terms) r.arguments)
      → Table job.terms (tree_rows job.terms rs) rs
  table_of [] h = rnil
  table_of (r ∷ rs) h =
      let k = h r (Memᴰ.head refl) in
      rcons refl (tree-rep job.terms valid.ordered r.result k.0)
      (trees_reps (tree_of job.terms) job.terms r.arguments (λ x m. tree-rep job.terms valid.ordered x (k.1 x m)))
      (table_of rs (λ q m. h q (Memᴰ.tail m)))

  pub valid-world : World job.program (tree_rows job.terms job.program.rows) job.terms
  valid-world = record { distinct = valid.distinct; ordered = valid.ordered; table = table_of job.program.rows valid.rows }

  pub tree-binds : (bs : List Binding) → ((b : Binding) → Memᴰ b bs → b.term < length job.terms) → Binds job.terms (tree_bindings job.terms bs) bs
  unfolding tree_bindings
  tree-binds [] h = bnil
  tree-binds (b ∷ bs) h = bcons refl (tree-rep job.terms valid.ordered b.term (h b (Memᴰ.head refl))) (tree-binds bs (λ c m. h c (Memᴰ.tail m)))
