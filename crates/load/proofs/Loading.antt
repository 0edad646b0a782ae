-- Laws of loading as a whole: what rising ends give, the tests in their order, and the room that the terms take.
use mathlib.Core.Path.{◌≡◌, refl, sym, ap, ap₂, subst, ◌∙◌}
use mathlib.Core.Bool.{Bool, true, false, ◌||◌}
use mathlib.Core.List.{List, [], ◌∷◌, ◌++◌, map, Memᴰ}
use mathlib.Core.Option.{Option, none, some, none-ne-some}
use Prim.Native.Nat.{ℕ, zero, suc, ◌+◌, ◌*◌, ◌-◌, ◌≤◌, ◌<◌}
use native.Mathlib.Omega.{arith}
use native.Mathlib.Nat.{le_trans, not-suc-le-zero}
use native.Mathlib.Decide.{dec_lt}
use lib.Dec.{leb, ltb}
use lib.ListN.{length, get_or, take, drop, length-take, length-drop}
use lib.Seq.{take-append-le, take_all}
use borrow.Author.Tests.{ltb-false}
use Rattle.model.specs.Cell.{Cell, no_cell, tabulate, start_of, cell_at, cells_of}
use Rattle.model.specs.Term.{read_term, term_words, widths}
use Rattle.model.specs.Layout.{Sizes, sizes_of, cell_count, kinds_of, ends_of, pool_of, Tables, tables_in, tables_of}
use Rattle.model.specs.Check.{Refusal}
use Rattle.model.specs.Load.{Lent, wrong_length, too_large, unknown_mode, ends_rise, no_room, wrong_slots, refused_if, term_fits, fit_tests, first_refusal, load_tests, load_refusal}
use Rattle.model.proofs.Tests.{eq_of, le_of, and_left, and_right, or_left, or_right, not-false}
use Rattle.model.proofs.Valid.{term-cell, pass, table-passes, length-tabulate}
use Rattle.cells.specs.Table.{total}
use Rattle.cells.proofs.Laws.{to_end}
use Rattle.cells.proofs.Appending.{total-at}
use Rattle.load.specs.declared.sizes.Sizes.{Sizes as SizesHeld}
use Rattle.load.specs.Held.{sizes_in, Limits, Held, tables_for, Cut, writer_tests, room_lacks, cell_refusal}
use Rattle.load.proofs.Rounds.{or_rest}

-- ends that rise from s
module _ (p : ℕ) where
  rise-le : (s : ℕ) (E : List ℕ) → ends_rise s E p ≡ true → s ≤ p
  rise-le s [] h = omega (arith, eq_of s p h)
  rise-le s (e ∷ E) h = le_trans (le_of s e (and_left _ _ h)) (rise-le e E (and_right (leb s e) _ h))

  -- the start of cell i, where the first cell starts at s
  abbrev start_from : ℕ → List ℕ → ℕ → ℕ
  start_from s E zero = s
  start_from s E (suc i) = get_or E i 0

  rise-start : (s : ℕ) (E : List ℕ) → ends_rise s E p ≡ true → (i : ℕ) → i < length E → start_from s E i ≤ get_or E i 0
  rise-start s [] h i l = absurd (not-suc-le-zero l)
  rise-start s (e ∷ E) h zero l = le_of s e (and_left _ _ h)
  rise-start s (e ∷ E) h (suc zero) l = rise-start e E (and_right (leb s e) _ h) zero (omega arith)
  rise-start s (e ∷ E) h (suc (suc i)) l = rise-start e E (and_right (leb s e) _ h) (suc i) (omega arith)

  rise-below : (s : ℕ) (E : List ℕ) → ends_rise s E p ≡ true → (i : ℕ) → i < length E → get_or E i 0 ≤ p
  rise-below s [] h i l = absurd (not-suc-le-zero l)
  rise-below s (e ∷ E) h zero l = rise-le e E (and_right (leb s e) _ h)
  rise-below s (e ∷ E) h (suc i) l = rise-below e E (and_right (leb s e) _ h) i (omega arith)

  rise-top : (s : ℕ) (E : List ℕ) → ends_rise s E p ≡ true → start_from s E (length E) ≡ p
  rise-top s [] h = eq_of s p h
  rise-top s (e ∷ []) h = eq_of e p (and_right (leb s e) _ h)
  rise-top s (e ∷ d ∷ E) h = rise-top e (d ∷ E) (and_right (leb s e) _ h)

start-from : (p : ℕ) (E : List ℕ) (i : ℕ) → start_from p 0 E i ≡ start_of E i
unfolding start_of
start-from p E zero = refl
start-from p E (suc i) = refl

pub held-of : {K E P : List ℕ} {z : SizesHeld} → Cut K E P z → ends_rise 0 E z.pool ≡ true → Held K E P z
held-of {K} {E} {P} {z} C h =
    let l : Limits (sizes_in z) = C.limits in
    let p = z.pool in
    record {
      formed = record {
        kinds = omega (arith, C.kinds);
        even = C.ends ∙ sym C.kinds;
        pool = omega (arith, C.pool);
        small = omega (arith, C.pool, l.pool);
        few = omega (
          arith,
          C.kinds,
          l.terms,
          l.expressions,
          l.facts,
          l.actions,
          l.functions,
          l.primitives,
          l.rows,
          l.normalisers,
          l.rules,
          l.proofs,
        );
        top = subst (λ (n : ℕ). start_of E n ≡ p) C.ends (sym (start-from p E (length E)) ∙ rise-top p 0 E h);
        rises = λ i q. subst (λ (s : ℕ). s ≤ get_or E i 0) (start-from p E i) (rise-start p 0 E h i (omega (arith, C.ends)));
        below = λ i q. rise-below p 0 E h i (omega (arith, C.ends));
      };
      limits = l;
    }

-- the tests in their order
first-append : (xs ys : List (Unit {0} → Option Refusal)) → first_refusal (xs ++ ys) ≡ or_rest (first_refusal xs) (first_refusal ys)
first-append [] ys = refl
first-append (x ∷ xs) ys = go (x tt) (first-append xs ys)
  where
    go : (o : Option Refusal) → first_refusal (xs ++ ys) ≡ or_rest (first_refusal xs) (first_refusal ys) → or_rest o (first_refusal (xs ++ ys)) ≡ or_rest (or_rest o (first_refusal xs)) (first_refusal ys)
    go none h = h
    go (some r) h = refl

module _ (E : List ℕ) (z : Sizes) (t : Tables) (l : Lent) where
  abbrev host : ℕ → Refusal
  host n = record { number = n; fields = [] }

  pub refuses-5 : ends_rise 0 E z.pool ≡ false → some (host 5) ≡ cell_refusal E z t l
  unfolding refused_if cell_refusal
  refuses-5 h = rw h

  -- those behind the writer's
  abbrev lent_tests : List (Unit {0} → Option Refusal)
  lent_tests = (λ _. refused_if (no_room z (map read_term t.terms) l) 10) ∷ (λ _. refused_if (wrong_slots l) 12) ∷ []

  behind-5 : ends_rise 0 E z.pool ≡ true → cell_refusal E z t l ≡ or_rest (first_refusal (writer_tests z t)) (first_refusal lent_tests)
  unfolding refused_if cell_refusal
  behind-5 h = rw h (first-append (writer_tests z t) lent_tests)

  module _ (h : ends_rise 0 E z.pool ≡ true) where
    pub refuses-writer : (r : Refusal) → first_refusal (writer_tests z t) ≡ some r → some r ≡ cell_refusal E z t l
    refuses-writer r e = sym (behind-5 h ∙ ap (λ (o : Option Refusal). or_rest o (first_refusal lent_tests)) e)

    module _ (e : first_refusal (writer_tests z t) ≡ none) where
      pub refuses-10 : no_room z (map read_term t.terms) l ≡ true → some (host 10) ≡ cell_refusal E z t l
      unfolding refused_if cell_refusal
      refuses-10 n = rw (behind-5 h, e, n)

      pub refuses-12 : no_room z (map read_term t.terms) l ≡ false → wrong_slots l ≡ true → some (host 12) ≡ cell_refusal E z t l
      unfolding refused_if cell_refusal
      refuses-12 n w = rw (behind-5 h, e, n, w)

      pub admits : no_room z (map read_term t.terms) l ≡ false → wrong_slots l ≡ false → none ≡ cell_refusal E z t l
      unfolding refused_if cell_refusal
      admits n w = rw (behind-5 h, e, n, w)

-- the words that terms take
fits-total : (cs : List Cell) → ((k : ℕ) → k < length cs → term_fits (get_or cs k no_cell) ≡ true) → widths (map read_term cs) ≡ total cs
unfolding total
fits-total [] h = refl
fits-total (c ∷ cs) h =
    let e : length (term_words (read_term c)) ≡ length c.words = ap (λ (d : Cell). length d.words) (sym (term-cell c (h 0 (omega arith)))) in
    ap₂ ◌+◌ e (fits-total cs (λ k l. h (suc k) (omega arith)))

module _ {A : Type 0} (f : ℕ → A) where
  pub take-tabulate : (n k : ℕ) → k ≤ n → take k (tabulate n f) ≡ tabulate k f
  unfolding tabulate
  take-tabulate zero k h = let e : 0 ≡ k = omega arith in take_all k [] (omega arith) ∙ ap (λ (i : ℕ). tabulate i f) e
  take-tabulate (suc n) k h = go (dec_lt n k) (take-tabulate n k)
    where
      go : Dec (n < k) → (k ≤ n → take k (tabulate n f) ≡ tabulate k f) → take k (tabulate n f ++ (f n ∷ [])) ≡ tabulate k f
      go (yes l) r =
          let e : suc n ≡ k = omega arith in
          take_all k (tabulate (suc n) f) (omega (arith, length-tabulate (suc n) f)) ∙ ap (λ (i : ℕ). tabulate i f) e
      go (no l) r = take-append-le k (tabulate n f) (f n ∷ []) (omega (arith, length-tabulate n f)) ∙ r (omega arith)

pub terms-are : (K E P : List ℕ) (z : SizesHeld) → (tables_for K E P z).terms ≡ cells_of K E P z.terms
unfolding cells_of
terms-are K E P z = take-tabulate (cell_at K E P) (cell_count (sizes_in z)) z.terms (omega arith)

module _ {K E P : List ℕ} {z : SizesHeld} (H : Held K E P z) (l : Lent) where
  abbrev tables : Tables
  tables = tables_for K E P z

  terms-fit : first_refusal (writer_tests (sizes_in z) tables) ≡ none → (k : ℕ) → k < length tables.terms → term_fits (get_or tables.terms k no_cell) ≡ true
  terms-fit e k h = table-passes tables 6 (fit_tests tables) 0 (omega arith) refl k h (pass (writer_tests (sizes_in z) tables) e _ (Memᴰ.head refl))

  pub room-is : first_refusal (writer_tests (sizes_in z) tables) ≡ none → no_room (sizes_in z) (map read_term tables.terms) l ≡ room_lacks (sizes_in z) (start_of E z.terms) l
  room-is e =
      let w : widths (map read_term tables.terms) ≡ start_of E z.terms = fits-total tables.terms (terms-fit e) ∙ ap total (terms-are K E P z) ∙ total-at H.formed z.terms (omega arith) in
      ap (λ (n : ℕ). room_lacks (sizes_in z) n l) w

-- a job's words
pub or_no : (a b : Bool) → (a || b) ≡ false → (a ≡ false) × (b ≡ false)
or_no a b h = (or_left a b h, or_right a b h)

pub limits_of : (z : Sizes) → too_large z ≡ false → Limits z
limits_of z h =
    let a1 = or_no _ (ltb 131072 z.pool) h in
    let a2 = or_no _ (ltb 4096 z.proofs) a1.0 in
    let a3 = or_no _ (ltb 4096 z.rules) a2.0 in
    let a4 = or_no _ (ltb 4096 z.normalisers) a3.0 in
    let a5 = or_no _ (ltb 4096 z.rows) a4.0 in
    let a6 = or_no _ (ltb 4096 z.primitives) a5.0 in
    let a7 = or_no _ (ltb 4096 z.functions) a6.0 in
    let a8 = or_no _ (ltb z.actions z.globals) a7.0 in
    let a9 = or_no _ (ltb 256 z.globals) a8.0 in
    let a10 = or_no _ (ltb 4096 z.actions) a9.0 in
    let a11 = or_no _ (ltb 4096 z.facts) a10.0 in
    let a12 = or_no _ (ltb 4096 z.expressions) a11.0 in
    record {
      terms = ltb-false 16384 z.terms a12.0;
      expressions = ltb-false 4096 z.expressions a12.1;
      facts = ltb-false 4096 z.facts a11.1;
      actions = ltb-false 4096 z.actions a10.1;
      globals = ltb-false 256 z.globals a9.1;
      first = ltb-false z.actions z.globals a8.1;
      functions = ltb-false 4096 z.functions a7.1;
      primitives = ltb-false 4096 z.primitives a6.1;
      rows = ltb-false 4096 z.rows a5.1;
      normalisers = ltb-false 4096 z.normalisers a4.1;
      rules = ltb-false 4096 z.rules a3.1;
      proofs = ltb-false 4096 z.proofs a2.1;
      pool = ltb-false 131072 z.pool a1.1;
    }

module _ (ws : List ℕ) (asked mode : ℕ) (l : Lent) where
  pub refuses-1 : wrong_length ws ≡ true → some (record { number = 1; fields = [] }) ≡ load_refusal ws asked mode l
  unfolding load_refusal refused_if
  refuses-1 h = rw h

  module _ (w : wrong_length ws ≡ false) where
    pub refuses-2 : too_large (sizes_of ws) ≡ true → some (record { number = 2; fields = [] }) ≡ load_refusal ws asked mode l
    unfolding load_refusal refused_if
    refuses-2 h = rw (w, h)

    pub refuses-3 : too_large (sizes_of ws) ≡ false → leb (sizes_of ws).proofs asked ≡ true → some (record { number = 3; fields = [] }) ≡ load_refusal ws asked mode l
    unfolding load_refusal refused_if
    refuses-3 h p = rw (w, h, p)

    pub refuses-11 : too_large (sizes_of ws) ≡ false → leb (sizes_of ws).proofs asked ≡ false → unknown_mode mode ≡ true → some (record { number = 11; fields = [] }) ≡ load_refusal ws asked mode l
    unfolding load_refusal refused_if
    refuses-11 h p m = rw (w, h, p, m)

    pub behind-11 : too_large (sizes_of ws) ≡ false → leb (sizes_of ws).proofs asked ≡ false → unknown_mode mode ≡ false → cell_refusal (ends_of ws) (sizes_of ws) (tables_of ws) l ≡ load_refusal ws asked mode l
    unfolding load_refusal refused_if cell_refusal
    behind-11 h p m = rw (w, h, p, m)

pub sizes-words : (ws : List ℕ) → wrong_length ws ≡ false → 12 ≤ length ws
sizes-words ws w = ltb-false (length ws) 12 (or_no (ltb (length ws) 12) _ w).0

-- the three arrays of a job's words, as the code cuts them
module _ (ws : List ℕ) (n : ℕ) where
  abbrev kinds_cut : List ℕ
  kinds_cut = take (12 + n - 12) (drop 12 ws)

  abbrev ends_cut : List ℕ
  ends_cut = take (12 + n + n - (12 + n)) (drop (12 + n) ws)

  abbrev pool_cut : List ℕ
  pool_cut = take (length ws - (12 + n + n)) (drop (12 + n + n) ws)

  module _ (e : n ≡ cell_count (sizes_of ws)) where
    pub kinds-cut : kinds_cut ≡ kinds_of ws
    unfolding kinds_of
    kinds-cut = let q : 12 + n - 12 ≡ n = omega arith in ap (λ (k : ℕ). take k (drop 12 ws)) (q ∙ e)

    pub ends-cut : ends_cut ≡ ends_of ws
    unfolding ends_of
    ends-cut = let q : 12 + n + n - (12 + n) ≡ n = omega arith in ap (λ (k : ℕ). take k (drop (12 + n) ws)) q ∙ ap (λ (k : ℕ). take k (drop (12 + k) ws)) e

    pub pool-cut : pool_cut ≡ pool_of ws
    unfolding pool_of
    pool-cut = to_end (12 + n + n) ws ∙ ap (λ (k : ℕ). drop (12 + k + k) ws) e

module _ (ws : List ℕ) (z : SizesHeld) (n : ℕ) (s : sizes_in z ≡ sizes_of ws) (e : n ≡ cell_count (sizes_in z)) (w : wrong_length ws ≡ false) where
  count : n ≡ cell_count (sizes_of ws)
  count = e ∙ ap cell_count s

  words : length ws ≡ 12 + 2 * cell_count (sizes_in z) + z.pool
  words = subst (λ (y : Sizes). length ws ≡ 12 + 2 * cell_count y + y.pool) (sym s) (eq_of (length ws) _ (not-false _ (or_no (ltb (length ws) 12) _ w).1))

  pub inside : 12 + n + n ≤ length ws
  inside = omega (arith, words, e)

  pub cut_of : Limits (sizes_in z) → Cut (kinds_cut ws n) (ends_cut ws n) (pool_cut ws n) z
  cut_of l = record {
    kinds = simp (length-take, length-drop) (omega (arith, inside, e));
    ends = simp (length-take, length-drop) (omega (arith, inside, e));
    pool = simp (length-take, length-drop) (omega (arith, words, e));
    limits = l;
  }

  pub cut-terms : cells_of (kinds_cut ws n) (ends_cut ws n) (pool_cut ws n) z.terms ≡ cells_of (kinds_of ws) (ends_of ws) (pool_of ws) (sizes_of ws).terms
  cut-terms = λ i. cells_of (kinds-cut ws n count i) (ends-cut ws n count i) (pool-cut ws n count i) (s i).terms

  pub cut-refusal : (l : Lent) → cell_refusal (ends_cut ws n) (sizes_in z) (tables_for (kinds_cut ws n) (ends_cut ws n) (pool_cut ws n) z) l ≡ cell_refusal (ends_of ws) (sizes_of ws) (tables_of ws) l
  unfolding tables_of
  cut-refusal l = λ i. cell_refusal (ends-cut ws n count i) (s i) (tables_in (s i) (cells_of (kinds-cut ws n count i) (ends-cut ws n count i) (pool-cut ws n count i) (cell_count (s i)))) l

-- the sizes of the definitions, as loading holds them
abbrev pub held_of : Sizes → SizesHeld
held_of z = record {
  terms = z.terms;
  expressions = z.expressions;
  facts = z.facts;
  actions = z.actions;
  globals = z.globals;
  functions = z.functions;
  primitives = z.primitives;
  rows = z.rows;
  normalisers = z.normalisers;
  rules = z.rules;
  proofs = z.proofs;
  pool = z.pool;
}

-- a job that loads: its arrays hold its cells
pub refused-no : (b : Bool) (n : ℕ) → refused_if b n ≡ none → b ≡ false
unfolding refused_if
refused-no false n h = refl
refused-no true n h = absurd (none-ne-some _ (sym h))

module _ (ws : List ℕ) (asked mode : ℕ) (l : Lent) (a : load_refusal ws asked mode l ≡ none) where
  abbrev tests : List (Unit {0} → Option Refusal)
  tests = load_tests ws (sizes_of ws) (tables_of ws) asked mode l

  pub test-passes : (t : Unit {0} → Option Refusal) → Memᴰ t tests → t tt ≡ none
  unfolding load_refusal
  test-passes t m = pass tests a t m

  pub right-length : wrong_length ws ≡ false
  right-length = refused-no _ 1 (test-passes _ (Memᴰ.head refl))

  pub loads-held : Held (kinds_of ws) (ends_of ws) (pool_of ws) (held_of (sizes_of ws))
  loads-held =
      let z = held_of (sizes_of ws) in
      let n = cell_count (sizes_of ws) in
      let cut = cut_of ws z n refl refl right-length (limits_of (sizes_of ws) (refused-no _ 2 (test-passes _ (Memᴰ.tail (Memᴰ.head refl))))) in
      held-of
      (subst (λ (x : List ℕ × List ℕ × List ℕ). Cut x.0 x.1 x.2 z) (λ i. (kinds-cut ws n refl i, ends-cut ws n refl i, pool-cut ws n refl i)) cut)
      (not-false _ (refused-no _ 5 (test-passes _ (Memᴰ.tail (Memᴰ.tail (Memᴰ.tail (Memᴰ.tail (Memᴰ.head refl))))))))
