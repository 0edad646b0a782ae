-- What appending does to the cells of a table, and the contracts of `append` and `add`, case by case.
use Rattle.std.specs.Prelude as prelude
use Rattle.std.specs.Prelude.{Some, None}
use mathlib.Core.Path.{◌≡◌, refl, sym, ap, ap₂, ◌∙◌}
use mathlib.Core.Logic.{◌≢◌, inl, inr}
use mathlib.Core.Bool.{Bool, true, false}
use mathlib.Core.List.{List, [], ◌∷◌, ◌++◌, append_assoc}
use Prim.Native.Nat.{ℕ, zero, suc, ◌+◌, ◌-◌, ◌≤◌, ◌<◌}
use native.Mathlib.Nat.{zero-sub, suc-sub-suc, sub-zero}
use native.Mathlib.Numerals.{add-one}
use native.Mathlib.Omega.{arith}
use lib.ListN.{length, get_or, take, drop, set, length-take, length-drop, length-set, length-append}
use lib.Seq.{paste, take-append-le, take-take, take_at, drop_at, take-length, take-nil, length-take-le, get_or-set_same, get_or-set_other, drop-set-lt}
use borrow.Author.Tests.{lt-ltb, le-ltb, le-leb, lt-leb}
use borrow.Author.Count.{below_more}
use Rattle.model.specs.Cell.{Cell, no_cell, tabulate, start_of, words_at, cell_at, cells_of}
use Rattle.cells.specs.Table.{Formed, find_cell, Once, put, total, table_of, Table, Result, has_room, append_if, append_cell, add_found, add_cell, Ran}
use Rattle.cells.specs.declared.Fill.{Fill}
use Rattle.cells.specs.declared.Added.{Added}
use Rattle.cells.proofs.Laws.{cells-length, words-length, tabulate-ext, tabulate-more, never-found, LastCases, last-cases}

-- a part by its two ends
pub part-ends : (s e : ℕ) (P : List ℕ) → take (e - s) (drop s P) ≡ drop s (take e P)
part-ends zero e P = rw (sub-zero e)
part-ends (suc s) zero P = rw (zero-sub (suc s))
part-ends (suc s) (suc e) [] = take-nil (suc e - suc s)
part-ends (suc s) (suc e) (x ∷ P) = rw (suc-sub-suc e s) (part-ends s e P)

start-set : (E : List ℕ) (n v i : ℕ) → i ≤ n → start_of (set E n v) i ≡ start_of E i
unfolding start_of
start-set E n v zero h = refl
start-set E n v (suc i) h = get_or-set_other E n i v 0 (λ e. omega arith)

start-more : (E : List ℕ) (n : ℕ) → start_of E (n + 1) ≡ get_or E n 0
unfolding start_of
start-more E n = rw add-one

-- what `put` leaves before it, writes, and leaves after it; a copy of all of s is one
pub put-paste : (d : List ℕ) (at : ℕ) (s : List ℕ) → paste d at s (length s) ≡ put d at s
unfolding put
put-paste d at s = rw (take-length s, append_assoc)

module _ (d : List ℕ) (at : ℕ) (s : List ℕ) (h : at + length s ≤ length d) where
  front : length (take at d) ≡ at
  front = length-take-le at d (omega arith)

  pub put-length : length (put d at s) ≡ length d
  unfolding put
  put-length = simp (length-append, length-take, length-drop) (omega arith)

  pub put-before : (a e : ℕ) → e ≤ at → take (e - a) (drop a (put d at s)) ≡ take (e - a) (drop a d)
  unfolding put
  put-before a e l =
      let q : e ≤ length (take at d) = omega (arith, front) in
      rw (part-ends a e (put d at s), part-ends a e d) (ap (drop a) (take-append-le e (take at d) _ q ∙ take-take e at d l))

  pub put-there : (e : ℕ) → e ≡ at + length s → take (e - at) (drop at (put d at s)) ≡ s
  unfolding put
  put-there e q =
      let r : e - at ≡ length s = omega arith in
      rw (r, drop_at (take at d) (s ++ drop (at + length s) d) at front) (take_at s _ (length s) refl)

  pub put-after : drop (at + length s) (put d at s) ≡ drop (at + length s) d
  unfolding put
  put-after =
      let q : length (take at d ++ s) ≡ at + length s = simp length-append (omega (arith, front)) in
      rw (← append_assoc) (drop_at (take at d ++ s) _ (at + length s) q)

-- the stores of a push, on a formed table with room
module _ {K E P : List ℕ} {f : Fill} (F : Formed K E P f) (k : ℕ) (ws : List ℕ) (free : f.cells < length K) (fits : f.words + length ws ≤ length P) where
  abbrev n : ℕ
  n = f.cells

  abbrev m : ℕ
  m = f.words

  kept : (i : ℕ) → i < n → cell_at (set K n k) (set E n (m + length ws)) (put P m ws) i ≡ cell_at K E P i
  unfolding words_at
  kept i h =
      let o : i ≢ n = λ e. omega arith in
      rw (
        get_or-set_other K n i k 0 o,
        get_or-set_other E n i (m + length ws) 0 o,
        start-set E n (m + length ws) i (omega arith),
        put-before P m ws fits (start_of E i) (get_or E i 0) (F.below i h),
      )

  new : cell_at (set K n k) (set E n (m + length ws)) (put P m ws) n ≡ record { kind = k; words = ws }
  unfolding words_at
  new =
      rw (
        get_or-set_same K n k 0 free,
        get_or-set_same E n (m + length ws) 0 (omega (arith, F.even)),
        start-set E n (m + length ws) n (omega arith),
        F.top,
        put-there P m ws fits (m + length ws) refl,
      )

  pub push-cells : cells_of (set K n k) (set E n (m + length ws)) (put P m ws) (n + 1) ≡ cells_of K E P n ++ (record { kind = k; words = ws } ∷ [])
  unfolding cells_of
  push-cells =
      let K' = set K n k in
      let E' = set E n (m + length ws) in
      let P' = put P m ws in
      tabulate-more n (cell_at K' E' P') ∙ ap₂ (λ (l : List Cell) (x : Cell). l ++ (x ∷ [])) (tabulate-ext n (cell_at K' E' P') (cell_at K E P) kept) new

  last : get_or (set E n (m + length ws)) n 0 ≡ m + length ws
  last = get_or-set_same E n (m + length ws) 0 (omega (arith, F.even))

  pub push-formed : Formed (set K n k) (set E n (m + length ws)) (put P m ws) (record { cells = n + 1; words = m + length ws })
  push-formed = record {
    kinds = simp length-set (omega arith);
    even = simp length-set F.even;
    pool = rw (put-length P m ws fits) fits;
    small = rw (put-length P m ws fits) F.small;
    few = simp length-set F.few;
    top = start-more (set E n (m + length ws)) n ∙ last;
    rises = below_more (λ (i : ℕ). start_of (set E n (m + length ws)) i ≤ get_or (set E n (m + length ws)) i 0) n
        (λ i h. rw (start-set E n (m + length ws) i (omega arith), get_or-set_other E n i (m + length ws) 0 (λ e. omega arith)) (F.rises i h))
        (rw (start-set E n (m + length ws) n (omega arith), last, F.top) (omega arith));
    below = below_more (λ (i : ℕ). get_or (set E n (m + length ws)) i 0 ≤ m + length ws) n
        (λ i h. rw (get_or-set_other E n i (m + length ws) 0 (λ e. omega arith)) (omega (arith, F.below i h)))
        (rw last (omega arith));
  }

-- how many words the cells have
total-snoc : (cs : List Cell) (c : Cell) → total (cs ++ (c ∷ [])) ≡ total cs + length c.words
unfolding total
total-snoc [] c = omega arith
total-snoc (x ∷ cs) c = omega (arith, total-snoc cs c)

module _ {K E P : List ℕ} {f : Fill} (F : Formed K E P f) where
  pub total-at : (k : ℕ) → k ≤ f.cells → total (cells_of K E P k) ≡ start_of E k
  unfolding cells_of tabulate total start_of
  total-at zero h = refl
  total-at (suc k) h =
      let r : start_of E k ≤ get_or E k 0 = F.rises k h in
      let w : get_or E k 0 ≤ length P = omega (arith, F.below k h) in
      total-snoc (tabulate k (cell_at K E P)) (cell_at K E P k) ∙ omega (arith, total-at k (omega arith), words-length E P k r w)

  pub held-total : total (cells_of K E P f.cells) ≡ f.words
  held-total = total-at f.cells (omega arith) ∙ F.top

-- the contracts of `append` and `add`, case by case
module _ {K E P : List ℕ} {f : Fill} (F : Formed K E P f) where
  -- nothing done
  pub ran-none : {a : Added} {x : Result} → a.fill ≡ f → a.number ≡ x.number → x.cells ≡ cells_of K E P f.cells → Ran K E P f K E P a x
  ran-none {a} {x} e n h = record {
    number = n;
    formed = rw e F;
    cells = rw e (sym h);
    len_k = refl;
    len_e = refl;
    len_p = refl;
    more_cells = rw e (omega arith);
    more_words = rw e (omega arith);
    kinds = refl;
    ends = refl;
    pool = refl;
  }

  module _ (c : Cell) where
    pub no_cell_lem : length K ≤ f.cells → Ran K E P f K E P (record { number = None; fill = f }) (append_cell c (table_of K E P f))
    unfolding append_cell
    no_cell_lem h = let e : has_room (table_of K E P f) c ≡ false = rw (cells-length K E P f.cells, le-ltb f.cells (length K) h) in rw (e, append_cell) (ran-none refl refl refl)

    pub no_words : f.cells < length K → length P < f.words + length c.words → Ran K E P f K E P (record { number = None; fill = f }) (append_cell c (table_of K E P f))
    unfolding append_cell
    no_words h l =
        let e : has_room (table_of K E P f) c ≡ false = rw (cells-length K E P f.cells, held-total F, lt-ltb f.cells (length K) h, lt-leb (f.words + length c.words) (length P) l) in
        rw (e, append_cell) (ran-none refl refl refl)

    pub appended : f.cells < length K → f.words + length c.words ≤ length P
        → Ran K E P f (set K f.cells c.kind) (set E f.cells (f.words + length c.words)) (put P f.words c.words)
        (record { number = Some f.cells; fill = record { cells = f.cells + 1; words = f.words + length c.words } })
        (append_cell c (table_of K E P f))
    unfolding append_cell
    appended h l =
        let e : has_room (table_of K E P f) c ≡ true = rw (cells-length K E P f.cells, held-total F, lt-ltb f.cells (length K) h, le-leb (f.words + length c.words) (length P) l) in
        rw (e, append_cell) (record {
          number = ap Some (sym (cells-length K E P f.cells));
          formed = push-formed F c.kind c.words h l;
          cells = push-cells F c.kind c.words h l;
          len_k = length-set K f.cells c.kind;
          len_e = length-set E f.cells (f.words + length c.words);
          len_p = put-length P f.words c.words l;
          more_cells = omega arith;
          more_words = omega arith;
          kinds = drop-set-lt (f.cells + 1) K f.cells c.kind (omega arith);
          ends = drop-set-lt (f.cells + 1) E f.cells (f.words + length c.words) (omega arith);
          pool = put-after P f.words c.words l;
        })

    pub add-old : (i : ℕ) → find_cell (cells_of K E P f.cells) c ≡ Some i → Ran K E P f K E P (record { number = Some i; fill = f }) (add_cell c (table_of K E P f))
    unfolding add_cell
    add-old i e = rw (e, add_cell) (ran-none refl refl refl)

    pub add-new : {K' E' P' : List ℕ} {a : Added} → find_cell (cells_of K E P f.cells) c ≡ None
        → Ran K E P f K' E' P' a (append_cell c (table_of K E P f)) → Ran K E P f K' E' P' a (add_cell c (table_of K E P f))
    unfolding add_cell
    add-new e p = rw (e, add_cell) p

-- no two cells are equal after an addition
pub once-append : (cs : List Cell) (c : Cell) → find_cell cs c ≡ None → Once cs → Once (cs ++ (c ∷ []))
once-append cs c e o = record { one = λ i j h k q. go i j (last-cases cs c i h) (last-cases cs c j k) q }
  where
    fresh : (i : ℕ) → i < length cs → get_or cs i no_cell ≡ c → ⊥
    fresh i h q = never-found cs c i e h q

    go : (i j : ℕ) → LastCases cs c i → LastCases cs c j → get_or (cs ++ (c ∷ [])) i no_cell ≡ get_or (cs ++ (c ∷ [])) j no_cell → i ≡ j
    go i j (inl (h, a)) (inl (k, b)) q = o.one i j h k (sym a ∙ q ∙ b)
    go i j (inl (h, a)) (inr (k, b)) q = absurd (fresh i h (sym a ∙ q ∙ b))
    go i j (inr (h, a)) (inl (k, b)) q = absurd (fresh j k (sym b ∙ sym q ∙ a))
    go i j (inr (h, a)) (inr (k, b)) q = h ∙ sym k

pub add_once : (c : Cell) (t : Table) → Once t.cells → Once (add_cell c t).cells
unfolding add_cell append_cell
add_once c t o = go (find_cell t.cells c) refl
  where
    by-room : (b : Bool) → find_cell t.cells c ≡ None → Once (append_if b c t).cells
    by-room true e = once-append t.cells c e o
    by-room false e = o

    go : (x : prelude.Option ℕ) → find_cell t.cells c ≡ x → Once (add_found x c t).cells
    go (Some i) e = o
    go None e = by-room (has_room t c) e
