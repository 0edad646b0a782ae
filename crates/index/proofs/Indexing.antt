-- Laws of an index of cells: what a look-up shows, and what listing one cell more keeps.
use Rattle.std.specs.Prelude as prelude
use Rattle.std.specs.Prelude.{Some, None}
use Rattle.std.proofs.Common.{◌≡◌, ℕ, zero, suc, ◌+◌, ◌-◌, ◌%◌, ◌^◌, ◌<◌, ◌≤◌, Bool, true, false, ◌⊎◌, List, [], ◌∷◌, ◌++◌, length, get_or, set, sym, refl, ap, ◌∙◌, subst, inl, inr, mod-lt, arith, length-append, length-set}
use lib.ListN.{get_or-append}
use lib.Seq.{get_or-append_seam}
use Rattle.model.specs.Cell.{Cell, no_cell, same_cell, cells_of}
use Rattle.model.proofs.Valid.{cell_same}
use Rattle.cells.specs.Table.{find_cell, Once, Table, table_of, has_room, append_if, append_cell, add_found, add_cell, Ran, Result}
use Rattle.cells.proofs.Laws.{found_at, once-found, cells-length}
use Rattle.index.specs.Mixing.{slot_of}
use Rattle.index.specs.Slots.{onward, Free, round_from, comparisons}
use Rattle.index.specs.Listing.{home_of, Lists, hits, Looked, table_fill, table_added, Ready, Kept, Built, no_cells, one_more}
use Rattle.index.specs.declared.Fill.{Fill}
use Rattle.index.specs.declared.Added.{Added}
use Rattle.index.specs.declared.Probe.{Probe}
use Rattle.index.proofs.Arithmetic.{slot-within}
use Rattle.index.proofs.Probing.{Passed, passed-more, hit-count, empty-count, empty-free, none-hits, passed-all, listed-none, listed-named, listed_more}

pub no-none : {r : prelude.Option ℕ} {i : ℕ} → r ≡ Some i → r ≡ None → ⊥
no-none {r} {i} q e = let d : ◌≡◌ {A = prelude.Option ℕ} (Some i) None = sym q ∙ e in let w : ◌≡◌ {A = ℕ} 0 1 = cc in absurd (omega arith)

-- a look-up of c that has taken k steps from c's own slot s
module _ (m : ℕ) (I : List ℕ) (cs : List Cell) (c : Cell) (s : ℕ) (own : s ≡ slot_of m (length I) c) (some : 0 < length I) where
  pub start-within : s < length I
  start-within = rw own (slot-within m (length I) c some)

  module _ {k : ℕ} (p : Passed I (hits cs c) s k) (more : k < length I) (lists : Lists m I cs) (a x : ℕ) (there : a ≡ (s + k) % length I) (entry : x ≡ get_or I a 0) where
    pub slot-in : a < length I
    slot-in = rw there (mod-lt (s + k) some)

    pub entry-low : x ≤ length cs
    entry-low = rw entry (lists.only a slot-in)

    is : onward I s k ≡ x
    is = ap (λ (y : ℕ). get_or I y 0) (sym there) ∙ sym entry

    absent : x ≡ 0 → (i : ℕ) → find_cell cs c ≡ Some i → ⊥
    absent e i q =
        let g = found_at cs c i q in
        none-hits I (hits cs c) s start-within p more lists (is ∙ e) i g.0 (ap (slot_of m (length I)) g.1 ∙ sym own) (ap (λ (y : Cell). same_cell y c) g.1 ∙ cell_same c)

    pub looked-none : x ≡ 0 → Looked m I cs c (record { found = None; slot = a; compared = k })
    looked-none e = record {
      found = go (find_cell cs c) refl;
      compared = empty-count I (hits cs c) s start-within p more (is ∙ e) ∙ ap (λ (y : ℕ). comparisons (hits cs c) (round_from I y)) own;
      free = λ _. rw (there, ← own) (empty-free I (hits cs c) s start-within p more (is ∙ e));
    }
      where
        go : (f : prelude.Option ℕ) → find_cell cs c ≡ f → None ≡ find_cell cs c
        go (Some i) q = absurd (absent e i q)
        go None q = sym q

    pub looked-more : (x ≡ 0 → ⊥) → hits cs c (x - 1) ≡ false → Passed I (hits cs c) s (k + 1)
    looked-more d e = passed-more I (hits cs c) s start-within p more (λ z. d (sym is ∙ z)) (ap (λ (y : ℕ). hits cs c (y - 1)) is ∙ e)

    pub looked-hit : Once cs → (x ≡ 0 → ⊥) → hits cs c (x - 1) ≡ true → Looked m I cs c (record { found = Some (x - 1); slot = a; compared = k + 1 })
    looked-hit once d e = record {
      found = let l : x - 1 < length cs = omega (arith, entry-low, pos) in sym (once-found cs c (x - 1) once l e);
      compared = hit-count I (hits cs c) s start-within p more (λ z. d (sym is ∙ z)) (ap (λ (y : ℕ). hits cs c (y - 1)) is ∙ e) ∙ ap (λ (y : ℕ). comparisons (hits cs c) (round_from I y)) own;
      free = λ z. absurd (no-none refl z);
    }
      where
        pos : 0 < x
        pos = omega (arith, d)

  pub looked-all : {k : ℕ} → Passed I (hits cs c) s k → length I ≤ k → Lists m I cs → length cs < length I → ⊥
  looked-all p h lists few = passed-all I (hits cs c) s start-within p h (rw lists.full few)

-- one cell more, listed at the first empty slot from its own
pub lists-more : (x : ℕ) (I : List ℕ) (cs : List Cell) (c : Cell) (a : ℕ) → Lists x I cs → Free I (slot_of x (length I) c) a → Lists x (set I a (length cs + 1)) (cs ++ (c ∷ []))
lists-more x I cs c a p q =
    let n = length I in
    let e : home_of x n (cs ++ (c ∷ [])) (length cs) ≡ slot_of x n c = ap (slot_of x n) (get_or-append_seam cs c [] no_cell) in
    let f : (i : ℕ) → i < length cs → home_of x n cs i ≡ home_of x n (cs ++ (c ∷ [])) i = λ i h. ap (slot_of x n) (sym (get_or-append cs (c ∷ []) no_cell i h)) in
    let l : length (cs ++ (c ∷ [])) ≡ length cs + 1 = length-append cs (c ∷ []) in
    rw (l, length-set I a (length cs + 1)) (listed_more (listed-named f p) a (rw e q))

pub built-lists : {x : ℕ} {cs : List Cell} {I : List ℕ} {t : ℕ} → Built x cs I t → Lists x I cs
built-lists (no_cells n) = listed-none n _
built-lists (one_more {x} {cs} {I} {t} {a} c b q) = lists-more x I cs c a (built-lists b) q

pub free-within : {I : List ℕ} {s a : ℕ} → Free I s a → a < length I
free-within {I} {s} {a} q = rw q.there (mod-lt (s + q.steps) (omega (arith, q.few)))

-- the number that a look-up found
pub number-found : (r : prelude.Option ℕ) → (r ≡ None → ⊥) → (j : ℕ) × (r ≡ Some j)
number-found None d = absurd (d refl)
number-found (Some j) d = (j, refl)

-- adding a cell: it is there, or there is no room, or it is appended
abbrev AddCases : Cell → Table → Result → Type 0
AddCases c t r = (r.cells ≡ t.cells) ⊎ ((find_cell t.cells c ≡ None) × (r.cells ≡ t.cells ++ (c ∷ [])))

add-cases : (c : Cell) (t : Table) → AddCases c t (add_cell c t)
unfolding add_cell append_cell
add-cases c t = by-found (find_cell t.cells c) refl
  where
    by-room : find_cell t.cells c ≡ None → (b : Bool) → AddCases c t (append_if b c t)
    by-room e true = inr (e, refl)
    by-room e false = inl refl

    by-found : (f : prelude.Option ℕ) → find_cell t.cells c ≡ f → AddCases c t (add_found f c t)
    by-found (Some i) e = inl refl
    by-found None e = by-room e (has_room t c)

module _ {K E P I : List ℕ} {f : Fill} (r : Ready K E P I f) (c : Cell) (p : Probe) (look : Looked f.multiplier I (cells_of K E P f.cells) c p)
    {K' E' P' : List ℕ} {a : Added} (ran : Ran K E P (table_fill f) K' E' P' (table_added a) (add_cell c (table_of K E P (table_fill f)))) (same : a.fill.multiplier ≡ f.multiplier) where
  cs : List Cell
  cs = cells_of K E P f.cells

  cs' : List Cell
  cs' = cells_of K' E' P' a.fill.cells

  cases : (cs' ≡ cs) ⊎ ((find_cell cs c ≡ None) × (cs' ≡ cs ++ (c ∷ [])))
  unfolding cs cs'
  cases = go (add-cases c (table_of K E P (table_fill f)))
    where
      go : AddCases c (table_of K E P (table_fill f)) (add_cell c (table_of K E P (table_fill f))) → (cells_of K' E' P' a.fill.cells ≡ cells_of K E P f.cells) ⊎ ((find_cell (cells_of K E P f.cells) c ≡ None) × (cells_of K' E' P' a.fill.cells ≡ cells_of K E P f.cells ++ (c ∷ [])))
      go (inl e) = inl (ran.cells ∙ e)
      go (inr (n, e)) = inr (n, ran.cells ∙ e)

  -- no cell is new
  pub kept-old : a.fill.cells ≡ f.cells → Kept K E P I f K' E' P' I a (add_cell c (table_of K E P (table_fill f)))
  unfolding cs cs'
  kept-old e = record { ran = ran; lists = rw same (go cases); len_i = refl }
    where
      go : (cs' ≡ cs) ⊎ ((find_cell cs c ≡ None) × (cs' ≡ cs ++ (c ∷ []))) → Lists f.multiplier I cs'
      go (inl q) = rw q r.lists
      go (inr (n, q)) = absurd (omega (arith, ap length q, length-append cs (c ∷ []), cells-length K E P f.cells, cells-length K' E' P' a.fill.cells))

  -- one is
  module _ (e : a.fill.cells ≡ f.cells → ⊥) where
    new : (find_cell cs c ≡ None) × (cs' ≡ cs ++ (c ∷ []))
    unfolding cs cs'
    new = go cases
      where
        go : (cs' ≡ cs) ⊎ ((find_cell cs c ≡ None) × (cs' ≡ cs ++ (c ∷ []))) → (find_cell cs c ≡ None) × (cs' ≡ cs ++ (c ∷ []))
        go (inl q) = absurd (e (sym (cells-length K' E' P' a.fill.cells) ∙ ap length q ∙ cells-length K E P f.cells))
        go (inr q) = q

    free : Free I (slot_of f.multiplier (length I) c) p.slot
    unfolding cs
    free = look.free (look.found ∙ new.0)

    pub slot-free : p.slot < length I
    slot-free = free-within free

    pub number_fits : f.cells + 1 < 2 ^ 32
    unfolding cs cs'
    number_fits = omega (arith, ap length new.1, length-append cs (c ∷ []), cells-length K E P f.cells, cells-length K' E' P' a.fill.cells, ran.formed.kinds, ran.formed.few)

    pub kept_new : {I' : List ℕ} → I' ≡ set I p.slot (f.cells + 1) → Kept K E P I f K' E' P' I' a (add_cell c (table_of K E P (table_fill f)))
    unfolding cs cs'
    kept_new g = record { ran = ran; lists = rw (same, new.1, g) listed; len_i = ap length g ∙ length-set I p.slot (f.cells + 1) }
      where
        listed : Lists f.multiplier (set I p.slot (f.cells + 1)) (cs ++ (c ∷ []))
        listed = rw (cells-length K E P f.cells) at (lists-more f.multiplier I cs c p.slot r.lists free)

-- an answer that is only written anew
pub kept-as : {K E P I : List ℕ} {f : Fill} {K' E' P' I' : List ℕ} {a b : Added} {r : Result} → a ≡ b → Kept K E P I f K' E' P' I' b r → Kept K E P I f K' E' P' I' a r
kept-as {K} {E} {P} {I} {f} {K'} {E'} {P'} {I'} {r = r} e k = subst (λ (x : Added). Kept K E P I f K' E' P' I' x r) (sym e) k
