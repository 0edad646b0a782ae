-- Laws of listing the cells of a table one by one.
use Rattle.std.proofs.Common.{◌≡◌, None, ℕ, ◌+◌, ◌-◌, ◌*◌, ◌^◌, ◌<◌, ◌≤◌, List, [], length, get_or, replicate, sym, refl, ap, ◌∙◌, subst, not-suc-le-zero, arith}
use Rattle.model.specs.Cell.{Cell, no_cell, tabulate, cell_at, cells_of}
use Rattle.cells.specs.Table.{Formed, Once}
use Rattle.cells.specs.declared.Fill.{Fill}
use Rattle.model.proofs.Valid.{length-tabulate}
use Rattle.cells.proofs.Laws.{get_d_tabulate, cell-words, tabulate-more}
use Rattle.cells.proofs.Appending.{once-append}
use Rattle.index.specs.Mixing.{slot_of}
use Rattle.index.specs.Listing.{Lists, hits, Looked, Built, no_cells, one_more, Enlisted, Filled}
use Rattle.index.specs.declared.Probe.{Probe}
use Rattle.index.proofs.Probing.{comparisons-few}
use Rattle.index.proofs.Indexing.{built-lists, number-found}

tabulate-none : (f : ℕ → Cell) → tabulate 0 f ≡ []
unfolding tabulate
tabulate-none f = refl

-- an entry of a tabulated list is that of a longer one
pub tabulate-fewer : (f : ℕ → Cell) (m n i : ℕ) → m ≤ n → i < m → get_or (tabulate m f) i no_cell ≡ get_or (tabulate n f) i no_cell
tabulate-fewer f m n i h l = get_d_tabulate m f i no_cell l ∙ sym (get_d_tabulate n f i no_cell (omega arith))

-- a kind and words read from the table are a cell of it
pub look-cell : {x : ℕ} {K E P I : List ℕ} {f : Fill} {p : Probe} (i : ℕ) (w : List ℕ) → Formed K E P f → i < f.cells → w ≡ (get_or (cells_of K E P f.cells) i no_cell).words
    → Looked x I (cells_of K E P i) (record { kind = get_or K i 0; words = w }) p → Looked x I (tabulate i (cell_at K E P)) (cell_at K E P i) p
unfolding cells_of
look-cell {x} {K} {E} {P} {I} {f} {p} i w F h e l = subst (λ (v : List ℕ). Looked x I (tabulate i (cell_at K E P)) (record { kind = get_or K i 0; words = v }) p) (e ∙ cell-words F i h) l

-- after the first i cells, with t comparisons
pub record Going (x : ℕ) (f : ℕ → Cell) (m : ℕ) (I : List ℕ) (i t : ℕ) : Type 0 where
  pub low : i ≤ m
  pub once : Once (tabulate i f)
  pub built : Built x (tabulate i f) I t
  pub small : t ≤ i * 2 ^ 32

pub going-none : (x : ℕ) (f : ℕ → Cell) (m n : ℕ) (I : List ℕ) → I ≡ replicate n 0 → Going x f m I 0 0
going-none x f m n I e = record {
  low = omega arith;
  once = record { one = λ i j h k q. absurd (not-suc-le-zero (rw (length-tabulate 0 f) at h)) };
  built = rw (tabulate-none f, e) (no_cells n);
  small = omega arith;
}

module _ {x : ℕ} {f : ℕ → Cell} {I : List ℕ} {m i t : ℕ} (g : Going x f m I i t) where
  pub going-lists : Lists x I (tabulate i f)
  going-lists = built-lists g.built

  -- no look-up compares more cells than there are
  pub few-compared : {c : Cell} {p : Probe} → Looked x I (tabulate i f) c p → p.compared ≤ i
  few-compared {c} {p} l =
      let a = comparisons-few (hits (tabulate i f) c) I (slot_of x (length I) c) in
      omega (arith, l.compared, a, going-lists.full, length-tabulate i f)

  module _ {I' : List ℕ} {p : Probe} (e : Enlisted x f i I I' p) where
    pub going_more : p.found ≡ None → i < m → m < 2 ^ 32 → Going x f m I' (i + 1) (t + p.compared)
    going_more n h b = record {
      low = omega arith;
      once = rw (tabulate-more i f) (once-append (tabulate i f) (f i) (sym e.looked.found ∙ n) g.once);
      built = rw (tabulate-more i f, e.more n, e.looked.compared) (rw (length-tabulate i f) at (one_more (f i) g.built (e.looked.free n)));
      small = omega (arith, g.small, few-compared e.looked);
    }

    pub going-found : (p.found ≡ None → ⊥) → i < m → Filled x f m I' (record { listed = i; compared = t + p.compared })
    going-found y h = record {
      low = omega arith;
      once = g.once;
      lists = rw (e.same y) going-lists;
      before = t;
      built = rw (e.same y) g.built;
      whole = λ q. absurd (omega arith);
      again = λ q. let j = number-found p.found y in (j.0, sym e.looked.found ∙ j.1);
      cost = λ q. rw (e.same y) (ap (λ (n : ℕ). t + n) e.looked.compared);
    }

  pub going_end : m ≤ i → Filled x f m I (record { listed = i; compared = t })
  going_end h = record {
    low = g.low;
    once = g.once;
    lists = going-lists;
    before = t;
    built = g.built;
    whole = λ q. refl;
    again = λ q. absurd (omega arith);
    cost = λ q. absurd (omega arith);
  }
