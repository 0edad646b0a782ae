-- Copying the first cells of a table to the front of lent arrays.
use mathlib.Core.Path.{◌≡◌, refl, sym, ap, subst, ◌∙◌}
use mathlib.Core.Logic.{⊎_elim}
use mathlib.Core.List.{List, map}
use Prim.Native.Nat.{ℕ, zero, suc, ◌+◌, ◌-◌, ◌≤◌, ◌<◌}
use native.Mathlib.Nat.{le_of_suc-le-suc, not-suc-le-zero, le_trans, eq-or-lt_of_le}
use native.Mathlib.Omega.{arith}
use lib.ListN.{length, get_or, take, drop}
use lib.Seq.{drop-drop, get_or-take, take-take, take_at, length-take-le}
use Rattle.model.specs.Cell.{Cell, start_of, words_at, cell_at, cells_of}
use Rattle.model.specs.Term.{cell_of, read_term}
use Rattle.cells.specs.Table.{Formed, Once, put}
use Rattle.cells.specs.declared.Fill.{Fill}
use Rattle.cells.proofs.Laws.{tabulate-ext}
use Rattle.cells.proofs.Appending.{part-ends, put-length, put-after}
use Rattle.termdag.specs.Store.{terms_in, Loadable, Loaded}

-- what is equal from m on is equal from n on
pub drop-later : (m n : ℕ) (a b : List ℕ) → m ≤ n → drop m a ≡ drop m b → drop n a ≡ drop n b
drop-later m n a b h e =
    let d : m + (n - m) ≡ n = omega arith in
    rw (← d) (sym (drop-drop (n - m) m a) ∙ ap (drop (n - m)) e ∙ drop-drop (n - m) m b)

-- the first n cells of a formed table
module _ {K E P : List ℕ} {f : Fill} (F : Formed K E P f) where
  start-rises : (i n : ℕ) → i ≤ n → n ≤ f.cells → start_of E i ≤ start_of E n
  unfolding start_of
  start-rises zero n h l = omega arith
  start-rises (suc i) zero h l = absurd (not-suc-le-zero h)
  start-rises (suc i) (suc n) h l =
      ⊎_elim
      (λ e. rw e (omega arith))
      (λ k. le_trans (start-rises (suc i) n k (omega arith)) (F.rises n l))
      (eq-or-lt_of_le (le_of_suc-le-suc h))

  pub first : (n : ℕ) → n ≤ f.cells → Formed K E P (record { cells = n; words = start_of E n })
  unfolding start_of
  first n h =
      let top : start_of E n ≤ f.words = rw F.top at (start-rises n f.cells h (omega arith)) in
      record {
        kinds = omega arith;
        even = F.even;
        pool = omega arith;
        small = F.small;
        few = F.few;
        top = refl;
        rises = λ i l. F.rises i (omega arith);
        below = λ i l. start-rises (suc i) n l h;
      }

-- the words of the cells to load lie in the pool
pub words_inside : {JK JE JP : List ℕ} {f : Fill} {n : ℕ} {K E P : List ℕ} → Loadable JK JE JP f n K E P → start_of JE n ≤ length JP
words_inside {n = n} L = (first L.formed n L.within).pool

-- a is d with the first m words of s at its front
pub record Front (m : ℕ) (s d a : List ℕ) : Type 0 where
  pub same : take m a ≡ take m s
  pub after : drop m a ≡ drop m d
  pub len : length a ≡ length d

pub front : {m : ℕ} {s d a : List ℕ} → a ≡ put d 0 (take m s) → m ≤ length s → m ≤ length d → Front m s d a
unfolding put
front {m} {s} {d} q h l =
    let n : length (take m s) ≡ m = length-take-le m s h in
    let fits : 0 + length (take m s) ≤ length d = omega arith in
    let e : 0 + length (take m s) ≡ m = omega arith in
    rw q (record {
      same = take_at (take m s) _ m n;
      after = subst (λ (k : ℕ). drop k (put d 0 (take m s)) ≡ drop k d) e (put-after d 0 (take m s) fits);
      len = put-length d 0 (take m s) fits;
    })

module _ {m : ℕ} {s d a : List ℕ} (F : Front m s d a) where
  word_same : (i : ℕ) → i < m → get_or a i 0 ≡ get_or s i 0
  word_same i h = sym (get_or-take m a i 0 h) ∙ ap (λ (l : List ℕ). get_or l i 0) F.same ∙ get_or-take m s i 0 h

  start-same : (i : ℕ) → i ≤ m → start_of a i ≡ start_of s i
  unfolding start_of
  start-same zero h = refl
  start-same (suc i) h = word_same i h

  part_same : (i e : ℕ) → e ≤ m → take (e - i) (drop i a) ≡ take (e - i) (drop i s)
  part_same i e h = rw (part-ends i e a, part-ends i e s) (ap (drop i) (sym (take-take e m a h) ∙ ap (take e) F.same ∙ take-take e m s h))

-- the first n kinds and ends, and the words of those cells
module _ {JK JE JP : List ℕ} {jf : Fill} {n w : ℕ} {K E P K' E' P' : List ℕ} (L : Loadable JK JE JP jf n K E P) (q : w ≡ start_of JE n) (k : Front n JK K K') (e : Front n JE E E') (p : Front w JP P P') where
  below-words : (i : ℕ) → i < n → get_or JE i 0 ≤ w
  below-words i h = rw q ((first L.formed n L.within).below i h)

  cell_same : (i : ℕ) → i < n → cell_at K' E' P' i ≡ cell_at JK JE JP i
  unfolding words_at
  cell_same i h = rw (word_same k i h, word_same e i h, start-same e i (omega arith), part_same p (start_of JE i) (get_or JE i 0) (below-words i h))

  formed : Formed K' E' P' (record { cells = n; words = w })
  formed = record {
    kinds = omega (arith, k.len, L.cells);
    even = e.len ∙ L.even ∙ sym k.len;
    pool = omega (arith, p.len, L.words);
    small = rw p.len L.small;
    few = rw k.len L.few;
    top = start-same e n (omega arith) ∙ sym q;
    rises = λ i h. rw (start-same e i (omega arith), word_same e i h) (L.formed.rises i (omega (arith, L.within)));
    below = λ i h. rw (word_same e i h) (below-words i h);
  }

  pub loaded : (x : ℕ) → Loaded JK JE JP n x K E P K' E' P' (record { cells = n; words = w; multiplier = x })
  unfolding terms_in cells_of
  loaded x =
      let s : cells_of K' E' P' n ≡ cells_of JK JE JP n = tabulate-ext n (cell_at K' E' P') (cell_at JK JE JP) cell_same in
      record {
        cells = refl;
        words = q;
        multiplier = refl;
        stored = record { formed = formed; once = subst Once (sym s) L.once; terms = ap (λ (cs : List Cell). map cell_of (map read_term cs)) s ∙ L.terms ∙ sym s };
        terms = ap (map read_term) s;
        len_k = k.len;
        len_e = e.len;
        len_p = p.len;
        kinds = k.after;
        ends = e.after;
        pool = p.after;
      }
