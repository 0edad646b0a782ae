-- Terms and their cells: a cell read is its term, and adding a term's cell to the table is adding the term to the store.
use Rattle.std.specs.Prelude as prelude
use Rattle.std.specs.Prelude.{Some, None}
use mathlib.Core.Path.{◌≡◌, refl, sym, ap, ap₂, subst, subst⁻¹, ◌∙◌}
use mathlib.Core.Bool.{Bool, true, false, ◌&&◌}
use mathlib.Core.List.{List, [], ◌∷◌, ◌++◌, map, map-append}
use mathlib.Core.Option.{Option, none, some}
use Prim.Native.Nat.{ℕ, zero, suc, ◌+◌, ◌≤◌, ◌<◌}
use native.Mathlib.Nat.{not-suc-le-zero, le_of_suc-le-suc}
use native.Mathlib.Numerals.{add-one}
use native.Mathlib.Omega.{arith}
use lib.Dec.{eqb, ltb, leb}
use lib.ListN.{length, get_or, take, drop, length-map}
use lib.Seq.{take_at}
use Rattle.model.proofs.Tests.{and-true}
use Rattle.model.specs.Cell.{Cell, no_cell, same_cell, cells_of}
use Rattle.model.specs.Term.{Term, lit, var, app, term_kind, term_words, cell_of, read_term, same_term, width, widths, find_term, get_term}
use Rattle.model.specs.Check.{Outcome, ok, refused, refuse, add_node}
use Rattle.model.specs.Evaluate.{children}
use Rattle.model.proofs.Represent.{Distinct}
use Rattle.model.specs.Decode.{read_arguments}
use Rattle.cells.specs.Table.{find_from, find_cell, Once, put, total, Table, table_of, Result, append_if, append_cell, add_found, add_cell}
use Rattle.index.specs.declared.Fill.{Fill}
use Rattle.index.specs.declared.Added.{Added}
use Rattle.index.specs.Listing.{table_fill, Kept, Ready}
use Rattle.cells.proofs.Laws.{cells-length, cell-at}
use Rattle.cells.proofs.Appending.{held-total, add_once}
use Rattle.decode.specs.View.{cell, term_of}
use Rattle.decode.specs.declared.Term as decoded
use Rattle.decode.proofs.Laws.{arguments-none, arguments-some}
use Rattle.termdag.specs.Store.{terms_in, Stored, Indexed, room_of, outcome_by, Adds, Known}

-- one term
read_cell : (t : Term) → read_term (cell_of t) ≡ t
unfolding read_term
read_cell (lit l) = refl
read_cell (var x) = refl
read_cell (app f xs) = refl

same-cell : (a b : Term) → same_cell (cell_of a) (cell_of b) ≡ same_term a b
same-cell (lit a) (lit b) = ap (λ (t : Bool). eqb a.kind b.kind && (eqb a.low b.low && t)) (and-true (eqb a.high b.high))
same-cell (lit a) (var y) = refl
same-cell (lit a) (app g ys) = refl
same-cell (var x) (lit b) = refl
same-cell (var x) (var y) = and-true (eqb x y)
same-cell (var x) (app g ys) = refl
same-cell (app f xs) (lit b) = refl
same-cell (app f xs) (var y) = refl
same-cell (app f xs) (app g ys) = refl

-- lists of terms
read-cells : (s : List Term) → map read_term (map cell_of s) ≡ s
read-cells [] = refl
read-cells (t ∷ s) = ap₂ ◌∷◌ (read_cell t) (read-cells s)

total-cells : (s : List Term) → total (map cell_of s) ≡ widths s
unfolding total
total-cells [] = refl
total-cells (t ∷ s) = ap (λ (n : ℕ). width t + n) (total-cells s)

found_of : Option ℕ → prelude.Option ℕ
found_of none = None
found_of (some i) = Some i

find-cell : (s : List Term) (t : Term) (k : ℕ) → find_from k (map cell_of s) (cell_of t) ≡ found_of (find_term s t k)
unfolding find_from find_term found_of
find-cell [] t k = refl
find-cell (u ∷ s) t k =
    ap (λ (b : Bool). elim b [ true ↦ Some k | false ↦ find_from (k + 1) (map cell_of s) (cell_of t) ]) (same-cell u t) ∙ go (same_term u t) (find-cell s t (suc k))
  where
    go : (b : Bool) → find_from (suc k) (map cell_of s) (cell_of t) ≡ found_of (find_term s t (suc k))
        → elim b [ true ↦ Some k | false ↦ find_from (k + 1) (map cell_of s) (cell_of t) ] ≡ found_of (elim b [ true ↦ some k | false ↦ find_term s t (suc k) ])
    go true h = refl
    go false h = rw (add-one k) h

-- what adding a cell gives, as the outcome of a check
abbrev answer : prelude.Option ℕ → ℕ → List Term → Outcome ℕ
answer None w s = refused (record { number = 53; fields = w ∷ [] }) s
answer (Some n) w s = ok n s

record Same (x : Result) (o : Outcome ℕ) : Type 0 where
  outcome : answer x.number (total x.cells) (map read_term x.cells) ≡ o
  terms : map cell_of (map read_term x.cells) ≡ x.cells

-- a list of terms with room for C cells and W words
module _ (C W : ℕ) (t : Term) (s : List Term) where
  abbrev table : List Cell → Table
  table cs = record { cells = cs; cell_room = C; word_room = W }

  abbrev append_or : Bool → Outcome ℕ
  append_or b = elim b [ true ↦ ok (length s) (s ++ (t ∷ [])) | false ↦ refuse 53 (widths s ∷ []) s ]

  abbrev fits : Bool
  fits = ltb (length s) C && leb (widths s + width t) W

  by-room : (b : Bool) → Same (append_if b (cell_of t) (table (map cell_of s))) (append_or b)
  by-room true =
      let e : map cell_of s ++ (cell_of t ∷ []) ≡ map cell_of (s ++ (t ∷ [])) = sym (map-append cell_of s (t ∷ [])) in
      let r : map read_term (map cell_of s ++ (cell_of t ∷ [])) ≡ s ++ (t ∷ []) = ap (map read_term) e ∙ read-cells (s ++ (t ∷ [])) in
      record { outcome = λ i. ok (length-map s cell_of i) (r i); terms = ap (map cell_of) r ∙ sym e }
  by-room false = record {
    outcome = λ i. refuse 53 (total-cells s i ∷ []) (read-cells s i);
    terms = ap (map cell_of) (read-cells s);
  }

  by-find : (o : Option ℕ) → Same (add_found (found_of o) (cell_of t) (table (map cell_of s))) (elim o [ some i ↦ ok i s | none ↦ append_or fits ])
  unfolding found_of append_cell
  by-find none =
      subst⁻¹ (λ (b : Bool). Same (append_if b (cell_of t) (table (map cell_of s))) (append_or fits))
      (λ i. ltb (length-map s cell_of i) C && leb (total-cells s i + width t) W)
      (by-room fits)
  by-find (some i) = record { outcome = ap (ok i) (read-cells s); terms = ap (map cell_of) (read-cells s) }

  add_term : Same (add_cell (cell_of t) (table (map cell_of s))) (add_node (record { cells = C; words = W }) t s)
  unfolding add_cell add_node
  add_term =
      subst⁻¹ (λ (o : prelude.Option ℕ). Same (add_found o (cell_of t) (table (map cell_of s))) (add_node (record { cells = C; words = W }) t s)) (find-cell s t 0)
      (by-find (find_term s t 0))

-- a store that its index lists is ready for look-ups
pub ready_of : {K E P I : List ℕ} {f : Fill} → Indexed K E P I f → Ready K E P I f
ready_of X = record { formed = X.stored.formed; once = X.stored.once; lists = X.lists; room = X.room }

by-number : (n : prelude.Option ℕ) (a : Added) (s : List Term) → outcome_by n a s ≡ answer n a.fill.words s
by-number None a s = refl
by-number (Some n) a s = refl

module _ {K E P I : List ℕ} {f : Fill} {K' E' P' I' : List ℕ} {a : Added} where
  adds_same : {x : Result} {o : Outcome ℕ} → Same x o → Once x.cells → length K < length I → Kept K E P I f K' E' P' I' a x → Adds K E P I f K' E' P' I' a o
  unfolding terms_in
  adds_same q once room kept =
      let R = kept.ran in
      let ts = ap (map read_term) R.cells in
      let w = sym (held-total R.formed) ∙ ap total R.cells in
      record {
        outcome = by-number a.number a (terms_in K' E' P' a.fill) ∙ (λ i. answer (R.number i) (w i) (ts i)) ∙ q.outcome;
        indexed = record {
          stored = record { formed = R.formed; once = subst Once (sym R.cells) once; terms = ap (map cell_of) ts ∙ q.terms ∙ sym R.cells };
          lists = kept.lists;
          room = rw (R.len_k, kept.len_i) room;
        };
        len_k = R.len_k;
        len_e = R.len_e;
        len_p = R.len_p;
        len_i = kept.len_i;
        more_cells = R.more_cells;
        more_words = R.more_words;
        kinds = R.kinds;
        ends = R.ends;
        pool = R.pool;
      }

  -- adding a term's cell is adding the term
  pub adds : Indexed K E P I f → (t : Term) → Kept K E P I f K' E' P' I' a (add_cell (cell_of t) (table_of K E P (table_fill f))) → Adds K E P I f K' E' P' I' a (add_node (room_of K P) t (terms_in K E P f))
  adds X t =
      let S = X.stored in
      adds_same (subst (λ (cs : List Cell). Same (add_cell (cell_of t) (record { cells = cs; cell_room = length K; word_room = length P })) (add_node (room_of K P) t (terms_in K E P f)))
      S.terms
      (add_term (length K) (length P) t (terms_in K E P f)))
      (add_once (cell_of t) (table_of K E P (table_fill f)) S.once)
      X.room

-- a cell that is found is a term that needs no adding
by-found : (o : Option ℕ) (v : ℕ) → found_of o ≡ Some v → o ≡ some v
unfolding found_of
by-found none v e = let y : ◌≡◌ {A = ℕ} 0 1 = cc in absurd (omega arith)
by-found (some i) v e = cc

pub known-term : {K E P I : List ℕ} {f : Fill} → Indexed K E P I f → (t : Term) {r : prelude.Option ℕ} → r ≡ find_cell (cells_of K E P f.cells) (cell_of t)
    → Known r (add_node (room_of K P) t (terms_in K E P f)) (terms_in K E P f)
unfolding add_node
known-term {K} {E} {P} {I} {f} X t {r} e = record {
  value = λ v q. ap (λ (o : Option ℕ). elim o [ some i ↦ ok i s | none ↦ new ]) (by-found (find_term s t 0) v
      (sym (find-cell s t 0) ∙ ap (λ (cs : List Cell). find_from 0 cs (cell_of t)) X.stored.terms ∙ sym e ∙ q));
}
  where
    s : List Term
    s = terms_in K E P f

    new : Outcome ℕ
    new = elim (ltb (length s) (length K) && leb (widths s + width t) (length P)) [ true ↦ ok (length s) (s ++ (t ∷ [])) | false ↦ refuse 53 (widths s ∷ []) s ]

not-found : (o : Option ℕ) → found_of o ≡ None → o ≡ none
unfolding found_of
not-found none e = refl
not-found (some i) e = let y : ◌≡◌ {A = ℕ} 0 1 = cc in absurd (omega arith)

-- a cell that is not found is no term of the store
pub absent-term : {K E P I : List ℕ} {f : Fill} → Indexed K E P I f → (t : Term) {r : prelude.Option ℕ} → r ≡ find_cell (cells_of K E P f.cells) (cell_of t)
    → r ≡ None → find_term (terms_in K E P f) t 0 ≡ none
absent-term {K} {E} {P} {I} {f} X t e q = not-found (find_term (terms_in K E P f) t 0)
    (sym (find-cell (terms_in K E P f) t 0) ∙ ap (λ (cs : List Cell). find_from 0 cs (cell_of t)) X.stored.terms ∙ sym e ∙ q)

-- the words of an application are its name and the others
pub app-words : (ws : List ℕ) → 0 < length ws → ◌≡◌ {A = Cell} (cell 2 ws) (cell_of (app (get_or ws 0 0) (drop 1 ws)))
app-words [] h = absurd (not-suc-le-zero h)
app-words (w ∷ ws) h = refl

-- the words of an application, written one part after the other
pub put_first : (f : ℕ) (zs xs : List ℕ) → take (length xs + 1) (put (f ∷ zs) 1 xs) ≡ f ∷ xs
unfolding put
put_first f zs xs = rw (add-one (length xs)) (ap (λ (l : List ℕ). f ∷ l) (take_at xs (drop (1 + length xs) (f ∷ zs)) (length xs) refl))

-- reading a term
pub get-read : (cs : List Cell) (t : ℕ) → t < length cs → get_term (map read_term cs) t ≡ some (read_term (get_or cs t no_cell))
unfolding get_term
get-read [] t h = absurd (not-suc-le-zero h)
get-read (c ∷ cs) zero h = refl
get-read (c ∷ cs) (suc t) h = get-read cs t (le_of_suc-le-suc h)

-- cells whose terms are all different
pub once-of : (cs : List Cell) → Distinct (map read_term cs) → Once cs
once-of cs d = record { one = λ i j h k q. d.one i j (read_term (get_or cs i no_cell)) (get-read cs i h) (get-read cs j k ∙ ap (λ (c : Cell). some (read_term c)) (sym q)) }

get-map : (cs : List Cell) (t : ℕ) → t < length cs → get_term (map read_term cs) t ≡ some (read_term (get_or cs t no_cell))
unfolding get_term
get-map [] t h = absurd (not-suc-le-zero h)
get-map (c ∷ cs) zero h = refl
get-map (c ∷ cs) (suc t) h = get-map cs t (le_of_suc-le-suc h)

each-term : (cs : List Cell) → map cell_of (map read_term cs) ≡ cs → (t : ℕ) → t < length cs → cell_of (read_term (get_or cs t no_cell)) ≡ get_or cs t no_cell
each-term [] e t h = absurd (not-suc-le-zero h)
each-term (c ∷ cs) e zero h = cc
each-term (c ∷ cs) e (suc t) h = each-term cs (cc) t (le_of_suc-le-suc h)

-- a term's cell has a word, a literal's three
least-word : (u : Term) → 1 ≤ length (term_words u)
least-word (lit l) = omega arith
least-word (var x) = omega arith
least-word (app f xs) = omega arith

least-words : (u : Term) → get_or (3 ∷ []) (term_kind u) 1 ≤ length (term_words u)
least-words (lit l) = omega arith
least-words (var x) = omega arith
least-words (app f xs) = omega arith

children-read : (k : ℕ) (ws : List ℕ) → read_arguments (cell k ws) ≡ children (some (read_term (cell k ws)))
unfolding read_term
children-read zero ws = sym (arguments-none 0 ws (omega arith))
children-read (suc zero) ws = sym (arguments-none 1 ws (omega arith))
children-read (suc (suc k)) ws = sym (arguments-some (suc (suc k)) ws (omega arith))

-- a view with its children is the term
view-term : (r : decoded.Term) (xs : List ℕ) → term_of r xs ≡ term_of r (children (some (term_of r xs)))
view-term (decoded.Term.Lit l) xs = refl
view-term (decoded.Term.Var x) xs = refl
view-term (decoded.Term.App f) xs = refl

-- term t of a store, whose cell has the words ws
module _ {K E P : List ℕ} {f : Fill} (S : Stored K E P f) (t : ℕ) (h : t < f.cells) (ws : List ℕ) (e : ws ≡ (get_or (cells_of K E P f.cells) t no_cell).words) where
  abbrev here : Cell
  here = cell (get_or K t 0) ws

  this-cell : get_or (cells_of K E P f.cells) t no_cell ≡ here
  this-cell = λ i. record { kind = (cell-at K E P f.cells t h i).kind; words = sym e i }

  inside : t < length (cells_of K E P f.cells)
  inside = omega (arith, cells-length K E P f.cells)

  this-term : get_term (terms_in K E P f) t ≡ some (read_term here)
  unfolding terms_in
  this-term = get-map (cells_of K E P f.cells) t inside ∙ ap {B = Option Term} (λ (c : Cell). some (read_term c)) this-cell

  is-term : cell_of (read_term here) ≡ here
  unfolding terms_in
  is-term = subst (λ (c : Cell). cell_of (read_term c) ≡ c) this-cell (each-term (cells_of K E P f.cells) S.terms t inside)

  pub has_word : 1 ≤ length ws
  has_word = subst (λ (c : Cell). 1 ≤ length c.words) is-term (least-word (read_term here))

  pub has_words : get_or (3 ∷ []) (get_or K t 0) 1 ≤ length ws
  has_words = subst (λ (c : Cell). get_or (3 ∷ []) c.kind 1 ≤ length c.words) is-term (least-words (read_term here))

  pub get-children : read_arguments here ≡ children (get_term (terms_in K E P f) t)
  get-children = children-read (get_or K t 0) ws ∙ ap children (sym this-term)

  pub get-term : (r : decoded.Term) (xs : List ℕ) → term_of r xs ≡ read_term here → get_term (terms_in K E P f) t ≡ some (term_of r (children (get_term (terms_in K E P f) t)))
  get-term r xs q =
      let z : get_term (terms_in K E P f) t ≡ some (term_of r xs) = this-term ∙ ap {B = Option Term} some (sym q) in
      z ∙ ap {B = Option Term} some (view-term r xs) ∙ ap {B = Option Term} (λ (u : Option Term). some (term_of r (children u))) (sym z)

-- as many terms as cells
pub terms-length : (K E P : List ℕ) (f : Fill) → length (terms_in K E P f) ≡ f.cells
unfolding terms_in
terms-length K E P f = length-map (cells_of K E P f.cells) read_term ∙ cells-length K E P f.cells
