-- Laws of look-ups in the cells of a table, and in the tables of an admitted job's program.
use Rattle.std.specs.Prelude as prelude
use Rattle.std.specs.Prelude.{Some, None}
use mathlib.Core.Path.{◌≡◌, refl, sym, ap, ◌∙◌}
use mathlib.Core.Bool.{Bool, true, false, ◌&&◌, ◌||◌}
use mathlib.Core.List.{List, [], ◌∷◌, ◌++◌, map}
use mathlib.Core.Option.{Option, none, some}
use Prim.Native.Nat.{ℕ, zero, suc, ◌+◌, ◌-◌, ◌≤◌, ◌<◌}
use native.Mathlib.Numerals.{add-one}
use native.Mathlib.Omega.{arith}
use lib.Dec.{eqb}
use lib.ListN.{length, get_or, take, drop, drop_of_length-le, get_or-map}
use lib.Seq.{drop-cons, take-suc}
use borrow.Author.Tests.{eq-eqb, ne_eqb, eqb-true, eqb-false}
use Rattle.model.specs.Cell.{Cell, no_cell, same_words}
use Rattle.model.specs.Term.{Term, get_term}
use Rattle.model.specs.Layout.{sizes_of}
use Rattle.model.specs.Program.{Expr, Fact, Action, Row, Program, computes}
use Rattle.model.specs.Decode.{word, read_function, read_row, read_normaliser, read_rule}
use Rattle.model.specs.Check.{Outcome, ok, ◌>>=◌, pure, Room}
use Rattle.model.specs.Evaluate.{primitive_at, row_value, validate_by, validate, children}
use Rattle.model.specs.Action.{merge_of}
use Rattle.model.specs.Normalize.{as_app, normaliser_of, unwrap_or, normalize_by, normalize_app, normalize_container}
use Rattle.model.specs.Load.{any}
use Rattle.model.specs.Walk.{member, rule_of, duplicate_rule_name}
use Rattle.decode.specs.View.{cell, term_of, row_of}
use Rattle.decode.specs.declared.Row.{Row as RowView}
use Rattle.decode.specs.declared.Term.{Term as TermView}
use Rattle.load.specs.Held.{first_found}
use Rattle.model.proofs.Computing.{normaliser-looks as normaliser-no-count}
use Rattle.program.proofs.Laws.{primitives-read, normalisers-read}
use Rattle.program.specs.Ready.{Ready, program_for, tables_for, first_named, rule_at}

-- the marks of cells, one after another
module _ (test : Cell → Bool) (t : List Cell) (i : ℕ) where
  pub mark-yes : i < length t → test (get_or t i no_cell) ≡ true → Some i ≡ first_found i (map test (drop i t))
  unfolding first_found
  mark-yes h e = rw (drop-cons t i no_cell h, e)

  pub mark-no : i < length t → test (get_or t i no_cell) ≡ false → first_found i (map test (drop i t)) ≡ first_found (i + 1) (map test (drop (i + 1) t))
  unfolding first_found
  mark-no h e = rw (drop-cons t i no_cell h, e, add-one)

  pub mark-end : length t ≤ i → None ≡ first_found i (map test (drop i t))
  unfolding first_found
  mark-end h = rw (drop_of_length-le t h)

-- a place given, or none, is inside
pub at-within : {i j n : ℕ} → i < n → Some i ≡ Some j → j < n
at-within {i} {j} h e = let s : i ≡ j = cc in omega arith

pub none_within : {j n : ℕ} → None ≡ Some j → j < n
none_within e = let z : ◌≡◌ {A = ℕ} 0 1 = cc in absurd (omega arith)

-- a look-up gives the value of the first cell that passes a test
pub record Looks {B : Type 0} (test : Cell → Bool) (value : Cell → Option B) (look : List Cell → Option B) : Type 0 where
  pub end : look [] ≡ none
  pub step : (c : Cell) (cs : List Cell) → look (c ∷ cs) ≡ elim (test c) [ true ↦ value c | false ↦ look cs ]

module _ {B : Type 0} {test : Cell → Bool} {value : Cell → Option B} {look : List Cell → Option B} (L : Looks test value look) where
  pub look-yes : (t : List Cell) (i : ℕ) → i < length t → test (get_or t i no_cell) ≡ true → value (get_or t i no_cell) ≡ look (drop i t)
  look-yes t i h e = rw (drop-cons t i no_cell h, L.step (get_or t i no_cell) (drop (suc i) t), e)

  pub look-no : (t : List Cell) (i : ℕ) → i < length t → test (get_or t i no_cell) ≡ false → look (drop i t) ≡ look (drop (i + 1) t)
  look-no t i h e = rw (drop-cons t i no_cell h, L.step (get_or t i no_cell) (drop (suc i) t), e, add-one)

  pub look-end : (t : List Cell) (i : ℕ) → length t ≤ i → none ≡ look (drop i t)
  look-end t i h = rw (drop_of_length-le t h) (sym L.end)

  -- the cell found is the one that it takes
  found_from : (cs : List Cell) (k i : ℕ) → first_found k (map test cs) ≡ Some i → (k ≤ i) × (look cs ≡ value (get_or cs (i - k) no_cell))
  unfolding first_found
  found_from [] k i e = let z : ◌≡◌ {A = ℕ} 0 1 = cc in absurd (omega arith)
  found_from (c ∷ cs) k i e = go (test c) refl (found_from cs (suc k) i) e
    where
      go : (b : Bool) → test c ≡ b → (first_found (suc k) (map test cs) ≡ Some i → (suc k ≤ i) × (look cs ≡ value (get_or cs (i - suc k) no_cell)))
          → first_found k (b ∷ map test cs) ≡ Some i → (k ≤ i) × (look (c ∷ cs) ≡ value (get_or (c ∷ cs) (i - k) no_cell))
      go true s ih q =
          let r : k ≡ i = cc in
          let d : i - k ≡ 0 = omega arith in
          (omega arith, rw (d, L.step c cs, s))
      go false s ih q =
          let h = ih q in
          let d : i - k ≡ suc (i - suc k) = omega arith in
          (omega arith, rw (d, L.step c cs, s) h.1)

  none_from : (cs : List Cell) (k : ℕ) → first_found k (map test cs) ≡ None → look cs ≡ none
  unfolding first_found
  none_from [] k e = L.end
  none_from (c ∷ cs) k e = go (test c) refl (none_from cs (suc k)) e
    where
      go : (b : Bool) → test c ≡ b → (first_found (suc k) (map test cs) ≡ None → look cs ≡ none) → first_found k (b ∷ map test cs) ≡ None → look (c ∷ cs) ≡ none
      go true s ih q = let z : ◌≡◌ {A = ℕ} 0 1 = cc in absurd (omega arith)
      go false s ih q = rw (L.step c cs, s) (ih q)

  pub look-found : (t : List Cell) (i : ℕ) → first_found 0 (map test t) ≡ Some i → look t ≡ value (get_or t i no_cell)
  look-found t i e = let d : i - 0 ≡ i = omega arith in rw d at (found_from t 0 i e).1

  pub look-nothing : (t : List Cell) → first_found 0 (map test t) ≡ None → look t ≡ none
  look-nothing t e = none_from t 0 e

-- the look-ups of a program
pub row-looks : (p : ℕ) (xs : List ℕ) → Looks (λ c. eqb (word c 0) p && same_words (drop 2 c.words) xs) (λ c. some (word c 1)) (λ t. row_value (map read_row t) p xs)
row-looks p xs = record { end = refl; step = λ c cs. refl }

pub normaliser-looks : (f : ℕ) → Looks (λ c. eqb (word c 0) f) (λ c. some (word c 1)) (λ t. normaliser_of (map read_normaliser t) f)
normaliser-looks f = record { end = refl; step = λ c cs. refl }

pub rule-looks : (fact : ℕ → Fact) (action : ℕ → Action) (x : ℕ) → Looks (λ c. eqb (word c 0) x) (λ c. some (read_rule fact action c)) (λ t. rule_of (map (read_rule fact action) t) x)
rule-looks fact action x = record { end = refl; step = λ c cs. refl }

pub merge-looks : (expr : ℕ → Expr) (f : ℕ) → Looks (λ c. eqb (word c 0) f) (λ c. (read_function expr c).merge) (λ t. merge_of (map (read_function expr) t) f)
unfolding merge_of
merge-looks expr f = record { end = refl; step = λ c cs. refl }

-- a row's test, by what is read of it
pub row-test : (c : Cell) (r : RowView) (p : ℕ) (xs : List ℕ) {ws us : List ℕ} {b : Bool} → ws ≡ c.words → row_of r (drop 2 ws) ≡ read_row (cell 0 ws) → us ≡ drop 2 ws → b ≡ same_words us xs
    → (eqb (word c 0) p && same_words (drop 2 c.words) xs) ≡ (eqb r.primitive p && b)
row-test c r p xs w e u s = rw (s, u, ap (λ (x : Row). x.primitive) e, w)

-- the rule found
pub rule_found : (fact : ℕ → Fact) (action : ℕ → Action) (t : List Cell) (x : ℕ) (r : prelude.Option ℕ) → r ≡ first_named t x → rule_at (map (read_rule fact action) t) r ≡ rule_of (map (read_rule fact action) t) x
rule_found fact action t x (Some i) e = ap some (get_or-map (read_rule fact action) t i no_cell) ∙ sym (look-found (rule-looks fact action x) t i (sym e))
rule_found fact action t x None e = sym (look-nothing (rule-looks fact action x) t (sym e))

-- names seen before
module _ (t : List Cell) where
  unfoldable pub seen : ℕ → List ℕ
  seen zero = []
  seen (suc i) = word (get_or t i no_cell) 0 ∷ seen i

-- a name is among those seen where a cell before has it
or_swap : (a b c : Bool) → (a || (b || c)) ≡ (b || (a || c))
or_swap true true c = refl
or_swap true false c = refl
or_swap false b c = refl

any_last : (f : Cell → Bool) (cs : List Cell) (c : Cell) → any f (cs ++ (c ∷ [])) ≡ (f c || any f cs)
any_last f [] c = refl
any_last f (x ∷ cs) c = ap (λ (b : Bool). f x || b) (any_last f cs c) ∙ or_swap (f x) (f c) (any f cs)

eqb-sym : (m n : ℕ) → eqb m n ≡ eqb n m
eqb-sym m n = go (eqb m n) refl
  where
    go : (b : Bool) → eqb m n ≡ b → eqb m n ≡ eqb n m
    go true e = e ∙ sym (eq-eqb n m (sym (eqb-true m n e)))
    go false e = e ∙ sym (ne_eqb n m (λ q. eqb-false m n e (sym q)))

member_seen : (t : List Cell) (x i : ℕ) → i ≤ length t → member x (seen t i) ≡ any (λ c. eqb (word c 0) x) (take i t)
unfolding seen
member_seen t x zero h = refl
member_seen t x (suc i) h = rw (take-suc t i no_cell h, any_last (λ c. eqb (word c 0) x) (take i t) (get_or t i no_cell), eqb-sym x (word (get_or t i no_cell) 0), member_seen t x i (omega arith))

any_found : (test : Cell → Bool) (cs : List Cell) (k : ℕ) → any test cs ≡ elim (first_found k (map test cs)) [ Some i ↦ true | None ↦ false ]
unfolding first_found
any_found test [] k = refl
any_found test (c ∷ cs) k = go (test c) (any_found test cs (suc k))
  where
    go : (b : Bool) → any test cs ≡ elim (first_found (suc k) (map test cs)) [ Some i ↦ true | None ↦ false ]
        → (b || any test cs) ≡ elim (first_found k (b ∷ map test cs)) [ Some i ↦ true | None ↦ false ]
    go true h = refl
    go false h = h

-- one rule after another
module _ (fact : ℕ → Fact) (action : ℕ → Action) (t : List Cell) (i : ℕ) where
  before : i < length t → (r : prelude.Option ℕ) → r ≡ first_named (take i t) (word (get_or t i no_cell) 0) → member (word (get_or t i no_cell) 0) (seen t i) ≡ elim r [ Some j ↦ true | None ↦ false ]
  before h r e = member_seen t (word (get_or t i no_cell) 0) i (omega arith) ∙ any_found (λ c. eqb (word c 0) (word (get_or t i no_cell) 0)) (take i t) 0
      ∙ ap (λ (f : prelude.Option ℕ). elim f [ Some j ↦ true | None ↦ false ]) (sym e)

  pub duplicate-yes : i < length t → (j : ℕ) → Some j ≡ first_named (take i t) (word (get_or t i no_cell) 0) → some (word (get_or t i no_cell) 0) ≡ duplicate_rule_name (seen t i) (map (read_rule fact action) (drop i t))
  duplicate-yes h j e = let m = before h (Some j) e in rw (drop-cons t i no_cell h, duplicate_rule_name, m)

  pub duplicate-no : i < length t → None ≡ first_named (take i t) (word (get_or t i no_cell) 0)
      → duplicate_rule_name (seen t i) (map (read_rule fact action) (drop i t)) ≡ duplicate_rule_name (seen t (i + 1)) (map (read_rule fact action) (drop (i + 1) t))
  unfolding seen
  duplicate-no h e = let m = before h None e in rw (drop-cons t i no_cell h, duplicate_rule_name, m, add-one)

  pub duplicate-end : length t ≤ i → none ≡ duplicate_rule_name (seen t i) (map (read_rule fact action) (drop i t))
  duplicate-end h = rw (drop_of_length-le t h)

-- the normal form of a container: in an admitted job its primitive looks rows up
module _ (room : Room) (prog : Program) (t f : ℕ) (xs : List ℕ) (s : List Term) where
  pub normal-without : none ≡ normaliser_of prog.normalisers f → normalize_app room prog t (some (record { head = f; args = xs })) s ≡ ok t s
  normal-without n = ap (λ (o : Option ℕ). normalize_by room prog t xs o s) (sym n)

  pub normal-by : (p : ℕ) (o : Option ℕ) → some p ≡ normaliser_of prog.normalisers f → computes (primitive_at prog.primitives p) ≡ false → o ≡ row_value prog.rows p xs
      → normalize_app room prog t (some (record { head = f; args = xs })) s ≡ ok (unwrap_or o t) s
  unfolding validate
  normal-by p o n k v =
      ap (λ (o : Option ℕ). normalize_by room prog t xs o s) (sym n)
      ∙ ap (λ (b : Bool). (validate_by room prog p xs b >>= λ q. pure (unwrap_or q t)) s) k
      ∙ ap (λ (o : Option ℕ). ok (unwrap_or o t) s) (sym v)

pub normal-looks : {J : List ℕ} → Ready J → (f p : ℕ) → some p ≡ normaliser_of (program_for J).normalisers f → computes (primitive_at (program_for J).primitives p) ≡ false
normal-looks {J} R f p e =
    let g = (sizes_of J).globals in
    let T = tables_for J in
    ap (λ ps. computes (primitive_at ps p)) (primitives-read g T)
    ∙ normaliser-no-count (sizes_of J) T R.admitted f p (ap (λ ns. normaliser_of ns f) (sym (normalisers-read g T)) ∙ sym e)

pub normal-view : (room : Room) (prog : Program) (t n : ℕ) (s : List Term) (r : TermView) (xs : List ℕ) (x : Outcome ℕ) → n ≡ t → get_term s n ≡ some (term_of r (children (get_term s n))) → xs ≡ children (get_term s n)
    → normalize_app room prog t (as_app (some (term_of r xs))) s ≡ x → normalize_container room prog t s ≡ x
unfolding normalize_container
normal-view room prog t n s r xs x e g a h =
    ap (λ (m : ℕ). normalize_app room prog t (as_app (get_term s m)) s) (sym e) ∙ ap (λ (o : Option Term). normalize_app room prog t (as_app o) s) (g ∙ ap (λ (ys : List ℕ). some (term_of r ys)) (sym a)) ∙ h
