-- The refusals below 20: none has the number 0, and a cell's number is a word; and what `prepare` gives by each.
use mathlib.Core.Path.{◌≡◌, refl, sym, ap, subst, ◌∙◌}
use mathlib.Core.Bool.{Bool, true, false, not}
use mathlib.Core.List.{List, [], ◌∷◌, map}
use mathlib.Core.Option.{Option, none, some, none-ne-some, some-injective}
use Prim.Native.Nat.{ℕ, zero, suc, ◌+◌, ◌≤◌, ◌<◌, ◌^◌}
use native.Mathlib.Omega.{arith}
use lib.Dec.{leb, lit<}
use lib.ListN.{length, get_or, length-append}
use Rattle.model.specs.Cell.{Cell, cells_of}
use Rattle.model.specs.Term.{read_term}
use Rattle.model.specs.Layout.{cell_count, sizes_of, kinds_of, ends_of, pool_of, Tables, table_list, tables_of}
use Rattle.model.specs.Check.{Refusal}
use Rattle.model.specs.Load.{Lent, wrong_length, too_large, unknown_mode, ends_rise, no_room, wrong_slots, refused_if, first_marked, first_refusal, fails_from, marks, first_failing, fit_tests, refer_tests, valid_tests, once_tests, load_tests, load_refusal}
use Rattle.model.specs.Answer.{lent_by}
use Rattle.std.specs.Prelude.{Result, Ok, Err, ⊤}
use Rattle.load.specs.declared.Rejection.{Rejection}
use Rattle.load.specs.Held.{Limits, refusal_of}
use Rattle.load.proofs.Loading.{limits_of, refuses-1, refuses-2}
use Rattle.load.proofs.TableLaws.{fails-length, table-length}
use Rattle.cells.proofs.Laws.{cells-length}
use Rattle.index.specs.Listing.{Lists}
use Rattle.termdag.specs.Store.{Loaded as TermsLoaded}
use Rattle.outcome.specs.Does as outcome
use Rattle.outcome.specs.declared.Refusal.{Refusal as Held}
use Rattle.prepare.specs.declared.Prepared.{Prepared}
use Rattle.prepare.specs.Prepares.{arrays_of, refusal_by, Loads, Prepares}
use Rattle.program.specs.Ready.{cells_for, tables_for, table_for, count_for}
use Rattle.prepare.proofs.Jobs.{tables-for, loads-asked, loads-room, starts}

-- a refusal that there is, whose only field is a word
record Word (r : Refusal) : Type 0 where
  number : r.number ≡ 0 → ⊥
  field : (k : ℕ) → r.fields ≡ k ∷ [] → k < 2 ^ 32

-- the lists of one place
head-is : {k n : ℕ} → k ∷ [] ≡ n ∷ [] → k ≡ n
head-is e = ap (λ (xs : List ℕ). get_or xs 0 0) e

host-word : (b : Bool) (n : ℕ) (r : Refusal) → (n ≡ 0 → ⊥) → refused_if b n ≡ some r → Word r
unfolding refused_if
host-word false n r h e = absurd (none-ne-some r e)
host-word true n r h e =
    subst Word (some-injective _ r e) (record { number = h; field = λ k q. let z : ◌≡◌ {A = ℕ} 0 1 = ap length q in absurd (omega arith) })

marked-word : (n i : ℕ) (ms : List Bool) (r : Refusal) → (n ≡ 0 → ⊥) → i + length ms < 2 ^ 32 → first_marked n i ms ≡ some r → Word r
unfolding first_marked
marked-word n i [] r h l e = absurd (none-ne-some r e)
marked-word n i (false ∷ ms) r h l e = marked-word n (suc i) ms r h (omega arith) e
marked-word n i (true ∷ ms) r h l e = subst Word (some-injective _ r e) (record { number = h; field = λ k q. let x = head-is q in omega arith })

-- the marks are at most as many as the cells
lengths : List (List Cell) → ℕ
lengths [] = 0
lengths (t ∷ ts) = length t + lengths ts

marks-few : (fs : List (ℕ → Cell → Bool)) (ts : List (List Cell)) → length (marks fs ts) ≤ lengths ts
unfolding lengths
marks-few [] ts = omega arith
marks-few (f ∷ fs) [] = omega arith
marks-few (f ∷ fs) (t ∷ ts) = let h = marks-few fs ts in omega (arith, length-append (fails_from 0 f t) (marks fs ts), fails-length f 0 t)

-- the first refusal among tests
abbrev Each : List (Unit {0} → Option Refusal) → Type 0
Each [] = Unit {0}
Each (t ∷ ts) = ((r : Refusal) → t tt ≡ some r → Word r) × Each ts

first_word : (ts : List (Unit {0} → Option Refusal)) (r : Refusal) → Each ts → first_refusal ts ≡ some r → Word r
first_word [] r h e = absurd (none-ne-some r e)
first_word (t ∷ ts) r h e = go (t tt) refl e (first_word ts r h.1)
  where
    go : (o : Option Refusal) → t tt ≡ o → ◌≡◌ {A = Option Refusal} (elim o [ none ↦ first_refusal ts | some q ↦ some q ]) (some r) → (first_refusal ts ≡ some r → Word r) → Word r
    go none q e k = k e
    go (some x) q e k = subst Word (some-injective x r e) (h.0 x q)

cells-few : (ws : List ℕ) → Limits (sizes_of ws) → lengths (table_list (tables_for ws)) < 2 ^ 32
unfolding lengths
cells-few ws l =
    let n : (k : ℕ) → k < 10 → length (table_for ws k) ≡ count_for ws k = λ k h. table-length (sizes_of ws) (cells_for ws) (cells-length (kinds_of ws) (ends_of ws) (pool_of ws) (cell_count (sizes_of ws))) k h in
    omega (
      arith,
      n 0 (lit< tt),
      n 1 (lit< tt),
      n 2 (lit< tt),
      n 3 (lit< tt),
      n 4 (lit< tt),
      n 5 (lit< tt),
      n 6 (lit< tt),
      n 7 (lit< tt),
      n 8 (lit< tt),
      n 9 (lit< tt),
      l.terms,
      l.expressions,
      l.facts,
      l.actions,
      l.functions,
      l.primitives,
      l.rows,
      l.normalisers,
      l.rules,
      l.proofs,
    )

module _ (ws : List ℕ) (asked mode : ℕ) (l : Lent) where
  tests-words : too_large (sizes_of ws) ≡ false → Each (load_tests ws (sizes_of ws) (tables_of ws) asked mode l)
  tests-words h =
      let z = sizes_of ws in
      let t = tables_of ws in
      let few : lengths (table_list t) < 2 ^ 32 = subst (λ (x : Tables). lengths (table_list x) < 2 ^ 32) (tables-for ws) (cells-few ws (limits_of z h)) in
      let cell : (n : ℕ) (fs : List (ℕ → Cell → Bool)) → (n ≡ 0 → ⊥) → (r : Refusal) → first_failing n fs t ≡ some r → Word r =
      λ n fs p r e. marked-word n 0 (marks fs (table_list t)) r p (let m = marks-few fs (table_list t) in omega arith) e in (
        λ r e. host-word (wrong_length ws) 1 r (λ q. omega arith) e,
        (
          λ r e. host-word (too_large z) 2 r (λ q. omega arith) e,
          (
            λ r e. host-word (leb z.proofs asked) 3 r (λ q. omega arith) e,
            (
              λ r e. host-word (unknown_mode mode) 11 r (λ q. omega arith) e,
              (
                λ r e. host-word (not (ends_rise 0 (ends_of ws) z.pool)) 5 r (λ q. omega arith) e,
                (
                  cell 6 (fit_tests t) (λ q. omega arith),
                  (
                    cell 7 (refer_tests z) (λ q. omega arith),
                    (
                      cell 8 (valid_tests t) (λ q. omega arith),
                      (
                        cell 9 (once_tests t) (λ q. omega arith),
                        (
                          λ r e. host-word (no_room z (map read_term t.terms) l) 10 r (λ q. omega arith) e,
                          (
                            λ r e. host-word (wrong_slots l) 12 r (λ q. omega arith) e,
                            tt,
                          ),
                        ),
                      ),
                    ),
                  ),
                ),
              ),
            ),
          ),
        ),
      )

  load_word : (r : Refusal) → load_refusal ws asked mode l ≡ some r → Word r
  unfolding load_refusal refused_if
  load_word r e = go (wrong_length ws) refl (too_large (sizes_of ws)) refl
    where
      host : (n : ℕ) → (n ≡ 0 → ⊥) → some (record { number = n; fields = [] }) ≡ load_refusal ws asked mode l → Word r
      host n p q = host-word true n r p (q ∙ e)

      go : (b : Bool) → wrong_length ws ≡ b → (d : Bool) → too_large (sizes_of ws) ≡ d → Word r
      go true w d q = host 1 (λ q. omega arith) (refuses-1 ws asked mode l w)
      go false w true q = host 2 (λ q. omega arith) (refuses-2 ws asked mode l w q)
      go false w false q = first_word (load_tests ws (sizes_of ws) (tables_of ws) asked mode l) r (tests-words q) e

-- what each answer of loading gives
refusal-by : (n : ℕ) (r : Held) → (n ≡ 0 → ⊥) → refusal_by n r ≡ some (outcome.refusal_of r)
refusal-by zero r h = absurd (h refl)
refusal-by (suc n) r h = refl

module _ (ws : List ℕ) (asked mode : ℕ) (K E P I : List ℕ) (scratch : ℕ) where
  abbrev lent : Lent
  lent = lent_by (arrays_of K E P) (length I) scratch

  -- a refusal, with the arrays as they were
  refuses : {I' : List ℕ} (r : Held) (p : Prepared) → p.refusal ≡ r → some (outcome.refusal_of r) ≡ load_refusal ws asked mode lent → Prepares ws asked mode K E P I scratch K E P I' p
  refuses r p q e =
      let w : r.number ≡ 0 → ⊥ = (load_word ws asked mode lent (outcome.refusal_of r) (sym e)).number in
      let n : p.refusal.number ≡ 0 → ⊥ = λ h. w (sym (ap (λ (x : Held). x.number) q) ∙ h) in
      record {
        refusal = refusal-by p.refusal.number p.refusal n ∙ ap {B = Option Refusal} (λ (x : Held). some (outcome.refusal_of x)) q ∙ e;
        kept = λ h. refl;
        started = λ h. absurd (n h);
        there = λ h. absurd (n h);
        enough = λ h. absurd (n h);
      }

  module _ {o : Result ⊤ Rejection} (e : refusal_of o ≡ load_refusal ws asked mode lent) where
    pub refuses-host : {I' : List ℕ} (n : ℕ) (p : Prepared) → o ≡ Err (Rejection.Host n) → p.refusal ≡ outcome.refusal n 0 (0 ∷ 0 ∷ 0 ∷ 0 ∷ 0 ∷ 0 ∷ []) → Prepares ws asked mode K E P I scratch K E P I' p
    refuses-host n p h q = refuses _ p q (ap refusal_of (sym h) ∙ e)

    pub refuses-writer : {I' : List ℕ} (n cell : ℕ) (p : Prepared) → o ≡ Err (Rejection.Writer n cell) → p.refusal ≡ outcome.refusal n 1 (cell ∷ 0 ∷ 0 ∷ 0 ∷ 0 ∷ 0 ∷ []) → Prepares ws asked mode K E P I scratch K E P I' p
    refuses-writer n cell p h q = refuses _ p q (ap refusal_of (sym h) ∙ e)

    pub cell-word : (n cell : ℕ) → o ≡ Err (Rejection.Writer n cell) → cell < 2 ^ 32
    cell-word n cell h = (load_word ws asked mode lent (record { number = n; fields = cell ∷ [] }) (sym e ∙ ap refusal_of h)).field cell refl

    loads-none : o ≡ Ok tt → load_refusal ws asked mode lent ≡ none
    loads-none h = sym e ∙ ap refusal_of h

    pub loads : o ≡ Ok tt → Loads ws K E P
    loads h = record { asked = asked; mode = mode; slots = length I; scratch = scratch; passes = loads-none h }

    pub admits : {K' E' P' I' : List ℕ} {x : ℕ} (p : Prepared) → o ≡ Ok tt → p.refusal ≡ outcome.passed → TermsLoaded (kinds_of ws) (ends_of ws) (pool_of ws) (sizes_of ws).terms x K E P K' E' P' p.fill
        → length I' ≡ length I → Lists x I' (cells_of (kinds_of ws) (ends_of ws) (pool_of ws) (sizes_of ws).terms) → Prepares ws asked mode K E P I scratch K' E' P' I' p
    unfolding loads
    admits p h q D m t =
        let a = loads-none h in
        let n : p.refusal.number ≡ 0 = ap (λ (x : Held). x.number) q in
        record {
          refusal = ap (λ (x : Held). refusal_by x.number x) q ∙ sym a;
          kept = λ x. absurd (x n);
          started = λ x. starts (loads h) D m t;
          there = λ x. loads-asked ws asked mode lent a;
          enough = λ x. (loads-room ws asked mode lent a).enough;
        }
