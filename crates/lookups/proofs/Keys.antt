-- Laws of look-ups by the chains of a table.
use Rattle.std.specs.Prelude as prelude
use Rattle.std.specs.Prelude.{Some, None}
use mathlib.Core.Path.{◌≡◌, refl, sym, ap, ap₂, subst, ◌∙◌}
use mathlib.Core.Logic.{◌⊎◌, inl, inr}
use mathlib.Core.Bool.{Bool, true, false, ◌&&◌}
use mathlib.Core.List.{List, [], map}
use mathlib.Core.Option.{some, none}
use Prim.Native.Nat.{ℕ, zero, suc, ◌+◌, ◌-◌, ◌≤◌, ◌<◌}
use native.Mathlib.Numerals.{add-one}
use native.Mathlib.Omega.{arith}
use lib.Dec.{eqb, lit<}
use lib.ListN.{length, get_or, take, drop, set, length-set}
use lib.Seq.{get_or-take, get_or-set_other}
use Rattle.model.specs.Cell.{Cell, no_cell, same_words}
use Rattle.model.specs.Layout.{sizes_of, kinds_of, ends_of, pool_of}
use Rattle.model.specs.Program.{Fact, Action}
use Rattle.model.specs.Decode.{word, read_rule}
use Rattle.model.specs.Walk.{duplicate_rule_name}
use Rattle.model.proofs.Tests.{and-true}
use Rattle.cells.specs.declared.Fill.{Fill}
use Rattle.load.specs.Held.{cell_number, first_found}
use Rattle.chains.specs.Chains.{FormedCells, has_key, same_key, slot_at, Chained, Next, Within, FirstHit, Differ}
use Rattle.program.specs.Ready.{Held, fill_for, table_for, count_for, first_named}
use Rattle.chains.specs.declared.Keys.{Keys}
use Rattle.program.proofs.Words.{inside, words-in, formed-part}
use Rattle.program.proofs.Laws.{table-long, front_long}
use Rattle.lookups.specs.Keyed.{words_in, KeysOf, ChainedTable}
use Rattle.lookups.proofs.Laws.{mark-yes, mark-no, mark-end, seen, duplicate-yes, duplicate-no, duplicate-end}

-- the first mark is that of the first cell that passes
module _ (test : Cell → Bool) (t : List Cell) where
  past : (i : ℕ) → i ≤ length t → ((j : ℕ) → j < i → test (get_or t j no_cell) ≡ false) → first_found 0 (map test t) ≡ first_found i (map test (drop i t))
  past zero l h = refl
  past (suc i) l h = past i (omega arith) (λ j k. h j (omega arith)) ∙ rw add-one at (mark-no test t i (omega arith) (h i (omega arith)))

  pub first-mark : {hit : ℕ → Bool} {n : ℕ} (r : prelude.Option ℕ) → length t ≡ n → ((i : ℕ) → i < n → hit i ≡ test (get_or t i no_cell)) → FirstHit hit n r → r ≡ first_found 0 (map test t)
  first-mark (Some i) l e x =
      let h = x.there i refl in
      mark-yes test t i (omega (arith, h.0)) (sym (e i h.0) ∙ h.1) ∙ sym (past i (omega (arith, h.0)) (λ j k. sym (e j (omega (arith, h.0))) ∙ x.before i j refl k))
  first-mark {n = n} None l e x =
      mark-end test t (length t) (omega arith) ∙ sym (past (length t) (omega arith) (λ j k. sym (e j (omega arith)) ∙ x.none refl j (omega arith)))

-- the words of a cell of a table
words-at : (J : List ℕ) (k : ℕ) → k < 10 → (i : ℕ) → i < count_for J k → words_in J k i ≡ (get_or (table_for J k) i no_cell).words
words-at J k h i l = words-in J k h i l {first = cell_number (sizes_of J) k} refl refl

-- a name is the key of a cell without arguments
module _ (J : List ℕ) (k : ℕ) (h : k < 10) (x : ℕ) where
  named-key : (i : ℕ) → i < count_for J k → has_key false (words_in J k i) x [] ≡ eqb (word (get_or (table_for J k) i no_cell) 0) x
  named-key i l = and-true (eqb (get_or (words_in J k i) 0 0) x) ∙ ap (λ (us : List ℕ). eqb (get_or us 0 0) x) (words-at J k h i l)

  pub named-first : {r : prelude.Option ℕ} → FirstHit (λ i. has_key false (words_in J k i) x []) (count_for J k) r → r ≡ first_named (table_for J k) x
  named-first {r} f = first-mark (λ c. eqb (word c 0) x) (table_for J k) r (table-long J k h) named-key f

-- rows by primitive and arguments
pub row_first : (J : List ℕ) (p : ℕ) (xs : List ℕ) {r : prelude.Option ℕ} → FirstHit (λ i. has_key true (words_in J 6 i) p xs) (count_for J 6) r
    → r ≡ first_found 0 (map (λ c. eqb (word c 0) p && same_words (drop 2 c.words) xs) (table_for J 6))
row_first J p xs {r} f =
    first-mark (λ c. eqb (word c 0) p && same_words (drop 2 c.words) xs) (table_for J 6) r (table-long J 6 (lit< tt)) (λ i l. ap (λ (us : List ℕ). has_key true us p xs) (words-at J 6 (lit< tt) i l)) f

-- what the code has of a table is what the definitions have
module _ {J : List ℕ} {k : ℕ} {rows : Bool} {x : ℕ} {keys : Keys} (e : KeysOf J k rows x keys) where
  pub to-keys : (Q : List ℕ → List ℕ → List ℕ → Fill → ℕ → ℕ → Bool → ℕ → Type 0) → Q (kinds_of J) (ends_of J) (pool_of J) (fill_for J) (cell_number (sizes_of J) k) (count_for J k) rows x
      → Q keys.cells.kinds.now keys.cells.ends.now keys.cells.pool.now keys.cells.fill keys.first keys.count keys.rows keys.multiplier
  to-keys Q q =
      subst (λ (y : List ℕ × List ℕ × List ℕ × Fill × ℕ × ℕ × Bool × ℕ). Q y.0 y.1 y.2 y.3 y.4 y.5 y.6 y.7) (λ i. (sym e.kinds i, sym e.ends i, sym e.pool i, sym e.fill i, sym e.first i, sym e.count i, sym e.rows i, sym e.multiplier i)) q

  pub from-keys : (Q : List ℕ → List ℕ → List ℕ → Fill → ℕ → ℕ → Bool → ℕ → Type 0) → Q keys.cells.kinds.now keys.cells.ends.now keys.cells.pool.now keys.cells.fill keys.first keys.count keys.rows keys.multiplier
      → Q (kinds_of J) (ends_of J) (pool_of J) (fill_for J) (cell_number (sizes_of J) k) (count_for J k) rows x
  from-keys Q q =
      subst (λ (y : List ℕ × List ℕ × List ℕ × Fill × ℕ × ℕ × Bool × ℕ). Q y.0 y.1 y.2 y.3 y.4 y.5 y.6 y.7) (λ i. (e.kinds i, e.ends i, e.pool i, e.fill i, e.first i, e.count i, e.rows i, e.multiplier i)) q

  pub keys-formed : Held J → FormedCells keys
  keys-formed h = formed-part J e.kinds e.ends e.pool e.fill h

  pub keys-within : k < 10 → 64 ≤ count_for J k → keys.first + keys.count ≤ keys.cells.fill.cells
  keys-within h l = omega (arith, inside J k h (count_for J k - 1) (omega arith), e.first, e.count, ap (λ (f : Fill). f.cells) e.fill)

-- the chains of a table where others are made
module _ (J : List ℕ) (k : ℕ) (rows : Bool) (b : ℕ) {c : ℕ} {N N' : List ℕ} (l : count_for J k ≤ 4096) (m : 4096 < b) (o : 4096 < c) (w : Within c 8192 N N') (p : (b + 8192 ≤ c) ⊎ (c + 8192 ≤ b)) where
  other : (i : ℕ) → i < 8192 → get_or N' (b + i) 0 ≡ get_or N (b + i) 0
  other i h = w.same (b + i) (elim p [ inl q ↦ inl (omega arith) | inr q ↦ inr (omega arith) ])

  kept_by : (x : ℕ) → Chained (slot_at x (count_for J k) rows (words_in J k)) (count_for J k) b 0 N → Chained (slot_at x (count_for J k) rows (words_in J k)) (count_for J k) b 0 N'
  kept_by x t = record {
    long = omega (arith, t.long, w.even);
    slots = λ s h. subst (λ (e : ℕ). Next (slot_at x (count_for J k) rows (words_in J k)) (count_for J k) s 0 e) (sym (other s (omega arith))) (t.slots s h);
    numbers = λ i u v.
        let n : b + count_for J k + i ≡ b + (count_for J k + i) = omega arith in
        subst (λ (e : ℕ). Next (slot_at x (count_for J k) rows (words_in J k)) (count_for J k) (slot_at x (count_for J k) rows (words_in J k) i) (suc i) e) (rw n (sym (other (count_for J k + i) (omega arith)))) (t.numbers i u v);
  }

  pub chained-kept : ChainedTable J N k rows b → ChainedTable J N' k rows b
  chained-kept t = record {
    chained = λ h. subst (λ (x : ℕ). Chained (slot_at x (count_for J k) rows (words_in J k)) (count_for J k) b 0 N') (sym (w.same 4096 (inl o))) (kept_by (get_or N 4096 0) (t.chained h));
  }

-- a table whose chains were made
pub chained-made : (J : List ℕ) (k : ℕ) (rows : Bool) (b : ℕ) {m : ℕ} {N N' : List ℕ} → 4096 < b → Within b m N N'
    → Chained (slot_at (get_or N 4096 0) (count_for J k) rows (words_in J k)) (count_for J k) b 0 N' → ChainedTable J N' k rows b
chained-made J k rows b {m} {N} {N'} h w t = record { chained = λ _. subst (λ (x : ℕ). Chained (slot_at x (count_for J k) rows (words_in J k)) (count_for J k) b 0 N') (sym (w.same 4096 (inl h))) t }

-- a table of few cells
pub chained-few : (J N : List ℕ) (k : ℕ) (rows : Bool) (b : ℕ) → count_for J k < 64 → ChainedTable J N k rows b
chained-few J N k rows b h = record { chained = λ l. absurd (omega arith) }

-- a part of a larger part
pub within_wider : {b k c m : ℕ} {T T' : List ℕ} → c ≤ b → b + k ≤ c + m → Within b k T T' → Within c m T T'
within_wider h l w = record { even = w.even; same = λ i o. w.same i (elim o [ inl p ↦ inl (omega arith) | inr p ↦ inr (omega arith) ]) }

pub within-set : (b k i x : ℕ) (T : List ℕ) → b ≤ i → i < b + k → Within b k T (set T i x)
within-set b k i x T h l = record { even = length-set T i x; same = λ j o. get_or-set_other T i j x 0 (λ q. elim o [ inl p ↦ omega arith | inr p ↦ omega arith ]) }

-- rule names, each looked for among those before it
module _ (J : List ℕ) {r : ℕ} (d : Differ (same_key false (words_in J 8)) (count_for J 8) r) where
  name_of : (i : ℕ) → i < count_for J 8 → get_or (words_in J 8 i) 0 0 ≡ word (get_or (table_for J 8) i no_cell) 0
  name_of i l = ap (λ (us : List ℕ). get_or us 0 0) (words-at J 8 (lit< tt) i l)

  key_of : (j i : ℕ) → j < count_for J 8 → i < count_for J 8 → same_key false (words_in J 8) j i ≡ eqb (word (get_or (table_for J 8) j no_cell) 0) (word (get_or (table_for J 8) i no_cell) 0)
  key_of j i h l = and-true _ ∙ ap₂ eqb (name_of j h) (name_of i l)

  -- among the first i
  front : (i : ℕ) → i ≤ count_for J 8 → (f : prelude.Option ℕ) → FirstHit (λ j. same_key false (words_in J 8) j i) i f → i < count_for J 8 → f ≡ first_named (take i (table_for J 8)) (word (get_or (table_for J 8) i no_cell) 0)
  front i l f x h = first-mark (λ c. eqb (word c 0) (word (get_or (table_for J 8) i no_cell) 0)) (take i (table_for J 8)) f (front_long J 8 (lit< tt) i l)
      (λ j m. key_of j i (omega arith) h ∙ ap (λ (c : Cell). eqb (word c 0) (word (get_or (table_for J 8) i no_cell) 0)) (sym (get_or-take i (table_for J 8) j no_cell m))) x

  module _ (fact : ℕ → Fact) (action : ℕ → Action) where
    differing-past : (i : ℕ) → i ≤ r → duplicate_rule_name [] (map (read_rule fact action) (table_for J 8)) ≡ duplicate_rule_name (seen (table_for J 8) i) (map (read_rule fact action) (drop i (table_for J 8)))
    unfolding seen
    differing-past zero h = refl
    differing-past (suc i) h =
        let l : i < count_for J 8 = omega (arith, d.low) in
        let n : FirstHit (λ j. same_key false (words_in J 8) j i) i None = record {
          there = λ j e. let z : ◌≡◌ {A = ℕ} 0 1 = cc in absurd (omega arith);
          before = λ j m e q. let z : ◌≡◌ {A = ℕ} 0 1 = cc in absurd (omega arith);
          none = λ _ j q. d.differ i j (omega arith) q;
        } in
        differing-past i (omega arith) ∙ rw add-one at (duplicate-no fact action (table_for J 8) i (omega (arith, table-long J 8 (lit< tt))) (front i (omega arith) None n l))

    pub differing-none : count_for J 8 ≤ r → none ≡ duplicate_rule_name [] (map (read_rule fact action) (table_for J 8))
    differing-none h = duplicate-end fact action (table_for J 8) r (omega (arith, table-long J 8 (lit< tt))) ∙ sym (differing-past r (omega arith))

    pub differing-again : (l : r < count_for J 8) → some (word (get_or (table_for J 8) r no_cell) 0) ≡ duplicate_rule_name [] (map (read_rule fact action) (table_for J 8))
    differing-again l =
        let a = d.again l in
        let f : FirstHit (λ j. same_key false (words_in J 8) j r) r (Some a.0) = record {
          there = λ i e. let q : a.0 ≡ i = cc in (omega (arith, a.1), (a.2.there i e).1);
          before = a.2.before;
          none = λ e. let z : ◌≡◌ {A = ℕ} 0 1 = cc in absurd (omega arith);
        } in
        duplicate-yes fact action (table_for J 8) r (omega (arith, table-long J 8 (lit< tt))) a.0 (front r (omega arith) (Some a.0) f l) ∙ sym (differing-past r (omega arith))
