-- Laws of pairs, of the tables of an admitted job, and of what their cells have.
use Rattle.std.specs.Prelude as prelude
use Rattle.std.specs.Prelude.{Some}
use mathlib.Core.Path.{◌≡◌, refl, sym, ap, ◌∙◌}
use mathlib.Core.Bool.{Bool, true, ◌&&◌}
use mathlib.Core.List.{List, [], ◌∷◌, ◌++◌, map}
use mathlib.Core.Option.{none, some}
use Prim.Native.Nat.{ℕ, zero, suc, ◌≤◌, ◌<◌}
use native.Mathlib.Omega.{arith}
use lib.Dec.{eqb, leb, ltb, lit<}
use lib.ListN.{length, get_or, take, drop, length-take}
use lib.Seq.{take_all}
use borrow.Author.Tests.{ne_eqb}
use Rattle.model.specs.Cell.{Cell, no_cell}
use Rattle.model.specs.Layout.{Tables, sizes_of, kinds_of, ends_of, pool_of, cell_count}
use Rattle.model.specs.Program.{variable, Expr, node, nil, Rule, Function}
use Rattle.model.specs.Decode.{word, expr_of, read_fact, read_action, read_function, read_primitive, read_row, read_normaliser, rule_actions, read_rule, read_bindings, read_program}
use Rattle.model.specs.Evaluate.{lookup, primitive_at}
use Rattle.model.specs.Load.{counts, below, row_fits, rule_fits, passed, fit_tests}
use Rattle.model.proofs.Tests.{eq_of, lt_of, le_of, and_left, and_right}
use Rattle.cells.proofs.Laws.{cells-length}
use Rattle.decode.specs.View as view
use Rattle.decode.specs.View.{function_of}
use Rattle.decode.specs.declared.Function.{Function as FunctionView}
use Rattle.cell_tests.proofs.Laws.{pair-next}
use Rattle.load.proofs.TableLaws.{table-length}
use Rattle.program.specs.Ready.{Ready, cells_for, tables_for, table_for, count_for, first_named}

-- a name that the first pair does not bind
module _ (ws pair us : List ℕ) (x : ℕ) (e : ws ≡ pair ++ us) (h : length pair ≡ 2) where
  pub pair-no : (get_or pair 0 0 ≡ x → ⊥) → lookup (read_bindings ws) x ≡ lookup (read_bindings us) x
  pair-no q = rw (pair-next ws pair us e h, lookup, ne_eqb (get_or pair 0 0) x q)

-- the tables of a program
abbrev pub rule_for : Tables → Cell → Rule
rule_for t = read_rule (λ i. read_fact (expr_of t.expressions) i (get_or t.facts i no_cell)) (λ i. read_action (expr_of t.expressions) (get_or t.actions i no_cell))

module _ (g : ℕ) (t : Tables) where
  pub rules-read : (read_program g t).rules ≡ map (rule_for t) t.rules
  unfolding read_program
  rules-read = refl

  pub functions-read : (read_program g t).functions ≡ map (read_function (expr_of t.expressions)) t.functions
  unfolding read_program
  functions-read = refl

  pub primitives-read : (read_program g t).primitives ≡ map read_primitive t.primitives
  unfolding read_program
  primitives-read = refl

  pub rows-read : (read_program g t).rows ≡ map read_row t.rows
  unfolding read_program
  rows-read = refl

  pub normalisers-read : (read_program g t).normalisers ≡ map read_normaliser t.normalisers
  unfolding read_program
  normalisers-read = refl

-- a primitive by its number
pub primitive-look : (t : List Cell) (p : ℕ) → primitive_at (map read_primitive t) p ≡ read_primitive (get_or t p no_cell)
primitive-look [] p = refl
primitive-look (c ∷ t) zero = refl
primitive-look (c ∷ t) (suc p) = primitive-look t p

-- what an admitted job's cells have
counted : (ns : List ℕ) (c : Cell) → counts ns c ≡ true → (c.kind < length ns) × (length c.words ≡ get_or ns c.kind 0)
counted ns c e = (
  lt_of c.kind (length ns) (and_left _ (eqb (length c.words) (get_or ns c.kind 0)) e),
  eq_of (length c.words) (get_or ns c.kind 0) (and_right (ltb c.kind (length ns)) _ e),
)

counted-least : (ns : List ℕ) (least : ℕ → ℕ) → ((k : ℕ) → k < length ns → least k ≤ get_or ns k 0) → (c : Cell) → counts ns c ≡ true → least c.kind ≤ length c.words
counted-least ns least h c e = let k = counted ns c e in omega (arith, h c.kind k.0, k.1)

-- each of a list is at least n
abbrev each : ℕ → List ℕ → Bool
each n [] = true
each n (m ∷ ms) = leb n m && each n ms

at_least : (n : ℕ) (ms : List ℕ) → each n ms ≡ true → (k : ℕ) → k < length ms → n ≤ get_or ms k 0
at_least n [] e k l = absurd (omega arith)
at_least n (m ∷ ms) e zero l = le_of n m (and_left _ (each n ms) e)
at_least n (m ∷ ms) e (suc k) l = at_least n ms (and_right (leb n m) _ e) k (omega arith)

-- a table, and its first cells
module _ (J : List ℕ) (k : ℕ) (h : k < 10) where
  pub table-long : length (table_for J k) ≡ count_for J k
  table-long = table-length (sizes_of J) (cells_for J) (cells-length (kinds_of J) (ends_of J) (pool_of J) (cell_count (sizes_of J))) k h

  pub front_long : (n : ℕ) → n ≤ count_for J k → length (take n (table_for J k)) ≡ n
  front_long n l = simp length-take (omega (arith, table-long))

  pub front-whole : (x : ℕ) {n : ℕ} {r : prelude.Option ℕ} → n ≡ count_for J k → r ≡ first_named (take n (table_for J k)) x → r ≡ first_named (table_for J k) x
  front-whole x {n} e q = q ∙ ap (λ (t : List Cell). first_named t x) (take_all n (table_for J k) (omega (arith, table-long)))

module _ {J : List ℕ} (R : Ready J) where
  pub fits : (k : ℕ) → k < 10 → (i : ℕ) → i < count_for J k → get_or (fit_tests (tables_for J)) k passed i (get_or (table_for J k) i no_cell) ≡ true
  fits k h i l = R.admitted.fits k h i (rw (table-long J k h) l)

  module _ {us : List ℕ} (i : ℕ) where
    pub row_words : us ≡ (get_or (tables_for J).rows i no_cell).words → i < (sizes_of J).rows → 2 ≤ length us
    row_words w h = rw w (go (get_or (tables_for J).rows i no_cell) (fits 6 (lit< tt) i h))
      where
        go : (c : Cell) → row_fits c ≡ true → 2 ≤ length c.words
        go c q = le_of 2 (length c.words) (and_left _ (leb (length c.words) 18) (and_right (eqb c.kind 0) _ q))

    pub rule-words : us ≡ (get_or (tables_for J).rules i no_cell).words → i < (sizes_of J).rules → 1 ≤ length us
    rule-words w h = rw w (go (get_or (tables_for J).rules i no_cell) (fits 8 (lit< tt) i h))
      where
        go : (c : Cell) → rule_fits c ≡ true → 1 ≤ length c.words
        go c q =
            let two = le_of 2 (length c.words) (and_right (eqb c.kind 0) _ (and_left _ (leb (word c 1) (length (drop 2 c.words))) (and_left _ (leb (word c 1) 16) (and_left _ (leb (length (rule_actions c)) 64) q)))) in
            omega arith

    pub normaliser-words : us ≡ (get_or (tables_for J).normalisers i no_cell).words → i < (sizes_of J).normalisers → 2 ≤ length us
    normaliser-words w h = rw w (counted-least (2 ∷ []) (λ k. 2) (at_least 2 (2 ∷ []) refl) (get_or (tables_for J).normalisers i no_cell) (fits 7 (lit< tt) i h))

    pub primitive-words : us ≡ (get_or (tables_for J).primitives i no_cell).words → i < (sizes_of J).primitives → 1 ≤ length us
    primitive-words w h =
        let ones : List ℕ = 1 ∷ 1 ∷ 1 ∷ 1 ∷ 1 ∷ 1 ∷ 1 ∷ 1 ∷ 1 ∷ [] in
        rw w (counted-least ones (λ k. 1) (at_least 1 ones refl) (get_or (tables_for J).primitives i no_cell) (fits 5 (lit< tt) i h))

  pub function-counts : (i : ℕ) → i < (sizes_of J).functions → counts (1 ∷ 2 ∷ []) (get_or (tables_for J).functions i no_cell) ≡ true
  function-counts i h = fits 4 (lit< tt) i h

  pub function-refers : (i : ℕ) → i < (sizes_of J).functions → below (sizes_of J).expressions (drop 1 (get_or (tables_for J).functions i no_cell).words) ≡ true
  function-refers i h = R.admitted.refers 4 (lit< tt) i (rw (table-long J 4 (lit< tt)) h)

pub function-words : {c d : Cell} → c ≡ d → counts (1 ∷ 2 ∷ []) d ≡ true → get_or (1 ∷ []) c.kind 2 ≤ length c.words
function-words {c} e h = counted-least (1 ∷ 2 ∷ []) (λ k. get_or (1 ∷ []) k 2) most c (ap (counts (1 ∷ 2 ∷ [])) e ∙ h)
  where
    most : (k : ℕ) → k < 2 → get_or (1 ∷ []) k 2 ≤ get_or (1 ∷ 2 ∷ []) k 0
    most zero l = omega arith
    most (suc zero) l = omega arith
    most (suc (suc k)) l = absurd (omega arith)

-- the merge expression of a function that is admitted
pub merge-within : (n : ℕ) (c : Cell) (f : FunctionView) → counts (1 ∷ 2 ∷ []) c ≡ true → below n (drop 1 c.words) ≡ true
    → ((expr : ℕ → Expr) → function_of expr f ≡ read_function expr c) → (e : ℕ) → f.merge ≡ Some e → e < n
merge-within n c f h b v e q =
    go c.kind c.words (counted (1 ∷ 2 ∷ []) c h) b (ap (view.merge_of leaf) (sym q) ∙ ap (λ (g : Function). g.merge) (v leaf))
  where
    leaf : ℕ → Expr
    leaf i = node i (variable 0) nil

    go : (k : ℕ) (ws : List ℕ) → (k < 2) × (length ws ≡ get_or (1 ∷ 2 ∷ []) k 0) → below n (drop 1 ws) ≡ true → some (leaf e) ≡ get_or (none ∷ []) k (some (leaf (get_or ws 1 0))) → e < n
    go zero ws l b m = let z : ◌≡◌ {A = ℕ} 0 1 = cc in absurd (omega arith)
    go (suc zero) [] l b m = absurd (omega arith)
    go (suc zero) (x ∷ []) l b m = absurd (omega arith)
    go (suc zero) (x ∷ y ∷ ws) l b m = let s : e ≡ y = cc in omega (arith, lt_of y n (and_left _ (below n ws) b))
    go (suc (suc k)) ws l b m = absurd (omega arith)
