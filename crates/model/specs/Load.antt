-- The refusals below 20, by document 01: first by the host, then by the job's writer with the least cell, then for want of room.
use Rattle.std.specs.Prelude.{ℕ, zero, suc, ◌+◌, ◌*◌, ◌%◌, ◌<◌, ◌≡◌, List, [], ◌∷◌, ◌++◌, map, Bool, true, false, not, ◌&&◌, ◌||◌, length, get_or, take, drop, eqb, leb, ltb}
use Rattle.std.proofs.Math.Option.{Option, none, some}
use Rattle.model.specs.Cell.{Cell, no_cell, same_words, same_cell}
use Rattle.model.specs.Term.{Term, Literal, lit, var, app, read_literal, read_term, widths}
use Rattle.model.specs.Program.{Head, literal, variable, constructor, custom, primitive, Binding, Proof, references, substitution, Row, looks_up}
use Rattle.model.specs.Check.{Refusal}
use Rattle.model.specs.Layout.{size_words, Sizes, sizes_of, cell_count, ends_of, Tables, table_list, tables_of}
use Rattle.model.specs.Decode.{word, read_head, read_arguments, read_primitive, read_row, read_normaliser, rule_facts, rule_actions, read_proof}

-- What the caller lends: C and W are the lengths of the store's kinds and pool. Of the index only its slots count.
pub record Lent : Type 0 where
  pub kinds : ℕ
  pub ends : ℕ
  pub pool : ℕ
  pub index : ℕ
  pub scratch : ℕ

-- 1: under twelve words, or a length that differs from the sizes.
abbrev pub wrong_length : List ℕ → Bool
wrong_length ws = ltb (length ws) size_words || not (eqb (length ws) (size_words + 2 * cell_count (sizes_of ws) + (sizes_of ws).pool))

-- 2: a size too large.
abbrev pub too_large : Sizes → Bool
too_large z =
    ltb 16384 z.terms || ltb 4096 z.expressions || ltb 4096 z.facts || ltb 4096 z.actions ||
    ltb 256 z.globals || ltb z.actions z.globals || ltb 4096 z.functions || ltb 4096 z.primitives ||
    ltb 4096 z.rows || ltb 4096 z.normalisers || ltb 4096 z.rules || ltb 4096 z.proofs || ltb 131072 z.pool

-- The mode: 0 as the Rust checks, 1 strict.
abbrev pub is_strict : ℕ → Bool
is_strict mode = eqb mode 1

-- 11: a mode other than 0 and 1.
abbrev pub unknown_mode : ℕ → Bool
unknown_mode mode = ltb 1 mode

-- 5: ends that rise from `start` and finish at the pool's end.
abbrev pub ends_rise : ℕ → List ℕ → ℕ → Bool
ends_rise start [] pool = eqb start pool
ends_rise start (e ∷ es) pool = leb start e && ends_rise e es pool

-- 6: a known kind, with the operand count that the list gives for it.
abbrev pub counts : List ℕ → Cell → Bool
counts ns c = ltb c.kind (length ns) && eqb (length c.words) (get_or ns c.kind 0)

-- From `least` to `most` words.
abbrev pub between : ℕ → ℕ → Cell → Bool
between least most c = leb least (length c.words) && leb (length c.words) most

-- Unit 0 0; bool 0 or 1, high 0; a signed 64-bit integer; a string number, high 0.
abbrev pub literal_fits : Literal → Bool
literal_fits l = get_or ((eqb l.low 0 && eqb l.high 0) ∷ (ltb l.low 2 && eqb l.high 0) ∷ true ∷ eqb l.high 0 ∷ []) l.kind false

-- Three words that make a literal.
abbrev pub literal_cell : Cell → Bool
literal_cell c = eqb (length c.words) 3 && literal_fits (read_literal c.words)

abbrev pub term_fits : Cell → Bool
term_fits c = get_or (literal_cell c ∷ between 1 1 c ∷ between 1 17 c ∷ []) c.kind false

abbrev pub expr_fits : Cell → Bool
expr_fits c = get_or (literal_cell c ∷ between 1 1 c ∷ between 1 17 c ∷ between 1 17 c ∷ between 1 17 c ∷ []) c.kind false

-- A call with an argument.
abbrev pub is_set_call : Cell → Bool
is_set_call e = ltb 1 e.kind && ltb 0 (length (read_arguments e))

-- A set's expression is a call with an argument, where it is in range.
abbrev pub set_fits : List Cell → Cell → Bool
set_fits exprs c = not (eqb c.kind 2) || leb (length exprs) (word c 0) || is_set_call (get_or exprs (word c 0) no_cell)

abbrev pub action_fits : List Cell → Cell → Bool
action_fits exprs c = counts (2 ∷ 2 ∷ 1 ∷ 1 ∷ 0 ∷ 0 ∷ []) c && set_fits exprs c

abbrev pub row_fits : Cell → Bool
row_fits c = eqb c.kind 0 && between 2 18 c

abbrev pub rule_fits : Cell → Bool
rule_fits c =
    eqb c.kind 0 && leb 2 (length c.words) && leb (word c 1) (length (drop 2 c.words)) &&
    leb (word c 1) 16 && leb (length (rule_actions c)) 64

-- The words of a rule's proof behind its premises are pairs, at most 32.
abbrev pub rule_proof_fits : Cell → Bool
rule_proof_fits c =
    leb 4 (length c.words) && leb (word c 3) (length (drop 4 c.words)) && leb (word c 3) 4096 &&
    leb (length (drop (word c 3) (drop 4 c.words))) 64 && eqb (length (drop (word c 3) (drop 4 c.words)) % 2) 0

abbrev pub proof_fits : Cell → Bool
proof_fits c = (eqb c.kind 1 && rule_proof_fits c) || (not (eqb c.kind 1) && counts (2 ∷ 0 ∷ 5 ∷ 4 ∷ 3 ∷ 5 ∷ 3 ∷ 2 ∷ []) c)

-- All numbers of a list lie below n.
abbrev pub below : ℕ → List ℕ → Bool
below n [] = true
below n (x ∷ xs) = ltb x n && below n xs

-- 7: references in range, and lower than the cell's own number in its table where document 01 says so.
abbrev pub term_refers : ℕ → Term → Bool
term_refers i (lit l) = true
term_refers i (var x) = true
term_refers i (app f xs) = below i xs

abbrev pub head_refers : ℕ → Head → Bool
head_refers primitives (literal l) = true
head_refers primitives (variable x) = true
head_refers primitives (constructor f) = true
head_refers primitives (custom f) = true
head_refers primitives (primitive p) = ltb p primitives

abbrev pub expr_refers : ℕ → ℕ → Cell → Bool
expr_refers primitives i c = head_refers primitives (read_head c) && below i (read_arguments c)

-- The expression numbers of an action: a let has its name first.
abbrev pub action_refers : ℕ → Cell → Bool
action_refers expressions c = below expressions (get_or (drop 1 c.words ∷ []) c.kind c.words)

abbrev pub row_refers : ℕ → ℕ → Row → Bool
row_refers primitives terms r = ltb r.primitive primitives && ltb r.result terms && below terms r.arguments

abbrev pub rule_refers : ℕ → ℕ → Cell → Bool
rule_refers facts actions c = below facts (rule_facts c) && below actions (rule_actions c)

abbrev pub proof_refers : ℕ → ℕ → Proof → Bool
proof_refers terms i p =
    ltb p.claim.lhs terms && ltb p.claim.rhs terms && below i (references p.justification) &&
    below terms (map (λ b. b.term) (substitution p.justification))

-- 8: the primitive has a validator, and it looks rows up.
abbrev pub primitive_looks_up : List Cell → ℕ → Bool
primitive_looks_up primitives p = looks_up (read_primitive (get_or primitives p no_cell))

module _ {A : Type 0} where
  abbrev pub any : (A → Bool) → List A → Bool
  any f [] = false
  any f (x ∷ xs) = f x || any f xs

-- 9: no cell before this one is the same.
abbrev pub is_first : (Cell → Cell → Bool) → List Cell → ℕ → Cell → Bool
is_first same table i c = not (any (λ e. same e c) (take i table))

-- Rows by primitive and arguments, normalisers by head.
abbrev pub same_row : Cell → Cell → Bool
same_row a b = eqb (word a 0) (word b 0) && same_words (drop 2 a.words) (drop 2 b.words)

abbrev pub same_head : Cell → Cell → Bool
same_head a b = eqb (word a 0) (word b 0)

-- No name is bound twice.
abbrev pub binds_once : List Binding → Bool
binds_once [] = true
binds_once (b ∷ bs) = not (any (λ c. eqb b.name c.name) bs) && binds_once bs

-- 10: too little room, too much, unequal arrays, or scratch short.
abbrev pub no_room : Sizes → List Term → Lent → Bool
no_room z terms l =
    ltb l.kinds z.terms || ltb l.pool (widths terms) || ltb 65536 l.kinds || ltb 1048576 l.pool ||
    not (eqb l.kinds l.ends) || ltb l.scratch (2 * (l.kinds + z.proofs))

-- n is one of p, 2 p, 4 p, .., of which f are tried.
unfoldable pub doubles : ℕ → ℕ → ℕ → Bool
doubles zero p n = false
doubles (suc f) p n = elim (eqb p n) [ true ↦ true | false ↦ doubles f (p * 2) n ]

-- n is a power of two, below 2 to the 64.
abbrev pub is_power : ℕ → Bool
is_power n = doubles 64 1 n

-- 12: fewer than two slots for each cell of the store, or a slot count that is no power of two.
abbrev pub wrong_slots : Lent → Bool
wrong_slots l = ltb l.index (2 * l.kinds) || not (is_power l.index)

-- The refusal of a host's fault, which has no fields.
unfoldable pub refused_if : Bool → ℕ → Option Refusal
refused_if false n = none
refused_if true n = some (record { number = n; fields = [] })

-- The refusal that names the first cell marked, where the first mark is that of cell i.
unfoldable pub first_marked : ℕ → ℕ → List Bool → Option Refusal
first_marked n i [] = none
first_marked n i (false ∷ ms) = first_marked n (suc i) ms
first_marked n i (true ∷ ms) = some (record { number = n; fields = i ∷ [] })

-- The first refusal that a list of tests gives.
abbrev pub first_refusal : List (Unit {0} → Option Refusal) → Option Refusal
first_refusal [] = none
first_refusal (t ∷ ts) = elim (t tt) [ none ↦ first_refusal ts | some r ↦ some r ]

-- For each cell of a table, by its number from i on, whether the test fails.
abbrev pub fails_from : ℕ → (ℕ → Cell → Bool) → List Cell → List Bool
fails_from i f [] = []
fails_from i f (c ∷ cs) = not (f i c) ∷ fails_from (suc i) f cs

-- The same over several tables, each with its test.
abbrev pub marks : List (ℕ → Cell → Bool) → List (List Cell) → List Bool
marks [] ts = []
marks (f ∷ fs) [] = []
marks (f ∷ fs) (t ∷ ts) = fails_from 0 f t ++ marks fs ts

-- A test that every cell passes.
abbrev pub passed : ℕ → Cell → Bool
passed i c = true

-- The test of each table for 6, by number and cell: a known kind with its operand count.
abbrev pub fit_tests : Tables → List (ℕ → Cell → Bool)
fit_tests t =
    (λ _. term_fits) ∷
    (λ _. expr_fits) ∷
    (λ _. counts (2 ∷ 1 ∷ [])) ∷
    (λ _. action_fits t.expressions) ∷
    (λ _. counts (1 ∷ 2 ∷ [])) ∷
    (λ _. counts (1 ∷ 1 ∷ 1 ∷ 1 ∷ 1 ∷ 1 ∷ 1 ∷ 1 ∷ 1 ∷ [])) ∷
    (λ _. row_fits) ∷
    (λ _. counts (2 ∷ [])) ∷
    (λ _. rule_fits) ∷
    (λ _. proof_fits) ∷ []

-- For 7: references in range, and lower.
abbrev pub refer_tests : Sizes → List (ℕ → Cell → Bool)
refer_tests z =
    (λ i c. term_refers i (read_term c)) ∷
    expr_refers z.primitives ∷
    (λ _ c. below z.expressions c.words) ∷
    (λ _. action_refers z.expressions) ∷
    (λ _ c. below z.expressions (drop 1 c.words)) ∷
    passed ∷
    (λ _ c. row_refers z.primitives z.terms (read_row c)) ∷
    (λ _ c. ltb (read_normaliser c).primitive z.primitives) ∷
    (λ _. rule_refers z.facts z.actions) ∷
    (λ i c. proof_refers z.terms i (read_proof c)) ∷ []

-- For 8: rows and normalisers on a primitive whose validator looks rows up.
abbrev pub valid_tests : Tables → List (ℕ → Cell → Bool)
valid_tests t =
    passed ∷ passed ∷ passed ∷ passed ∷ passed ∷ passed ∷
    (λ _ c. primitive_looks_up t.primitives (read_row c).primitive) ∷
    (λ _ c. primitive_looks_up t.primitives (read_normaliser c).primitive) ∷
    passed ∷ passed ∷ []

-- For 9: terms, rows and normalisers are first of their kind, and no substitution binds a name twice.
abbrev pub once_tests : Tables → List (ℕ → Cell → Bool)
once_tests t =
    is_first same_cell t.terms ∷
    passed ∷ passed ∷ passed ∷ passed ∷ passed ∷
    is_first same_row t.rows ∷
    is_first same_head t.normalisers ∷
    passed ∷
    (λ _ c. binds_once (substitution (read_proof c).justification)) ∷ []

-- The tables of an admitted job: every cell passes its table's tests for 6 to 9.
pub record Admitted (z : Sizes) (t : Tables) : Type 0 where
  pub fits : (k : ℕ) → k < 10 → (i : ℕ) → i < length (get_or (table_list t) k []) → get_or (fit_tests t) k passed i (get_or (get_or (table_list t) k []) i no_cell) ≡ true
  pub refers : (k : ℕ) → k < 10 → (i : ℕ) → i < length (get_or (table_list t) k []) → get_or (refer_tests z) k passed i (get_or (get_or (table_list t) k []) i no_cell) ≡ true
  pub validated : (k : ℕ) → k < 10 → (i : ℕ) → i < length (get_or (table_list t) k []) → get_or (valid_tests t) k passed i (get_or (get_or (table_list t) k []) i no_cell) ≡ true
  pub once : (k : ℕ) → k < 10 → (i : ℕ) → i < length (get_or (table_list t) k []) → get_or (once_tests t) k passed i (get_or (get_or (table_list t) k []) i no_cell) ≡ true

-- The refusal of the job's writer: the least cell, over all tables, that fails its table's test.
abbrev pub first_failing : ℕ → List (ℕ → Cell → Bool) → Tables → Option Refusal
first_failing n tests t = first_marked n 0 (marks tests (table_list t))

-- The tests for the numbers below 20, in their order: from 1 to 10 the lowest number that applies, with 11 right after 3, and 12 last.
abbrev pub load_tests : List ℕ → Sizes → Tables → ℕ → ℕ → Lent → List (Unit {0} → Option Refusal)
load_tests ws z t asked mode lent =
    (λ _. refused_if (wrong_length ws) 1) ∷
    (λ _. refused_if (too_large z) 2) ∷
    (λ _. refused_if (leb z.proofs asked) 3) ∷
    (λ _. refused_if (unknown_mode mode) 11) ∷
    (λ _. refused_if (not (ends_rise 0 (ends_of ws) z.pool)) 5) ∷
    (λ _. first_failing 6 (fit_tests t) t) ∷
    (λ _. first_failing 7 (refer_tests z) t) ∷
    (λ _. first_failing 8 (valid_tests t) t) ∷
    (λ _. first_failing 9 (once_tests t) t) ∷
    (λ _. refused_if (no_room z (map read_term t.terms) lent) 10) ∷
    (λ _. refused_if (wrong_slots lent) 12) ∷ []

-- The refusal below 20; none for an admitted job.
unfoldable pub load_refusal : List ℕ → ℕ → ℕ → Lent → Option Refusal
load_refusal ws asked mode lent = first_refusal (load_tests ws (sizes_of ws) (tables_of ws) asked mode lent)
