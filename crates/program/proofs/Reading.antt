-- Laws of the readers: what an admitted job's cells have, and the bounds of the numbers in them.
use mathlib.Core.Path.{◌≡◌, sym, ap, subst, ◌∙◌}
use mathlib.Core.Bool.{true, ◌&&◌}
use mathlib.Core.List.{List, [], ◌∷◌}
use Prim.Native.Nat.{ℕ, zero, suc, ◌+◌, ◌≤◌, ◌<◌}
use native.Mathlib.Omega.{arith}
use native.Mathlib.Nat.{not-suc-le-zero, le_of_suc-le-suc}
use lib.Dec.{eqb, leb, ltb, lit<}
use lib.ListN.{length, get_or, drop, length-take, length-drop, get_or-map}
use Rattle.model.specs.Cell.{Cell, no_cell}
use Rattle.model.specs.Layout.{sizes_of}
use Rattle.model.specs.Program as program
use Rattle.model.specs.Program.{variable, Expr, node, nil, equal, bare, bind, union, run}
use Rattle.model.specs.Decode.{word, expr_of, read_head, read_arguments, read_fact, read_action, rule_facts, rule_actions, read_rule, read_program}
use Rattle.model.specs.Load.{counts, below, head_refers, expr_fits, expr_refers, set_fits, action_fits, action_refers, rule_fits, passed, refer_tests}
use Rattle.model.proofs.Tests.{eq_of, lt_of, le_of, and_left, and_right, never}
use Rattle.decode.specs.View.{cell, head_of, fact_of, action_of}
use Rattle.decode.specs.declared.Head.{Head}
use Rattle.decode.specs.declared.Fact.{Fact as FactView}
use Rattle.decode.specs.declared.Action.{Action as ActionView}
use Rattle.program.specs.Ready.{Ready, tables_for, table_for, count_for, rule_for}
use Rattle.program.specs.Read.{fact_for, action_for, HeadAt, ArgumentsAt, FactAt, ActionAt, RuleFactsAt, RuleActionsAt}
use Rattle.program.proofs.Laws.{table-long, fits}

-- a number of a list whose numbers lie below n
pub below_at : (n : ℕ) (xs : List ℕ) → below n xs ≡ true → (i : ℕ) → i < length xs → get_or xs i 0 < n
below_at n [] e i h = absurd (not-suc-le-zero h)
below_at n (x ∷ xs) e zero h = lt_of x n (and_left _ (below n xs) e)
below_at n (x ∷ xs) e (suc i) h = below_at n xs (and_right (ltb x n) _ e) i (le_of_suc-le-suc h)

-- an expression's cell that fits
expr-long : (c : Cell) → expr_fits c ≡ true → (get_or (3 ∷ []) c.kind 1 ≤ length c.words) × (length (read_arguments c) ≤ 16)
expr-long c e = go c.kind c.words e
  where
    most : (ws : List ℕ) → (leb 1 (length ws) && leb (length ws) 17) ≡ true → (1 ≤ length ws) × (length (drop 1 ws) ≤ 16)
    most ws q =
        let a = le_of 1 (length ws) (and_left _ (leb (length ws) 17) q) in
        let b = le_of (length ws) 17 (and_right (leb 1 (length ws)) _ q) in
        (a, omega (arith, length-drop 1 ws))

    go : (k : ℕ) (ws : List ℕ) → expr_fits (cell k ws) ≡ true → (get_or (3 ∷ []) k 1 ≤ length ws) × (length (read_arguments (cell k ws)) ≤ 16)
    go zero ws q = let n = eq_of (length ws) 3 (and_left _ _ q) in (omega arith, omega arith)
    go (suc zero) ws q = let n = le_of 1 (length ws) (and_left _ (leb (length ws) 1) q) in (n, omega arith)
    go (suc (suc zero)) ws q = most ws q
    go (suc (suc (suc zero))) ws q = most ws q
    go (suc (suc (suc (suc zero)))) ws q = most ws q
    go (suc (suc (suc (suc (suc k))))) ws q = never q

-- an expression by its number alone
abbrev leaf : ℕ → Expr
leaf i = node i (variable 0) nil

-- the numbers in a fact's cell that is admitted
module _ (n : ℕ) (c : Cell) (f : FactView) (counted : counts (2 ∷ 1 ∷ []) c ≡ true) (refers : below n c.words ≡ true) (is : fact_of leaf 0 f ≡ read_fact leaf 0 c) where
  equal-within : (l r : ℕ) → f ≡ FactView.Equal l r → (l < n) × (r < n)
  equal-within l r q = go c.kind c.words counted refers (ap (fact_of leaf 0) (sym q) ∙ is)
    where
      go : (k : ℕ) (ws : List ℕ) → counts (2 ∷ 1 ∷ []) (cell k ws) ≡ true → below n ws ≡ true → equal 0 (leaf l) (leaf r) ≡ read_fact leaf 0 (cell k ws) → (l < n) × (r < n)
      go zero ws h b e =
          let len = eq_of (length ws) 2 (and_right (ltb 0 2) _ h) in
          let x : l ≡ get_or ws 0 0 = cc in
          let y : r ≡ get_or ws 1 0 = cc in
          (omega (arith, below_at n ws b 0 (omega arith)), omega (arith, below_at n ws b 1 (omega arith)))
      go (suc k) ws h b e = let z : ◌≡◌ {A = ℕ} 0 1 = cc in absurd (omega arith)

  bare-within : (x : ℕ) → f ≡ FactView.Bare x → x < n
  bare-within x q = go c.kind c.words counted refers (ap (fact_of leaf 0) (sym q) ∙ is)
    where
      go : (k : ℕ) (ws : List ℕ) → counts (2 ∷ 1 ∷ []) (cell k ws) ≡ true → below n ws ≡ true → bare 0 (leaf x) ≡ read_fact leaf 0 (cell k ws) → x < n
      go zero ws h b e = let z : ◌≡◌ {A = ℕ} 0 1 = cc in absurd (omega arith)
      go (suc zero) ws h b e =
          let len = eq_of (length ws) 1 (and_right (ltb 1 2) _ h) in
          let y : x ≡ get_or ws 0 0 = cc in
          omega (arith, below_at n ws b 0 (omega arith))
      go (suc (suc k)) ws h b e = absurd (omega (arith, lt_of (suc (suc k)) 2 (and_left _ (eqb (length ws) 0) h)))

fact-long : (c : Cell) → counts (2 ∷ 1 ∷ []) c ≡ true → get_or (2 ∷ []) c.kind 1 ≤ length c.words
fact-long c e = go c.kind c.words e
  where
    go : (k : ℕ) (ws : List ℕ) → counts (2 ∷ 1 ∷ []) (cell k ws) ≡ true → get_or (2 ∷ []) k 1 ≤ length ws
    go zero ws h = omega (arith, eq_of (length ws) 2 (and_right (ltb 0 2) _ h))
    go (suc zero) ws h = omega (arith, eq_of (length ws) 1 (and_right (ltb 1 2) _ h))
    go (suc (suc k)) ws h = absurd (omega (arith, lt_of (suc (suc k)) 2 (and_left _ (eqb (length ws) 0) h)))

-- the numbers in an action's cell that is admitted
abbrev action_counts : List ℕ
action_counts = 2 ∷ 2 ∷ 1 ∷ 1 ∷ 0 ∷ 0 ∷ []

module _ (n : ℕ) (c : Cell) (a : ActionView) (counted : counts action_counts c ≡ true) (refers : action_refers n c ≡ true) (is : action_of leaf a ≡ read_action leaf c) where
  bind-within : (x y : ℕ) → a ≡ ActionView.Let x y → y < n
  bind-within x y q = go c.kind c.words counted refers (ap (action_of leaf) (sym q) ∙ is)
    where
      go : (k : ℕ) (ws : List ℕ) → counts action_counts (cell k ws) ≡ true → action_refers n (cell k ws) ≡ true → bind x (leaf y) ≡ read_action leaf (cell k ws) → y < n
      go zero [] h b e = never h
      go zero (u ∷ ws) h b e =
          let len = eq_of (length (u ∷ ws)) 2 (and_right (ltb 0 6) _ h) in
          let w : y ≡ get_or ws 0 0 = cc in
          omega (arith, below_at n ws b 0 (omega arith))
      go (suc zero) ws h b e = let z : ◌≡◌ {A = ℕ} 0 1 = cc in absurd (omega arith)
      go (suc (suc zero)) ws h b e = let z : ◌≡◌ {A = ℕ} 0 1 = cc in absurd (omega arith)
      go (suc (suc (suc zero))) ws h b e = let z : ◌≡◌ {A = ℕ} 0 1 = cc in absurd (omega arith)
      go (suc (suc (suc (suc k)))) ws h b e = let z : ◌≡◌ {A = ℕ} 0 1 = cc in absurd (omega arith)

  union-within : (l r : ℕ) → a ≡ ActionView.Union l r → (l < n) × (r < n)
  union-within l r q = go c.kind c.words counted refers (ap (action_of leaf) (sym q) ∙ is)
    where
      go : (k : ℕ) (ws : List ℕ) → counts action_counts (cell k ws) ≡ true → action_refers n (cell k ws) ≡ true → union (leaf l) (leaf r) ≡ read_action leaf (cell k ws) → (l < n) × (r < n)
      go zero ws h b e = let z : ◌≡◌ {A = ℕ} 0 1 = cc in absurd (omega arith)
      go (suc zero) ws h b e =
          let len = eq_of (length ws) 2 (and_right (ltb 1 6) _ h) in
          let x : l ≡ get_or ws 0 0 = cc in
          let y : r ≡ get_or ws 1 0 = cc in
          (omega (arith, below_at n ws b 0 (omega arith)), omega (arith, below_at n ws b 1 (omega arith)))
      go (suc (suc zero)) ws h b e = let z : ◌≡◌ {A = ℕ} 0 1 = cc in absurd (omega arith)
      go (suc (suc (suc zero))) ws h b e = let z : ◌≡◌ {A = ℕ} 0 1 = cc in absurd (omega arith)
      go (suc (suc (suc (suc k)))) ws h b e = let z : ◌≡◌ {A = ℕ} 0 1 = cc in absurd (omega arith)

  run-within : (x : ℕ) → a ≡ ActionView.Run x → x < n
  run-within x q = go c.kind c.words counted refers (ap (action_of leaf) (sym q) ∙ is)
    where
      go : (k : ℕ) (ws : List ℕ) → counts action_counts (cell k ws) ≡ true → action_refers n (cell k ws) ≡ true → run (leaf x) ≡ read_action leaf (cell k ws) → x < n
      go zero ws h b e = let z : ◌≡◌ {A = ℕ} 0 1 = cc in absurd (omega arith)
      go (suc zero) ws h b e = let z : ◌≡◌ {A = ℕ} 0 1 = cc in absurd (omega arith)
      go (suc (suc zero)) ws h b e =
          let len = eq_of (length ws) 1 (and_right (ltb 2 6) _ h) in
          let y : x ≡ get_or ws 0 0 = cc in
          omega (arith, below_at n ws b 0 (omega arith))
      go (suc (suc (suc zero))) ws h b e =
          let len = eq_of (length ws) 1 (and_right (ltb 3 6) _ h) in
          let y : x ≡ get_or ws 0 0 = cc in
          omega (arith, below_at n ws b 0 (omega arith))
      go (suc (suc (suc (suc k)))) ws h b e = let z : ◌≡◌ {A = ℕ} 0 1 = cc in absurd (omega arith)

action-long : (c : Cell) → counts action_counts c ≡ true → get_or (2 ∷ 2 ∷ 1 ∷ 1 ∷ []) c.kind 0 ≤ length c.words
action-long c e = go c.kind c.words e
  where
    go : (k : ℕ) (ws : List ℕ) → counts action_counts (cell k ws) ≡ true → get_or (2 ∷ 2 ∷ 1 ∷ 1 ∷ []) k 0 ≤ length ws
    go zero ws h = omega (arith, eq_of (length ws) 2 (and_right (ltb 0 6) _ h))
    go (suc zero) ws h = omega (arith, eq_of (length ws) 2 (and_right (ltb 1 6) _ h))
    go (suc (suc zero)) ws h = omega (arith, eq_of (length ws) 1 (and_right (ltb 2 6) _ h))
    go (suc (suc (suc zero))) ws h = omega (arith, eq_of (length ws) 1 (and_right (ltb 3 6) _ h))
    go (suc (suc (suc (suc k)))) ws h = omega arith

-- a rule's cell that fits
rule-long : (c : Cell) → rule_fits c ≡ true → (2 + word c 1 ≤ length c.words) × (length (rule_facts c) ≤ 16) × (length (rule_actions c) ≤ 64)
rule-long c q =
    let front = and_left _ (leb (length (rule_actions c)) 64) q in
    let inner = and_left _ (leb (word c 1) 16) front in
    let two = le_of 2 (length c.words) (and_right (eqb c.kind 0) _ (and_left _ (leb (word c 1) (length (drop 2 c.words))) inner)) in
    let long = le_of (word c 1) (length (drop 2 c.words)) (and_right (eqb c.kind 0 && leb 2 (length c.words)) _ inner) in
    let few = le_of (word c 1) 16 (and_right (eqb c.kind 0 && leb 2 (length c.words) && leb (word c 1) (length (drop 2 c.words))) _ front) in
    let most = le_of (length (rule_actions c)) 64 (and_right (eqb c.kind 0 && leb 2 (length c.words) && leb (word c 1) (length (drop 2 c.words)) && leb (word c 1) 16) _ q) in
    (omega (arith, length-drop 2 c.words), omega (arith, length-take (word c 1) (drop 2 c.words)), most)

-- the cells of an admitted job, as they are read
module _ {J : List ℕ} (R : Ready J) where
  pub refers : (k : ℕ) → k < 10 → (i : ℕ) → i < count_for J k → get_or (refer_tests (sizes_of J)) k passed i (get_or (table_for J k) i no_cell) ≡ true
  refers k h i l = R.admitted.refers k h i (rw (table-long J k h) l)

  module _ {c : Cell} (e : ℕ) (h : e < (sizes_of J).expressions) (q : c ≡ get_or (tables_for J).expressions e no_cell) where
    expr-fits : expr_fits c ≡ true
    expr-fits = ap expr_fits q ∙ fits R 1 (lit< tt) e h

    expr-refers : expr_refers (sizes_of J).primitives e c ≡ true
    expr-refers = ap (expr_refers (sizes_of J).primitives e) q ∙ refers 1 (lit< tt) e h

    pub head-words : get_or (3 ∷ []) c.kind 1 ≤ length c.words
    head-words = (expr-long c expr-fits).0

    pub arguments-words : 1 ≤ length c.words
    arguments-words = go c.kind head-words
      where
        go : (k : ℕ) → get_or (3 ∷ []) k 1 ≤ length c.words → 1 ≤ length c.words
        go zero l = omega arith
        go (suc k) l = l

    pub head_read : (r : Head) → head_of r ≡ read_head c → HeadAt J e r
    head_read r i = record {
      is = i ∙ ap read_head q;
      primitive = λ p s. lt_of p (sizes_of J).primitives (ap (head_refers (sizes_of J).primitives) (ap head_of (sym s) ∙ i) ∙ and_left _ (below e (read_arguments c)) expr-refers);
    }

    pub arguments-read : {xs : List ℕ} → xs ≡ read_arguments c → ArgumentsAt J e xs
    arguments-read {xs} i = record {
      is = i ∙ ap read_arguments q;
      few = subst (λ (ys : List ℕ). length ys ≤ 16) (sym i) (expr-long c expr-fits).1;
      lower = below_at e xs (ap (below e) i ∙ and_right (head_refers (sizes_of J).primitives (read_head c)) _ expr-refers);
    }

  module _ {c : Cell} (i : ℕ) (h : i < (sizes_of J).facts) (q : c ≡ get_or (tables_for J).facts i no_cell) where
    fact-counts : counts (2 ∷ 1 ∷ []) c ≡ true
    fact-counts = ap (counts (2 ∷ 1 ∷ [])) q ∙ fits R 2 (lit< tt) i h

    fact-refers : below (sizes_of J).expressions c.words ≡ true
    fact-refers = ap (λ (x : Cell). below (sizes_of J).expressions x.words) q ∙ refers 2 (lit< tt) i h

    pub fact-words : get_or (2 ∷ []) c.kind 1 ≤ length c.words
    fact-words = fact-long c fact-counts

    pub fact-read : (f : FactView) → ((expr : ℕ → Expr) (i : ℕ) → fact_of expr i f ≡ read_fact expr i c) → FactAt J i f
    fact-read f r = record {
      is = r (expr_of (tables_for J).expressions) i ∙ ap (read_fact (expr_of (tables_for J).expressions) i) q;
      equal = equal-within (sizes_of J).expressions c f fact-counts fact-refers (r leaf 0);
      bare = bare-within (sizes_of J).expressions c f fact-counts fact-refers (r leaf 0);
    }

  module _ {c : Cell} (i : ℕ) (h : i < (sizes_of J).actions) (q : c ≡ get_or (tables_for J).actions i no_cell) where
    action-counts : counts action_counts c ≡ true
    action-counts = and_left _ (set_fits (tables_for J).expressions c) (ap (action_fits (tables_for J).expressions) q ∙ fits R 3 (lit< tt) i h)

    action-refers : action_refers (sizes_of J).expressions c ≡ true
    action-refers = ap (action_refers (sizes_of J).expressions) q ∙ refers 3 (lit< tt) i h

    pub action-words : get_or (2 ∷ 2 ∷ 1 ∷ 1 ∷ []) c.kind 0 ≤ length c.words
    action-words = action-long c action-counts

    pub action-read : (a : ActionView) → ((expr : ℕ → Expr) → action_of expr a ≡ read_action expr c) → ActionAt J i a
    action-read a r = record {
      is = r (expr_of (tables_for J).expressions) ∙ ap (read_action (expr_of (tables_for J).expressions)) q;
      bind = bind-within (sizes_of J).expressions c a action-counts action-refers (r leaf);
      union = union-within (sizes_of J).expressions c a action-counts action-refers (r leaf);
      run = run-within (sizes_of J).expressions c a action-counts action-refers (r leaf);
    }

  module _ {us : List ℕ} (i : ℕ) (h : i < (sizes_of J).rules) (q : us ≡ (get_or (tables_for J).rules i no_cell).words) where
    rule_fits_lem : (2 + word (get_or (tables_for J).rules i no_cell) 1 ≤ length (get_or (tables_for J).rules i no_cell).words)
        × (length (rule_facts (get_or (tables_for J).rules i no_cell)) ≤ 16) × (length (rule_actions (get_or (tables_for J).rules i no_cell)) ≤ 64)
    rule_fits_lem = rule-long (get_or (tables_for J).rules i no_cell) (fits R 8 (lit< tt) i h)

    rule-refers : (below (sizes_of J).facts (rule_facts (get_or (tables_for J).rules i no_cell)) && below (sizes_of J).actions (rule_actions (get_or (tables_for J).rules i no_cell))) ≡ true
    rule-refers = refers 8 (lit< tt) i h

    pub rule-operands : 2 + get_or us 1 0 ≤ length us
    rule-operands = subst (λ (ws : List ℕ). 2 + get_or ws 1 0 ≤ length ws) (sym q) rule_fits_lem.0

    pub rule-facts-read : {xs : List ℕ} → xs ≡ rule_facts (cell 0 us) → RuleFactsAt J i xs
    rule-facts-read {xs} r = let s = r ∙ ap (λ (ws : List ℕ). rule_facts (cell 0 ws)) q in
        record {
          is = s;
          few = subst (λ (ys : List ℕ). length ys ≤ 16) (sym s) rule_fits_lem.1;
          within = below_at (sizes_of J).facts xs (ap (below (sizes_of J).facts) s ∙ and_left _ _ rule-refers);
        }

    pub rule-actions-read : {xs : List ℕ} → xs ≡ rule_actions (cell 0 us) → RuleActionsAt J i xs
    rule-actions-read {xs} r = let s = r ∙ ap (λ (ws : List ℕ). rule_actions (cell 0 ws)) q in
        record {
          is = s;
          few = subst (λ (ys : List ℕ). length ys ≤ 64) (sym s) rule_fits_lem.2;
          within = below_at (sizes_of J).actions xs (ap (below (sizes_of J).actions) s ∙ and_right (below (sizes_of J).facts (rule_facts (get_or (tables_for J).rules i no_cell))) _ rule-refers);
        }

-- rule r, from its cell
pub rule-for : (J : List ℕ) (r : ℕ) → rule_for J r ≡ read_rule (fact_for J) (action_for J) (get_or (tables_for J).rules r no_cell)
unfolding read_program
rule-for J r = get_or-map (read_rule (fact_for J) (action_for J)) (tables_for J).rules r no_cell

pub rule-name-read : (J : List ℕ) (r : ℕ) {us : List ℕ} {x : ℕ} → us ≡ (get_or (tables_for J).rules r no_cell).words
    → ((fact : ℕ → program.Fact) (action : ℕ → program.Action) → x ≡ (read_rule fact action (cell 0 us)).name) → x ≡ (rule_for J r).name
rule-name-read J r q h =
    h (fact_for J) (action_for J) ∙ ap (λ (ws : List ℕ). get_or ws 0 0) q ∙ ap (λ (t : program.Rule). t.name) (sym (rule-for J r))
