-- Ordinary facts: the values of a call's arguments, what a fact asks its premise to prove, and whether the premise proves it.
use Rattle.std.specs.Prelude as prelude
use Rattle.std.specs.Prelude.{Some, None}
use mathlib.Core.Path.{◌≡◌, refl, sym, ap, ap₂, subst, ◌∙◌}
use mathlib.Core.Bool.{Bool, true, false, ◌&&◌}
use mathlib.Core.List.{List, [], ◌∷◌, ◌++◌}
use mathlib.Core.Option.{Option, none, some}
use Prim.Native.Nat.{ℕ, ◌+◌, ◌<◌, ◌≤◌}
use native.Mathlib.Numerals.{add-one}
use lib.Dec.{eqb}
use lib.ListN.{length, get_or, set, take, length-set}
use lib.Seq.{take-suc-set}
use Rattle.model.specs.Layout.{sizes_of}
use Rattle.model.specs.Term.{Term, app}
use Rattle.model.specs.Program.{Expr, Exprs, Fact, equal, bare, Proposition, Binding, Program}
use Rattle.model.specs.Decode.{arguments_by}
use Rattle.model.specs.Check.{Outcome, ok, refused, Check, and_then, pure, or_refuse, check_that, Room, add_node}
use Rattle.model.specs.Evaluate.{lookup, same, eval_fact_expr, eval_fact_exprs}
use Rattle.model.specs.Fact as model
use Rattle.model.specs.Fact.{args_of, function_fact, wanted_equality, wanted, matches_equality, matches, check_fact_matches_proposition, function_fact_by}
use Rattle.index.specs.declared.Fill.{Fill}
use Rattle.decode.specs.View.{proposition_of}
use Rattle.termdag.specs.Store.{terms_in, Indexed, room_of}
use Rattle.memo.specs.Memo.{Past, Started}
use Rattle.outcome.specs.Does.{passed, outcome_of, Does}
use Rattle.outcome.specs.declared.Refusal.{Refusal}
use Rattle.outcome.specs.declared.Checked.{Checked}
use Rattle.outcome.proofs.Laws.{does-here, does-map}
use Rattle.program.specs.Ready.{program_for, option_of}
use Rattle.program.specs.Read.{expr_for, arguments_for}
use Rattle.evaluate.specs.Value.{value_of, eval_for, value_for}
use Rattle.evaluate.specs.Evaluation.{Memo, Evaluates, Checks}
use Rattle.evaluate.proofs.Checking.{checks-then, checks-stop, checks-does, checks-here, checks-as, value-fact}
use Rattle.evaluate.proofs.Settling.{value-term}
use Rattle.evaluate.proofs.Turns.{root-memo, memo-after}
use Rattle.evaluate.proofs.Collecting.{each, each-is, Run, run-start, run-stop, run-turn, run-done}
use Rattle.facts.specs.Call.{function_fact_of}
use Rattle.facts.specs.declared.Asked.{Asked}
use Rattle.facts.specs.declared.FunctionFact as code

-- a value that is only rewritten
checks-map : {A B : Type 0} (g : A → B) {K E P I : List ℕ} {f : Fill} {K₁ E₁ P₁ I₁ : List ℕ} {f₁ : Fill} {r : Refusal} {a : A} {m : List ℕ} {o : Outcome A}
    → Checks K E P I f K₁ E₁ P₁ I₁ f₁ r a m o → Checks K E P I f K₁ E₁ P₁ I₁ f₁ r (g a) m (and_then o (λ x. pure (g x)))
checks-map g {a = a} d = record { does = does-map g (g a) d.does (λ _. refl); past = d.past }

then-pure : {A : Type 0} (o : Outcome A) → and_then o pure ≡ o
then-pure (ok a s) = refl
then-pure (refused r s) = refl

module _ (J : List ℕ) (rule : ℕ) (σ : List Binding) where
  -- an evaluation in a round that is there is a check
  abbrev eval : Room → ℕ → Check ℕ
  eval = eval_for true J rule σ

  module _ {e : ℕ} {K E P I : List ℕ} {f : Fill} {m K₁ E₁ P₁ I₁ : List ℕ} {c : Checked} {m₁ : List ℕ}
      (d : Evaluates (arguments_for J) eval (sizes_of J).expressions e K E P I f m K₁ E₁ P₁ I₁ c m₁) where
    pub checks-eval : Checks K E P I f K₁ E₁ P₁ I₁ c.fill c.refusal c.value m₁ (value_for true J rule σ (room_of K P) e (terms_in K E P f))
    checks-eval = checks-as (sym (value-term true (room_of K P) (program_for J) rule σ (expr_for J e) (terms_in K E P f))) (record { does = d.does; past = λ z. (d.memo z).past })

  -- the arguments of a call, one after the other
  abbrev value : Room → ℕ → Check ℕ
  value = value_for true J rule σ

  abbrev values : Room → List ℕ → Check (List ℕ)
  values room xs = eval_fact_exprs room (program_for J) rule σ (arguments_by (expr_for J) xs)

  values-each : (room : Room) (xs : List ℕ) (s : List Term) → each (value room) xs s ≡ values room xs s
  unfolding eval_fact_exprs value_of
  values-each room xs s = each-is (value room) (values room) (λ u. refl) (λ y ys u. refl) xs s

  -- after i of them, whose numbers are xs
  pub record Turn (e : ℕ) (xs K₀ E₀ P₀ I₀ : List ℕ) (f₀ : Fill) (m₀ v₀ K₁ E₁ P₁ I₁ : List ℕ) (f₁ : Fill) (m vals : List ℕ) (i : ℕ) : Type 0 where
    pub run : Run value (λ room. pure) xs K₀ E₀ P₀ I₀ f₀ K₁ E₁ P₁ I₁ f₁ vals i (values (room_of K₀ P₀) (arguments_for J e) (terms_in K₀ E₀ P₀ f₀))
    pub memo : Memo (arguments_for J) (eval (room_of K₁ P₁)) (sizes_of J).expressions (terms_in K₁ E₁ P₁ f₁) m
    pub len_m : length m ≡ length m₀
    pub len_v : length vals ≡ length v₀

  pub arguments-start : {e : ℕ} {xs K₀ E₀ P₀ I₀ : List ℕ} {f₀ : Fill} {m v : List ℕ} → xs ≡ arguments_for J e → Indexed K₀ E₀ P₀ I₀ f₀ → (sizes_of J).expressions + (sizes_of J).expressions < length m → Started m
      → Turn e xs K₀ E₀ P₀ I₀ f₀ m v K₀ E₀ P₀ I₀ f₀ m v 0
  arguments-start {e} {xs} {K₀} {E₀} {P₀} {I₀} {f₀} q S l p = record {
    run = run-start S (then-pure (each (value (room_of K₀ P₀)) xs (terms_in K₀ E₀ P₀ f₀)) ∙ values-each (room_of K₀ P₀) xs (terms_in K₀ E₀ P₀ f₀)
        ∙ ap (λ (ys : List ℕ). values (room_of K₀ P₀) ys (terms_in K₀ E₀ P₀ f₀)) q);
    memo = root-memo l p;
    len_m = refl;
    len_v = refl;
  }

  module _ {e : ℕ} {xs K₀ E₀ P₀ I₀ : List ℕ} {f₀ : Fill} {m₀ v₀ K₁ E₁ P₁ I₁ : List ℕ} {f₁ : Fill} {m vals : List ℕ} {i : ℕ} (T : Turn e xs K₀ E₀ P₀ I₀ f₀ m₀ v₀ K₁ E₁ P₁ I₁ f₁ m vals i) where
    abbrev whole : Outcome (List ℕ)
    whole = values (room_of K₀ P₀) (arguments_for J e) (terms_in K₀ E₀ P₀ f₀)

    module _ {K₂ E₂ P₂ I₂ : List ℕ} {c : Checked} {m₂ : List ℕ} (h : i < length xs)
        (d : Evaluates (arguments_for J) eval (sizes_of J).expressions (get_or xs i 0) K₁ E₁ P₁ I₁ f₁ m K₂ E₂ P₂ I₂ c m₂) where
      pub arguments-stop : (ts : List ℕ) → (c.refusal.number ≡ 0 → ⊥) → Checks K₀ E₀ P₀ I₀ f₀ K₂ E₂ P₂ I₂ c.fill c.refusal ts m₂ whole
      arguments-stop ts q = record { does = run-stop T.run h (checks-eval d).does ts q; past = λ p. absurd (q p) }

      pub arguments-turn : i < length vals → length m₂ ≡ length m → c.refusal.number ≡ 0 → Turn e xs K₀ E₀ P₀ I₀ f₀ m₀ v₀ K₂ E₂ P₂ I₂ c.fill m₂ (set vals i c.value) (i + 1)
      arguments-turn l k q = record {
        run = run-turn T.run h (checks-eval d).does l q;
        memo = memo-after d q;
        len_m = k ∙ T.len_m;
        len_v = length-set vals i c.value ∙ T.len_v;
      }

    pub arguments-done : {c : Checked} → xs ≡ arguments_for J e → length xs ≤ i → c ≡ record { refusal = passed; value = 0; fill = f₁ }
        → Checks K₀ E₀ P₀ I₀ f₀ K₁ E₁ P₁ I₁ c.fill c.refusal (take (length (arguments_for J e)) vals) m whole
    arguments-done q h g =
        subst (λ (x : Checked). Checks K₀ E₀ P₀ I₀ f₀ K₁ E₁ P₁ I₁ x.fill x.refusal (take (length (arguments_for J e)) vals) m whole) (sym g)
        (subst (λ (ys : List ℕ). Checks K₀ E₀ P₀ I₀ f₀ K₁ E₁ P₁ I₁ f₁ passed (take (length ys) vals) m whole) q
        (checks-does T.memo.past (run-done T.run h (does-here T.run.grown.indexed refl))))

-- a function fact, by the function and the variable that were found
module _ {u : prelude.Option ℕ} {o : Option ℕ} (p : Option ℕ) (first : option_of u ≡ o) where
  pub call_none : u ≡ None → none ≡ function_fact_by o p
  call_none e = ap (λ (x : Option ℕ). function_fact_by x p) (ap option_of (sym e) ∙ first)

  pub call-other : {v : prelude.Option ℕ} {f : ℕ} → u ≡ Some f → option_of v ≡ p → v ≡ None → none ≡ function_fact_by o p
  call-other e second d = ap₂ function_fact_by (ap option_of (sym e) ∙ first) (ap option_of (sym d) ∙ second)

  pub call-some : {v : prelude.Option ℕ} {f x : ℕ} → u ≡ Some f → option_of v ≡ p → v ≡ Some x → some (record { function = f; variable = x }) ≡ function_fact_by o p
  call-some e second d = ap₂ function_fact_by (ap option_of (sym e) ∙ first) (ap option_of (sym d) ∙ second)

-- what is asked for, as the code holds it
module _ {K E P I : List ℕ} {f : Fill} {K₁ E₁ P₁ I₁ : List ℕ} {m : List ℕ} {o : Outcome Proposition} where
  asked-as : {a b : Asked} → a ≡ b → Checks K E P I f K₁ E₁ P₁ I₁ b.fill b.refusal (proposition_of b.pair) m o → Checks K E P I f K₁ E₁ P₁ I₁ a.fill a.refusal (proposition_of a.pair) m o
  asked-as e d = subst (λ (x : Asked). Checks K E P I f K₁ E₁ P₁ I₁ x.fill x.refusal (proposition_of x.pair) m o) (sym e) d

abbrev asked_of : Checked → ℕ → ℕ → Asked
asked_of c l r = record { refusal = c.refusal; pair = record { lhs = l; rhs = r }; fill = c.fill }

-- a bare fact
module _ (prog : Program) (rule : ℕ) (σ : List Binding) where
  fact-checks : (e : Expr) {K E P I : List ℕ} {f : Fill} {K₁ E₁ P₁ I₁ : List ℕ} {f₁ : Fill} {r : Refusal} {t : ℕ} {m : List ℕ}
      → Checks K E P I f K₁ E₁ P₁ I₁ f₁ r t m (value_of true (room_of K P) prog rule σ e (terms_in K E P f)) → Checks K E P I f K₁ E₁ P₁ I₁ f₁ r t m (eval_fact_expr (room_of K P) prog rule σ e (terms_in K E P f))
  fact-checks e {K} {E} {P} {I} {f} d = checks-as (value-fact (room_of K P) prog rule σ e (terms_in K E P f)) d

  pub bare-asks : (i : ℕ) (e : Expr) {K E P I : List ℕ} {f : Fill} {K₁ E₁ P₁ I₁ : List ℕ} (c : Checked) {m : List ℕ} {a : Asked}
      → Checks K E P I f K₁ E₁ P₁ I₁ c.fill c.refusal c.value m (value_of true (room_of K P) prog rule σ e (terms_in K E P f)) → a ≡ asked_of c c.value c.value
      → Checks K E P I f K₁ E₁ P₁ I₁ a.fill a.refusal (proposition_of a.pair) m (wanted (room_of K P) prog rule σ (bare i e) (terms_in K E P f))
  unfolding wanted
  bare-asks i e c d q = asked-as q (checks-map same (fact-checks e d))

  -- an equality of two values
  module _ (l r : Expr) where
    abbrev pair : ℕ → ℕ → Proposition
    pair a b = record { lhs = a; rhs = b }

    abbrev after : Room → ℕ → Check Proposition
    after room a s = and_then (eval_fact_expr room prog rule σ r s) (λ b. pure (pair a b))

    module _ {K E P I : List ℕ} {f : Fill} {K₁ E₁ P₁ I₁ m₁ : List ℕ} (c : Checked)
        (A : Checks K E P I f K₁ E₁ P₁ I₁ c.fill c.refusal c.value m₁ (value_of true (room_of K P) prog rule σ l (terms_in K E P f))) where
      pub values-refused : {a : Asked} → (c.refusal.number ≡ 0 → ⊥) → a ≡ asked_of c 0 0
          → Checks K E P I f K₁ E₁ P₁ I₁ a.fill a.refusal (proposition_of a.pair) m₁ (wanted_equality (room_of K P) prog rule σ l r none (terms_in K E P f))
      unfolding wanted_equality
      values-refused h q = asked-as q (checks-stop (pair 0 0) (after (room_of K P)) (fact-checks l A) h)

      pub values-ask : {K₂ E₂ P₂ I₂ m₂ : List ℕ} (d : Checked) {a : Asked} → c.refusal.number ≡ 0
          → Checks K₁ E₁ P₁ I₁ c.fill K₂ E₂ P₂ I₂ d.fill d.refusal d.value m₂ (value_of true (room_of K₁ P₁) prog rule σ r (terms_in K₁ E₁ P₁ c.fill))
          → a ≡ asked_of d c.value d.value
          → Checks K E P I f K₂ E₂ P₂ I₂ a.fill a.refusal (proposition_of a.pair) m₂ (wanted_equality (room_of K P) prog rule σ l r none (terms_in K E P f))
      unfolding wanted_equality
      values-ask d h B q = asked-as q (checks-then after (fact-checks l A) h (checks-map (pair c.value) (fact-checks r B)))

  -- a function fact
  module _ (l r : Expr) (function variable : ℕ) {K E P I : List ℕ} {f : Fill} {m : List ℕ} (S : Indexed K E P I f) (p : Past m) where
    abbrev call : model.FunctionFact
    call = record { function = function; variable = variable }

    abbrev build : ℕ → Room → List ℕ → Check Proposition
    build v room ts s = and_then (add_node room (app function (ts ++ (v ∷ []))) s) (λ t. pure (same t))

    abbrev arguments : Room → ℕ → Check Proposition
    arguments room v s = and_then (eval_fact_exprs room prog rule σ (args_of l) s) (build v room)

    module _ (c : Checked) (F : (c.fill ≡ f) × ((s : List Term) → outcome_of c.refusal c.value s ≡ or_refuse (lookup σ variable) 45 (rule ∷ variable ∷ []) s)) where
      bound : Checks K E P I f K E P I f c.refusal c.value m (or_refuse (lookup σ variable) 45 (rule ∷ variable ∷ []) (terms_in K E P f))
      bound = checks-here S p (F.1 (terms_in K E P f))

      pub call-unbound : {a : Asked} → (c.refusal.number ≡ 0 → ⊥) → a ≡ asked_of c 0 0
          → Checks K E P I f K E P I a.fill a.refusal (proposition_of a.pair) m (wanted_equality (room_of K P) prog rule σ l r (some call) (terms_in K E P f))
      unfolding wanted_equality
      call-unbound h q = asked-as (q ∙ ap (λ (x : Fill). record { refusal = c.refusal; pair = record { lhs = 0; rhs = 0 }; fill = x }) F.0) (checks-stop (same 0) (arguments (room_of K P)) bound h)

      module _ (h : c.refusal.number ≡ 0) {K₁ E₁ P₁ I₁ m₁ ts : List ℕ} {es : Exprs} (is : es ≡ args_of l) (d : Checked)
          (A : Checks K E P I f K₁ E₁ P₁ I₁ d.fill d.refusal ts m₁ (eval_fact_exprs (room_of K P) prog rule σ es (terms_in K E P f))) where
        given : Checks K E P I f K₁ E₁ P₁ I₁ d.fill d.refusal ts m₁ (eval_fact_exprs (room_of K P) prog rule σ (args_of l) (terms_in K E P f))
        given = checks-as (ap (λ (x : Exprs). eval_fact_exprs (room_of K P) prog rule σ x (terms_in K E P f)) is) A

        pub call-refused : {a : Asked} → (d.refusal.number ≡ 0 → ⊥) → a ≡ asked_of d 0 0
            → Checks K E P I f K₁ E₁ P₁ I₁ a.fill a.refusal (proposition_of a.pair) m₁ (wanted_equality (room_of K P) prog rule σ l r (some call) (terms_in K E P f))
        unfolding wanted_equality
        call-refused z q = asked-as q (checks-then arguments bound h (checks-stop (same 0) (build c.value (room_of K P)) given z))

        pub call_asks : {K₂ E₂ P₂ I₂ us : List ℕ} (t : Checked) {a : Asked} → d.refusal.number ≡ 0 → us ≡ ts ++ (c.value ∷ [])
            → Does K₁ E₁ P₁ I₁ d.fill K₂ E₂ P₂ I₂ t.fill t.refusal t.value (add_node (room_of K₁ P₁) (app function us) (terms_in K₁ E₁ P₁ d.fill))
            → a ≡ asked_of t t.value t.value
            → Checks K E P I f K₂ E₂ P₂ I₂ a.fill a.refusal (proposition_of a.pair) m₁ (wanted_equality (room_of K P) prog rule σ l r (some call) (terms_in K E P f))
        unfolding wanted_equality
        call_asks {K₂} {E₂} {P₂} {I₂} {us} t z e D q = asked-as q (checks-then arguments bound h (checks-then (build c.value) given z (checks-map same
            (checks-as (ap (λ (ys : List ℕ). add_node (room_of K₁ P₁) (app function ys) (terms_in K₁ E₁ P₁ d.fill)) e) (checks-does (A.past z) D)))))

  -- an equality by what it is
  pub equality-asks : (i : ℕ) (l r : Expr) {c g : prelude.Option code.FunctionFact} {K E P I : List ℕ} {f : Fill} {K₁ E₁ P₁ I₁ : List ℕ} {f₁ : Fill} {q : Refusal} {w : Proposition} {m : List ℕ}
      → function_fact_of c ≡ function_fact l r → c ≡ g
      → Checks K E P I f K₁ E₁ P₁ I₁ f₁ q w m (wanted_equality (room_of K P) prog rule σ l r (function_fact_of g) (terms_in K E P f))
      → Checks K E P I f K₁ E₁ P₁ I₁ f₁ q w m (wanted (room_of K P) prog rule σ (equal i l r) (terms_in K E P f))
  unfolding wanted
  equality-asks i l r {K = K} {E = E} {P = P} {f = f} e d k =
      checks-as (ap (λ (x : Option model.FunctionFact). wanted_equality (room_of K P) prog rule σ l r x (terms_in K E P f)) (ap function_fact_of (sym d) ∙ e)) k

  -- the fact that was read
  pub wanted-as : {g h : Fact} {K E P I : List ℕ} {f : Fill} {K₁ E₁ P₁ I₁ : List ℕ} {f₁ : Fill} {r : Refusal} {w : Proposition} {m : List ℕ} → g ≡ h
      → Checks K E P I f K₁ E₁ P₁ I₁ f₁ r w m (wanted (room_of K P) prog rule σ g (terms_in K E P f)) → Checks K E P I f K₁ E₁ P₁ I₁ f₁ r w m (wanted (room_of K P) prog rule σ h (terms_in K E P f))
  wanted-as {K = K} {E = E} {P = P} {f = f} e d = checks-as (ap (λ (x : Fact). wanted (room_of K P) prog rule σ x (terms_in K E P f)) e) d

-- the values with the variable's behind them
pub with-last : (vals : List ℕ) (v n k : ℕ) → n ≡ k → n < length vals → take (n + 1) (set vals n v) ≡ take k vals ++ (v ∷ [])
with-last vals v n k e l = ap (λ (j : ℕ). take j (set vals n v)) (add-one n) ∙ take-suc-set vals n v l ∙ ap (λ (j : ℕ). take j vals ++ (v ∷ [])) e

-- the premise's proposition
module _ (rule i : ℕ) (w q : Proposition) (s : List Term) where
  abbrev pair-equal : Bool
  pair-equal = eqb q.lhs w.lhs && eqb q.rhs w.rhs

  pub pair_matches : (l r : Expr) → pair-equal ≡ true → ok tt s ≡ matches rule (equal i l r) w q s
  unfolding matches check_that
  pair_matches l r e = go (function_fact l r)
    where
      go : (o : Option model.FunctionFact) → ok tt s ≡ matches_equality rule i o w q s
      go none = ap (λ (b : Bool). check_that b 29 (rule ∷ i ∷ w.lhs ∷ w.rhs ∷ q.lhs ∷ q.rhs ∷ []) s) (sym e)
      go (some f) = ap (λ (b : Bool). check_that b 28 (rule ∷ w.lhs ∷ q.lhs ∷ q.rhs ∷ []) s) (sym e)

  matches-by : (l r : Expr) {c g : prelude.Option code.FunctionFact} → function_fact_of c ≡ function_fact l r → c ≡ g → matches_equality rule i (function_fact_of g) w q s ≡ matches rule (equal i l r) w q s
  unfolding matches
  matches-by l r e d = ap (λ (x : Option model.FunctionFact). matches_equality rule i x w q s) (ap function_fact_of (sym d) ∙ e)

  pub call-differs : (l r : Expr) {c : prelude.Option code.FunctionFact} {f x : ℕ} → pair-equal ≡ false → function_fact_of c ≡ function_fact l r → c ≡ Some (record { function = f; variable = x })
      → refused (record { number = 28; fields = rule ∷ w.lhs ∷ q.lhs ∷ q.rhs ∷ [] }) s ≡ matches rule (equal i l r) w q s
  unfolding check_that
  call-differs l r t e d = ap (λ (b : Bool). check_that b 28 (rule ∷ w.lhs ∷ q.lhs ∷ q.rhs ∷ []) s) (sym t) ∙ matches-by l r e d

  pub pair-differs : (l r : Expr) {c : prelude.Option code.FunctionFact} → pair-equal ≡ false → function_fact_of c ≡ function_fact l r → c ≡ None
      → refused (record { number = 29; fields = rule ∷ i ∷ w.lhs ∷ w.rhs ∷ q.lhs ∷ q.rhs ∷ [] }) s ≡ matches rule (equal i l r) w q s
  unfolding check_that
  pair-differs l r t e d = ap (λ (b : Bool). check_that b 29 (rule ∷ i ∷ w.lhs ∷ w.rhs ∷ q.lhs ∷ q.rhs ∷ []) s) (sym t) ∙ matches-by l r e d

  pub bare-same : (e : Expr) → eqb q.rhs w.rhs ≡ true → ok tt s ≡ matches rule (bare i e) w q s
  unfolding matches check_that
  bare-same e t = ap (λ (b : Bool). check_that b 30 (rule ∷ i ∷ q.rhs ∷ w.rhs ∷ []) s) (sym t)

  pub bare-differs : (e : Expr) → eqb q.rhs w.rhs ≡ false → refused (record { number = 30; fields = rule ∷ i ∷ q.rhs ∷ w.rhs ∷ [] }) s ≡ matches rule (bare i e) w q s
  unfolding matches check_that
  bare-differs e t = ap (λ (b : Bool). check_that b 30 (rule ∷ i ∷ q.rhs ∷ w.rhs ∷ []) s) (sym t)

-- the fact that was read
pub matches-as : (rule : ℕ) (w q : Proposition) (s : List Term) {g h : Fact} → g ≡ h → matches rule g w q s ≡ matches rule h w q s
matches-as rule w q s e = ap (λ (x : Fact). matches rule x w q s) e

-- a fact: what it asks for refused, or compared
module _ (prog : Program) (rule : ℕ) (σ : List Binding) (g : Fact) (q : Proposition) {K E P I : List ℕ} {f : Fill} {K₁ E₁ P₁ I₁ m : List ℕ} (a : Asked)
    (W : Checks K E P I f K₁ E₁ P₁ I₁ a.fill a.refusal (proposition_of a.pair) m (wanted (room_of K P) prog rule σ g (terms_in K E P f))) where
  abbrev compare : Proposition → Check (Unit {0})
  compare w = matches rule g w q

  pub fact-refused : (a.refusal.number ≡ 0 → ⊥) → Checks K E P I f K₁ E₁ P₁ I₁ a.fill a.refusal tt m (check_fact_matches_proposition (room_of K P) prog rule σ g q (terms_in K E P f))
  fact-refused h = checks-stop tt compare W h

  pub fact-compared : {r : Refusal} → a.refusal.number ≡ 0 → ((s : List Term) → outcome_of r tt s ≡ matches rule g (proposition_of a.pair) q s)
      → Checks K E P I f K₁ E₁ P₁ I₁ a.fill r tt m (check_fact_matches_proposition (room_of K P) prog rule σ g q (terms_in K E P f))
  fact-compared h M = checks-then (λ room. compare) W h (checks-here W.does.grown.indexed (W.past h) (M (terms_in K₁ E₁ P₁ a.fill)))
