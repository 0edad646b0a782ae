-- Side conditions: a side's value, the comparison of two, one side after the other.
use Rattle.std.specs.Prelude as prelude
use Rattle.std.specs.Prelude.{Some, None}
use mathlib.Core.Path.{◌≡◌, refl, sym, ap, ap₂, subst, ◌∙◌}
use mathlib.Core.Bool.{Bool, true, false}
use mathlib.Core.List.{List, [], ◌∷◌}
use mathlib.Core.Option.{Option, none, some}
use Prim.Native.Nat.{ℕ}
use lib.Dec.{eqb}
use borrow.Author.Tests.{eq-eqb, ne_eqb}
use Rattle.model.specs.Term.{Term}
use Rattle.model.specs.Program.{Expr, Fact, equal, bare, Binding, Program}
use Rattle.model.specs.Check.{Outcome, ok, refused, Check, and_then, pure, check_that, Room}
use Rattle.model.specs.Evaluate.{lookup, eval_expr}
use Rattle.model.specs.Fact.{head_of, variable_of, bind_output, compare_sides, eval_side_by, eval_side, check_side_condition}
use Rattle.index.specs.declared.Fill.{Fill}
use Rattle.termdag.specs.Store.{terms_in, Indexed, room_of}
use Rattle.memo.specs.Memo.{Past}
use Rattle.outcome.specs.Does.{passed, outcome_of}
use Rattle.outcome.specs.declared.Refusal.{Refusal}
use Rattle.outcome.proofs.Laws.{does-map}
use Rattle.program.specs.Ready.{option_of}
use Rattle.evaluate.specs.Value.{value_of}
use Rattle.evaluate.specs.Evaluation.{Checks}
use Rattle.evaluate.proofs.Checking.{checks-then, checks-stop, checks-here, checks-as, term-then, value-elsewhere}
use Rattle.conditions.specs.Bound.{bound_over}
use Rattle.conditions.specs.declared.Bound as code
use Rattle.conditions.specs.declared.Side.{Side}
use Rattle.conditions.specs.declared.Condition.{Condition}

-- a variable that is bound, or none
module _ (rule i t : ℕ) {v : prelude.Option ℕ} (σ : List Binding) (s : List Term) where
  pub output-bound : {x : ℕ} → v ≡ Some x → ok (record { name = x; term = t } ∷ σ) s ≡ bind_output rule i σ (option_of v) t s
  output-bound e = ap (λ (w : prelude.Option ℕ). bind_output rule i σ (option_of w) t s) (sym e)

  pub output-none : v ≡ None → refused (record { number = 48; fields = rule ∷ i ∷ [] }) s ≡ bind_output rule i σ (option_of v) t s
  output-none e = ap (λ (w : prelude.Option ℕ). bind_output rule i σ (option_of w) t s) (sym e)

-- two sides compared, by what has a value
module _ (rule i : ℕ) (σ : List Binding) (lv rv : Option ℕ) (s : List Term) where
  abbrev compared : prelude.Option ℕ → prelude.Option ℕ → Outcome (List Binding)
  compared a b = compare_sides rule i σ lv (option_of a) rv (option_of b) s

  pub compared-none : {b : prelude.Option ℕ} → b ≡ None → refused (record { number = 48; fields = rule ∷ i ∷ [] }) s ≡ compare_sides rule i σ lv none rv (option_of b) s
  unfolding compare_sides
  compared-none e = ap (compared None) (sym e)

  pub compared-right : {b : prelude.Option ℕ} {y : ℕ} → b ≡ Some y → bind_output rule i σ lv y s ≡ compare_sides rule i σ lv none rv (option_of b) s
  unfolding compare_sides
  compared-right e = ap (compared None) (sym e)

  pub compared-first : {a : prelude.Option ℕ} (b : prelude.Option ℕ) → a ≡ None → compare_sides rule i σ lv none rv (option_of b) s ≡ compare_sides rule i σ lv (option_of a) rv (option_of b) s
  compared-first b e = ap (λ (x : prelude.Option ℕ). compared x b) (sym e)

  pub compared-left : {a b : prelude.Option ℕ} {x : ℕ} → a ≡ Some x → b ≡ None → bind_output rule i σ rv x s ≡ compare_sides rule i σ lv (option_of a) rv (option_of b) s
  unfolding compare_sides
  compared-left e f = ap₂ compared (sym e) (sym f)

  pub compared-both : {a b : prelude.Option ℕ} {x y : ℕ} → a ≡ Some x → b ≡ Some y → compare_sides rule i σ lv (some x) rv (some y) s ≡ compare_sides rule i σ lv (option_of a) rv (option_of b) s
  compared-both e f = ap₂ compared (sym e) (sym f)

  compared-by : (x y : ℕ) (t : Bool) → eqb x y ≡ t → and_then (check_that t 42 (rule ∷ i ∷ x ∷ y ∷ []) s) (λ _. pure σ) ≡ compare_sides rule i σ lv (some x) rv (some y) s
  unfolding compare_sides
  compared-by x y t e = ap (λ (b : Bool). and_then (check_that b 42 (rule ∷ i ∷ x ∷ y ∷ []) s) (λ _. pure σ)) (sym e)

  pub compared_same : (x y : ℕ) → x ≡ y → ok σ s ≡ compare_sides rule i σ lv (some x) rv (some y) s
  unfolding check_that
  compared_same x y e = compared-by x y true (eq-eqb x y e)

  pub compared-differ : (x y : ℕ) → (x ≡ y → ⊥) → refused (record { number = 42; fields = rule ∷ i ∷ x ∷ y ∷ [] }) s ≡ compare_sides rule i σ lv (some x) rv (some y) s
  unfolding check_that
  compared-differ x y h = compared-by x y false (ne_eqb x y h)

-- a side's value
module _ {v : prelude.Option ℕ} (e : Expr) (is : option_of v ≡ variable_of (head_of e)) (room : Room) (prog : Program) (rule : ℕ) (σ : List Binding) where
  pub side-bound : {x : ℕ} {o : Option ℕ} (s : List Term) → v ≡ Some x → o ≡ lookup σ x → ok o s ≡ eval_side room prog rule σ e s
  side-bound s d l = ap {B = Outcome (Option ℕ)} (λ (p : Option ℕ). ok p s) l ∙ ap (λ (p : Option ℕ). eval_side_by room prog rule σ e p s) (ap option_of (sym d) ∙ is)

  side-value : (s : List Term) → v ≡ None → and_then (value_of false room prog rule σ e s) (λ t. pure (some t)) ≡ eval_side room prog rule σ e s
  side-value s d =
      ap (λ (o : Outcome ℕ). and_then o (λ t. pure (some t))) (value-elsewhere room prog rule σ e s)
      ∙ sym (term-then (eval_expr room prog rule σ e s) (λ t. pure (some t)))
      ∙ ap (λ (p : Option ℕ). eval_side_by room prog rule σ e p s) (ap option_of (sym d) ∙ is)

  pub side-checks : {K E P I : List ℕ} {f : Fill} {K₁ E₁ P₁ I₁ : List ℕ} {f₁ : Fill} {r : Refusal} {t : ℕ} {m : List ℕ} → v ≡ None
      → Checks K E P I f K₁ E₁ P₁ I₁ f₁ r t m (value_of false room prog rule σ e (terms_in K E P f)) → Checks K E P I f K₁ E₁ P₁ I₁ f₁ r (some t) m (eval_side room prog rule σ e (terms_in K E P f))
  side-checks {K} {E} {P} {I} {f} {t = t} d c = checks-as (side-value (terms_in K E P f) d) (record { does = does-map some (some t) c.does (λ _. refl); past = c.past })

-- an equality, in either mode: its left side refused, its right side refused, both compared
module _ (prog : Program) (rule i : ℕ) (σ : List Binding) (strict : Bool) (l r : Expr) where
  abbrev whole : List ℕ → List ℕ → List ℕ → Fill → Outcome (List Binding)
  whole K E P f = check_side_condition (room_of K P) prog rule σ strict (equal i l r) (terms_in K E P f)

  abbrev both : Option ℕ → Option ℕ → Check (List Binding)
  both a b = compare_sides rule i σ (variable_of (head_of l)) a (variable_of (head_of r)) b

  abbrev after : Room → Option ℕ → Check (List Binding)
  after room a s = and_then (eval_side room prog rule σ r s) (both a)

  module _ {K E P I : List ℕ} {f : Fill} where
    refused_as : {K' E' P' I' : List ℕ} {m : List ℕ} (a : Side) {c : Condition} → c ≡ record { refusal = a.refusal; binds = None; fill = a.fill }
        → Checks K E P I f K' E' P' I' a.fill a.refusal σ m (whole K E P f) → Checks K E P I f K' E' P' I' c.fill c.refusal (bound_over c.binds σ) m (whole K E P f)
    refused_as {K'} {E'} {P'} {I'} {m} a e d = subst (λ (x : Condition). Checks K E P I f K' E' P' I' x.fill x.refusal (bound_over x.binds σ) m (whole K E P f)) (sym e) d

    module _ {K₁ E₁ P₁ I₁ m₁ : List ℕ} (a : Side) (A : Checks K E P I f K₁ E₁ P₁ I₁ a.fill a.refusal (option_of a.value) m₁ (eval_side (room_of K P) prog rule σ l (terms_in K E P f))) where
      pub left-refused : {c : Condition} → (a.refusal.number ≡ 0 → ⊥) → c ≡ record { refusal = a.refusal; binds = None; fill = a.fill }
          → Checks K E P I f K₁ E₁ P₁ I₁ c.fill c.refusal (bound_over c.binds σ) m₁ (whole K E P f)
      unfolding check_side_condition
      left-refused h e = refused_as a e (checks-stop σ (after (room_of K P)) A h)

      module _ (q : a.refusal.number ≡ 0) {K₂ E₂ P₂ I₂ m₂ : List ℕ} (b : Side)
          (B : Checks K₁ E₁ P₁ I₁ a.fill K₂ E₂ P₂ I₂ b.fill b.refusal (option_of b.value) m₂ (eval_side (room_of K₁ P₁) prog rule σ r (terms_in K₁ E₁ P₁ a.fill))) where
        pub right-refused : {c : Condition} → (b.refusal.number ≡ 0 → ⊥) → c ≡ record { refusal = b.refusal; binds = None; fill = b.fill }
            → Checks K E P I f K₂ E₂ P₂ I₂ c.fill c.refusal (bound_over c.binds σ) m₂ (whole K E P f)
        unfolding check_side_condition
        right-refused h e = refused_as b e (checks-then after A q (checks-stop σ (both (option_of a.value)) B h))

        pub sides-compared : {lv rv : Option ℕ} (c : Condition) → b.refusal.number ≡ 0 → lv ≡ variable_of (head_of l) → rv ≡ variable_of (head_of r)
            → (c.fill ≡ b.fill) × ((ρ : List Binding) (s : List Term) → outcome_of c.refusal (bound_over c.binds ρ) s ≡ compare_sides rule i ρ lv (option_of a.value) rv (option_of b.value) s)
            → Checks K E P I f K₂ E₂ P₂ I₂ c.fill c.refusal (bound_over c.binds σ) m₂ (whole K E P f)
        unfolding check_side_condition
        sides-compared {lv} {rv} c p x y g =
            subst (λ (h : Fill). Checks K E P I f K₂ E₂ P₂ I₂ h c.refusal (bound_over c.binds σ) m₂ (whole K E P f)) (sym g.0)
            (checks-then after A q (checks-then (λ room. both (option_of a.value)) B p (checks-here B.does.grown.indexed (B.past p)
            (g.1 σ (terms_in K₂ E₂ P₂ b.fill) ∙ ap₂ (λ (j k : Option ℕ). compare_sides rule i σ j (option_of a.value) k (option_of b.value) (terms_in K₂ E₂ P₂ b.fill)) x y))))

-- the condition that was read
module _ (prog : Program) (rule : ℕ) (σ : List Binding) (strict : Bool) {K E P I : List ℕ} {f : Fill} {m : List ℕ} {g h : Fact} (is : g ≡ h) where
  pub condition-as : {K' E' P' I' : List ℕ} {f' : Fill} {r : Refusal} {β : List Binding} → Checks K E P I f K' E' P' I' f' r β m (check_side_condition (room_of K P) prog rule σ strict g (terms_in K E P f))
      → Checks K E P I f K' E' P' I' f' r β m (check_side_condition (room_of K P) prog rule σ strict h (terms_in K E P f))
  condition-as d = checks-as (ap (λ (x : Fact). check_side_condition (room_of K P) prog rule σ strict x (terms_in K E P f)) is) d

-- a bare condition: it passes unevaluated
module _ (prog : Program) (rule : ℕ) (σ : List Binding) (i : ℕ) (e : Expr) {K E P I : List ℕ} {f : Fill} where
  pub bare-passes : {m : List ℕ} {strict : Bool} → strict ≡ false → Indexed K E P I f → Past m
      → Checks K E P I f K E P I f passed σ m (check_side_condition (room_of K P) prog rule σ strict (bare i e) (terms_in K E P f))
  unfolding check_side_condition
  bare-passes {strict = strict} is S p = rw is (checks-here S p refl)

  -- in strict mode it is evaluated as a side is, and binds nothing
  pub bare-evaluated : {K₁ E₁ P₁ I₁ m₁ : List ℕ} {strict : Bool} (a : Side) {c : Condition} → strict ≡ true
      → Checks K E P I f K₁ E₁ P₁ I₁ a.fill a.refusal (option_of a.value) m₁ (eval_side (room_of K P) prog rule σ e (terms_in K E P f))
      → c ≡ record { refusal = a.refusal; binds = None; fill = a.fill }
      → Checks K E P I f K₁ E₁ P₁ I₁ c.fill c.refusal (bound_over c.binds σ) m₁ (check_side_condition (room_of K P) prog rule σ strict (bare i e) (terms_in K E P f))
  unfolding check_side_condition
  bare-evaluated {K₁} {E₁} {P₁} {I₁} {m₁} a is A h = rw (is, h) (record { does = does-map (λ _. σ) σ A.does (λ _. refl); past = A.past })
