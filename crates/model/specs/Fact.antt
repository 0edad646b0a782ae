-- The facts of a rule's body, from proof_checker.rs: normal form, container side conditions, ordinary facts.
use Rattle.std.specs.Prelude.{ℕ, List, [], ◌∷◌, ◌++◌, Bool, true, false, ◌&&◌, ◌||◌, eqb}
use Rattle.std.proofs.Math.Option.{Option, none, some}
use Rattle.model.specs.Term.{app}
use Rattle.model.specs.Program.{Head, literal, variable, constructor, custom, primitive, Expr, node, Exprs, nil, cons, Proposition, Binding, Program, Fact, equal, bare}
use Rattle.model.specs.Check.{Check, ◌>>=◌, pure, refuse, choose, first_of, or_refuse, check_that, Room, add_node}
use Rattle.model.specs.Evaluate.{lookup, primitive_at, same, eval_expr, eval_fact_expr, eval_fact_exprs}

-- The Rust's `ResolvedCall::Func`: a constructor or custom call.
abbrev pub is_func : Head → Bool
is_func (literal l) = false
is_func (variable x) = false
is_func (constructor f) = true
is_func (custom f) = true
is_func (primitive p) = false

abbrev pub is_primitive : Head → Bool
is_primitive (literal l) = false
is_primitive (variable x) = false
is_primitive (constructor f) = false
is_primitive (custom f) = false
is_primitive (primitive p) = true

-- `is_container_primitive`: a call of a container-output primitive.
abbrev pub is_container_primitive : Program → Head → Bool
is_container_primitive prog (literal l) = false
is_container_primitive prog (variable x) = false
is_container_primitive prog (constructor f) = false
is_container_primitive prog (custom f) = false
is_container_primitive prog (primitive p) = (primitive_at prog.primitives p).container

abbrev pub variable_of : Head → Option ℕ
variable_of (literal l) = none
variable_of (variable x) = some x
variable_of (constructor f) = none
variable_of (custom f) = none
variable_of (primitive p) = none

abbrev pub custom_of : Head → Option ℕ
custom_of (literal l) = none
custom_of (variable x) = none
custom_of (constructor f) = none
custom_of (custom f) = some f
custom_of (primitive p) = none

abbrev pub head_of : Expr → Head
head_of (node i h es) = h

abbrev pub args_of : Expr → Exprs
args_of (node i h es) = es

-- An argument that is not in proof normal form, by its expression number: the Rust's `PrimitiveNonNormalArg` and `ContainerPrimitiveNotSideCondition`.
pub data Offence : Type 0 where
  primitive_non_normal_arg : ℕ → Offence
  container_primitive_not_side_condition : ℕ → Offence

abbrev pub offence_if : Bool → Offence → Option Offence
offence_if true o = some o
offence_if false o = none

-- A function call directly under a primitive call, a container primitive call directly under a function call.
abbrev pub argument_offence : Program → Head → Expr → Option Offence
argument_offence prog h (node j g es) =
    first_of (offence_if (is_primitive h && is_func g) (primitive_non_normal_arg j)) (offence_if (is_func h && is_container_primitive prog g) (container_primitive_not_side_condition j))

-- The first offence in an expression: from the left, each argument itself, then what is inside it.
unfoldable mutual
  pub offence : Expr → Program → Option Offence
  offence (node i h es) prog = offences es prog h

  pub offences : Exprs → Program → Head → Option Offence
  offences nil prog h = none
  offences (cons e es) prog h = first_of (argument_offence prog h e) (first_of (offence e prog) (offences es prog h))

abbrev pub fact_offence : Program → Fact → Option Offence
fact_offence prog (equal i l r) = first_of (offence l prog) (offence r prog)
fact_offence prog (bare i e) = offence e prog

abbrev pub no_offence : ℕ → Option Offence → Check (Unit {0})
no_offence rule none = pure tt
no_offence rule (some (primitive_non_normal_arg e)) = refuse 49 (rule ∷ e ∷ [])
no_offence rule (some (container_primitive_not_side_condition e)) = refuse 50 (rule ∷ e ∷ [])

-- `assert_body_proof_normal_form`
unfoldable pub assert_body_proof_normal_form : Program → ℕ → Fact → Check (Unit {0})
assert_body_proof_normal_form prog rule f = no_offence rule (fact_offence prog f)

-- `is_container_side_condition`
abbrev pub is_container_side_condition : Program → Fact → Bool
is_container_side_condition prog (equal i l r) = is_container_primitive prog (head_of l) || is_container_primitive prog (head_of r)
is_container_side_condition prog (bare i e) = is_container_primitive prog (head_of e)

-- A variable without a value is bound to the other side's; there is always one (48 is never given).
abbrev pub bind_output : ℕ → ℕ → List Binding → Option ℕ → ℕ → Check (List Binding)
bind_output rule i σ none t = refuse 48 (rule ∷ i ∷ [])
bind_output rule i σ (some x) t = pure (record { name = x; term = t } ∷ σ)

-- The two sides of a condition: each its variable, if it is one, and its value, if it has one.
unfoldable pub compare_sides : ℕ → ℕ → List Binding → Option ℕ → Option ℕ → Option ℕ → Option ℕ → Check (List Binding)
compare_sides rule i σ lv none rv none = refuse 48 (rule ∷ i ∷ [])
compare_sides rule i σ lv none rv (some b) = bind_output rule i σ lv b
compare_sides rule i σ lv (some a) rv none = bind_output rule i σ rv a
compare_sides rule i σ lv (some a) rv (some b) = check_that (eqb a b) 42 (rule ∷ i ∷ a ∷ b ∷ []) >>= λ _. pure σ

-- A custom call = variable: the function and the variable.
pub record FunctionFact : Type 0 where
  pub function : ℕ
  pub variable : ℕ

abbrev pub function_fact_by : Option ℕ → Option ℕ → Option FunctionFact
function_fact_by none x = none
function_fact_by (some f) none = none
function_fact_by (some f) (some x) = some (record { function = f; variable = x })

abbrev pub function_fact : Expr → Expr → Option FunctionFact
function_fact l r = function_fact_by (custom_of (head_of l)) (variable_of (head_of r))

module _ (room : Room) (prog : Program) (rule : ℕ) (σ : List Binding) where
  abbrev pub eval_side_by : Expr → Option ℕ → Check (Option ℕ)
  eval_side_by e (some x) = pure (lookup σ x)
  eval_side_by e none = eval_expr room prog rule σ e >>= λ v. pure (some v.term)

  -- `eval_side`: an unbound variable has no value.
  abbrev pub eval_side : Expr → Check (Option ℕ)
  eval_side e = eval_side_by e (variable_of (head_of e))

  -- `check_side_condition`: the bindings after it. A bare one passes unevaluated; in strict mode it is evaluated as a side is, and passes where it has a value.
  unfoldable pub check_side_condition : Bool → Fact → Check (List Binding)
  check_side_condition strict (bare i e) = choose strict (eval_side e >>= λ _. pure σ) (pure σ)
  check_side_condition strict (equal i l r) =
      eval_side l >>= λ a.
      eval_side r >>= λ b.
      compare_sides rule i σ (variable_of (head_of l)) a (variable_of (head_of r)) b

  -- What an equality asks its premise to prove: of a function fact the call, its variable appended, equal to itself.
  unfoldable pub wanted_equality : Expr → Expr → Option FunctionFact → Check Proposition
  wanted_equality l r (some f) =
      or_refuse (lookup σ f.variable) 45 (rule ∷ f.variable ∷ []) >>= λ v.
      eval_fact_exprs room prog rule σ (args_of l) >>= λ ts.
      add_node room (app f.function (ts ++ (v ∷ []))) >>= λ t.
      pure (same t)
  wanted_equality l r none =
      eval_fact_expr room prog rule σ l >>= λ a.
      eval_fact_expr room prog rule σ r >>= λ b.
      pure (record { lhs = a; rhs = b })

  -- What an ordinary fact asks its premise to prove.
  unfoldable pub wanted : Fact → Check Proposition
  wanted (equal i l r) = wanted_equality l r (function_fact l r)
  wanted (bare i e) = eval_fact_expr room prog rule σ e >>= λ t. pure (same t)

abbrev pub matches_equality : ℕ → ℕ → Option FunctionFact → Proposition → Proposition → Check (Unit {0})
matches_equality rule i (some f) w q = check_that (eqb q.lhs w.lhs && eqb q.rhs w.rhs) 28 (rule ∷ w.lhs ∷ q.lhs ∷ q.rhs ∷ [])
matches_equality rule i none w q = check_that (eqb q.lhs w.lhs && eqb q.rhs w.rhs) 29 (rule ∷ i ∷ w.lhs ∷ w.rhs ∷ q.lhs ∷ q.rhs ∷ [])

-- The premise's proposition q is what the fact asks for, w; a bare fact compares the right side alone.
unfoldable pub matches : ℕ → Fact → Proposition → Proposition → Check (Unit {0})
matches rule (equal i l r) w q = matches_equality rule i (function_fact l r) w q
matches rule (bare i e) w q = check_that (eqb q.rhs w.rhs) 30 (rule ∷ i ∷ q.rhs ∷ w.rhs ∷ [])

-- `check_fact_matches_proposition`
abbrev pub check_fact_matches_proposition : Room → Program → ℕ → List Binding → Fact → Proposition → Check (Unit {0})
check_fact_matches_proposition room prog rule σ f q = wanted room prog rule σ f >>= λ w. matches rule f w q
