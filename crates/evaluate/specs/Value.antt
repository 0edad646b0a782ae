-- The value of an expression, without the pairs: of `eval_expr_with_subst` and of the method of `ProofStore` that has the same name.
use Rattle.std.specs.Prelude.{ℕ, ◌≡◌, Bool, true, false, cond}
use Rattle.evaluate.specs.declared.Scope.{Scope}
use mathlib.Core.List.{List, [], ◌∷◌, ◌++◌, Memᴰ}
use Rattle.model.specs.Term.{lit, app}
use Rattle.model.specs.Program.{Head, literal, variable, constructor, custom, primitive, Expr, node, Exprs, nil, cons, Binding, Program}
use Rattle.model.specs.Decode.{read_bindings}
use Rattle.model.specs.Check.{Outcome, ok, refused, Check, ◌>>=◌, pure, refuse, or_refuse, Room, add_node}
use Rattle.model.specs.Evaluate.{lookup, validated, Value, eval_expr, eval_fact_expr}
use Rattle.program.specs.Ready.{program_for}
use Rattle.program.specs.Read.{expr_for}

-- A value's term alone.
abbrev pub term_outcome : Outcome Value → Outcome ℕ
term_outcome (ok v s) = ok v.term s
term_outcome (refused r s) = refused r s

-- The value of an expression in an ordinary fact, or elsewhere: in heads, globals, merges and side conditions.
unfoldable pub value_of : Bool → Room → Program → ℕ → List Binding → Expr → Check ℕ
value_of true room prog rule σ e s = eval_fact_expr room prog rule σ e s
value_of false room prog rule σ e s = term_outcome (eval_expr room prog rule σ e s)

-- A custom call has no value in an ordinary fact.
abbrev pub custom_term : Bool → Room → ℕ → List ℕ → Check ℕ
custom_term true room f ts = refuse 52 (f ∷ [])
custom_term false room f ts = add_node room (app f ts)

-- The same by the arguments' values alone: what the code computes.
module _ (fact : Bool) (room : Room) (prog : Program) (rule : ℕ) (σ : List Binding) where
  unfoldable pub head_term : Head → List ℕ → Check ℕ
  head_term (literal l) ts = add_node room (lit l)
  head_term (variable x) ts = or_refuse (lookup σ x) 45 (rule ∷ x ∷ [])
  head_term (constructor f) ts = add_node room (app f ts)
  head_term (custom f) ts = custom_term fact room f ts
  head_term (primitive p) ts = validated room prog (cond fact 47 51) p ts

  unfoldable mutual
    pub eval_term : Expr → Check ℕ
    eval_term (node i h es) = eval_terms es >>= head_term h

    pub eval_terms : Exprs → Check (List ℕ)
    eval_terms nil = pure []
    eval_terms (cons e es) = eval_term e >>= λ t. eval_terms es >>= λ ts. pure (t ∷ ts)

-- The bindings of three runs of pairs: what conditions and lets bound, the latest first; a substitution; the globals.
abbrev pub bindings_in : List ℕ → List ℕ → List ℕ → List Binding
bindings_in B S G = read_bindings B ++ (read_bindings S ++ read_bindings G)

-- Those of a scope.
abbrev pub bindings_under : Scope → List Binding
bindings_under s = bindings_in s.bound.now s.pairs.now s.globals.now

-- The value of expression e, by the code's definition and by the definitions of the two evaluators.
abbrev pub eval_for : Bool → List ℕ → ℕ → List Binding → Room → ℕ → Check ℕ
eval_for fact J rule σ room e = eval_term fact room (program_for J) rule σ (expr_for J e)

abbrev pub value_for : Bool → List ℕ → ℕ → List Binding → Room → ℕ → Check ℕ
value_for fact J rule σ room e = value_of fact room (program_for J) rule σ (expr_for J e)

-- k is e or stands below it.
pub data Reaches (args : ℕ → List ℕ) (k : ℕ) : ℕ → Type 0 where
  here : {e : ℕ} → k ≡ e → Reaches args k e
  down : {e a : ℕ} → Memᴰ a (args e) → Reaches args k a → Reaches args k e
