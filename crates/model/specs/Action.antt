-- Actions, rule heads and merges, from proof_checker.rs.
use Rattle.std.specs.Prelude.{ℕ, List, [], ◌∷◌, ◌++◌, Bool, true, false, ◌&&◌, ◌||◌, eqb}
use Rattle.std.proofs.Math.Option.{Option, none}
use Rattle.model.specs.Program.{name_old, name_new, name_merge_function, Expr, Proposition, Binding, Program, Action, bind, union, run, idle, Rule, Function}
use Rattle.model.specs.Check.{Check, ◌>>=◌, pure, or_refuse, check_that, Room}
use Rattle.model.specs.Evaluate.{Value, eval_expr}

-- `ActionContext`: the bindings, and the pairs that the actions yield.
pub record ActionContext : Type 0 where
  pub bindings : List Binding
  pub pairs : List Proposition

module _ (room : Room) (prog : Program) (rule : ℕ) where
  abbrev pub process_action : ActionContext → Action → Check ActionContext
  process_action c (bind x e) =
      eval_expr room prog rule c.bindings e >>= λ v.
      pure (record { bindings = record { name = x; term = v.term } ∷ c.bindings; pairs = c.pairs ++ v.pairs })
  process_action c (union l r) =
      eval_expr room prog rule c.bindings l >>= λ a.
      eval_expr room prog rule c.bindings r >>= λ b.
      pure (record {
        bindings = c.bindings;
        pairs = c.pairs ++ a.pairs ++ b.pairs ++
            (record { lhs = a.term; rhs = b.term } ∷ record { lhs = b.term; rhs = a.term } ∷ []);
      })
  process_action c (run e) =
      eval_expr room prog rule c.bindings e >>= λ v.
      pure (record { bindings = c.bindings; pairs = c.pairs ++ v.pairs })
  process_action c idle = pure c

  -- `process_actions`: to the end, whatever is looked for.
  unfoldable pub process_actions : List Action → ActionContext → Check ActionContext
  process_actions [] c = pure c
  process_actions (a ∷ as') c = process_action c a >>= process_actions as'

-- A context of these bindings, before any action.
abbrev pub start_context : List Binding → ActionContext
start_context σ = record { bindings = σ; pairs = [] }

abbrev pub same_proposition : Proposition → Proposition → Bool
same_proposition p q = eqb p.lhs q.lhs && eqb p.rhs q.rhs

-- The ordered pair is among the pairs.
abbrev pub among : Proposition → List Proposition → Bool
among q [] = false
among q (p ∷ ps) = same_proposition q p || among q ps

-- `check_rule_produces_equality`
unfoldable pub check_rule_produces_equality : Room → Program → Rule → List Binding → Proposition → Check (Unit {0})
check_rule_produces_equality room prog r σ q =
    process_actions room prog r.name r.actions (start_context σ) >>= λ c.
    check_that (among q c.pairs) 31 (r.name ∷ q.lhs ∷ q.rhs ∷ [])

-- The merge of the first function of that name, if it has one.
unfoldable pub merge_of : List Function → ℕ → Option Expr
merge_of [] f = none
merge_of (g ∷ gs) f = elim (eqb g.name f) [ true ↦ g.merge | false ↦ merge_of gs f ]

-- `old` and `new` alone.
abbrev pub merge_bindings : ℕ → ℕ → List Binding
merge_bindings old new = record { name = name_old; term = old } ∷ record { name = name_new; term = new } ∷ []

-- `run_merge`
unfoldable pub run_merge : Room → Program → ℕ → ℕ → ℕ → Check Value
run_merge room prog f old new =
    or_refuse (merge_of prog.functions f) 43 (f ∷ []) >>= eval_expr room prog name_merge_function (merge_bindings old new)
