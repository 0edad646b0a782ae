-- The trees' side says no more than the store's: evaluation, facts, conditions, actions, merges. Where the store's side is refused by another number than 53,
-- the trees' side has no value; where it has a value, the trees' side has one.
use Prim.Native.Nat.{ℕ}
use mathlib.Core.Path.{◌≡◌}
use mathlib.Core.List.{List}
use mathlib.Core.Bool.{Bool}
use mathlib.Core.Option.{Option, none, some}
use Rattle.model.specs.Term.{Term}
use Rattle.model.specs.Program.{Expr, Proposition, Binding, Program, Fact, Action}
use Rattle.model.specs.Check.{Refusal, Outcome, ok, refused, Room, ◌>>?◌}
use Rattle.model.specs.Evaluate.{eval_expr, eval_fact_expr}
use Rattle.model.specs.Fact.{check_side_condition, check_fact_matches_proposition}
use Rattle.model.specs.Action.{ActionContext, process_actions, run_merge}
use Rattle.model.specs.Tree.{Tree, TreePair, TreeBinding, TreeRow, TreeContext, tree_eval, tree_fact_eval, tree_wanted, tree_condition, tree_actions, tree_merge}
use Rattle.model.proofs.Represent.{Rep, rep-keeps}
use Rattle.model.proofs.Post.{post-result}
use Rattle.model.proofs.Agree.{Agree, agree-bind, agree-map, agree-post, agree-refused}
use Rattle.model.proofs.Evaluation.{Binds, Covers, Stands, World, keeps, eval-agrees, fact-eval-agrees}
use Rattle.model.proofs.Facts.{tree_matches, wanted-agrees, matches-agrees, condition-agrees, actions-agree, merge-agrees}

module _ {A B : Type 0} where
  pub record Exact (o : Outcome A) (O : Option B) : Type 0 where
    pub refusal : {r : Refusal} {s : List Term} → o ≡ refused r s → ¬ (r.number ≡ 53) → O ≡ none
    pub value : {a : A} {s : List Term} → o ≡ ok a s → (b : B) × (O ≡ some b)

  exact : {o : Outcome A} {O : Option B} {P : A → List Term → B → Type 0} → Agree o O P → Exact o O
  exact g = record { refusal = λ e n. agree-refused g e n; value = λ e. let v = post-result (agree-post g) e in (v.0, v.1) }

-- in a store that the check may have, with bindings and pairs that stand for each other
module _ (room : Room) (prog : Program) (rows : List TreeRow) (rule : ℕ) (s : List Term) (w : World prog rows s) where
  module _ (Σ' : List TreeBinding) (σ : List Binding) (b : Binds s Σ' σ) where
    pub evaluation-exact : (e : Expr) → Exact (eval_expr room prog rule σ e s) (tree_eval prog rows e Σ')
    evaluation-exact e = exact (eval-agrees prog rows room rule e Σ' σ s w b)

    pub fact-evaluation-exact : (e : Expr) → Exact (eval_fact_expr room prog rule σ e s) (tree_fact_eval prog rows e Σ')
    fact-evaluation-exact e = exact (fact-eval-agrees prog rows room rule e Σ' σ s w b)

    pub condition-exact : (strict : Bool) (f : Fact) → Exact (check_side_condition room prog rule σ strict f s) (tree_condition prog rows strict Σ' f)
    condition-exact strict f = exact (condition-agrees prog rows room rule strict Σ' σ f s w b)

    -- against a premise that proves q, whose trees are Q: the pair wanted, where Q is that one
    pub fact-exact : (f : Fact) (q : Proposition) (Q : TreePair) → Stands Q s q
        → Exact (check_fact_matches_proposition room prog rule σ f q s) (tree_wanted prog rows Σ' f >>? tree_matches f Q)
    fact-exact f q Q h = exact (agree-bind (wanted-agrees prog rows room rule Σ' σ f s w b) λ x s₁ W m.
        agree-map {Q = λ _ _ _. Unit {0}} (matches-agrees prog rows rule f x q W Q s₁ m.after.world.distinct m.stands
        (record { left = rep-keeps Q.left (keeps prog rows m.after) q.lhs h.left; right = rep-keeps Q.right (keeps prog rows m.after) q.rhs h.right })) λ _ _ _ _. tt)

  pub actions-exact : (C : TreeContext) (c : ActionContext) → Binds s C.bindings c.bindings → Covers C.pairs s c.pairs
      → (as' : List Action) → Exact (process_actions room prog rule as' c s) (tree_actions prog rows as' C)
  actions-exact C c b k as' = exact (actions-agree prog rows room rule as' C c s w b k)

  pub merge-exact : (f old new : ℕ) (O N : Tree) → Rep O s old → Rep N s new → Exact (run_merge room prog f old new s) (tree_merge prog rows f O N)
  merge-exact f old new O N p q = exact (merge-agrees prog rows room f old new O N s w p q)
