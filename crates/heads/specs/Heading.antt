-- The contracts of rule heads and merges.
use Rattle.std.specs.Prelude.{ℕ, ◌<◌, ◌≡◌, List, [], ◌∷◌, map, Bool, true, false, length}
use Rattle.index.specs.declared.Store.{Store}
use Rattle.model.specs.Layout.{sizes_of}
use Rattle.model.specs.Term.{Extends}
use Rattle.model.specs.Program.{Proposition, Binding, Program, Action, run, Rule}
use Rattle.model.specs.Action.{ActionContext, start_context, process_actions, among, check_rule_produces_equality}
use Rattle.termdag.specs.Store.{terms_in, room_of}
use Rattle.index.specs.declared.Fill.{Fill}
use Rattle.memo.specs.Memo.{Past}
use Rattle.outcome.specs.Does.{Does}
use Rattle.outcome.specs.declared.Checked.{Checked}
use Rattle.marks.specs.Marks.{zeros}
use Rattle.marks.specs.Covering.{Marks}
use Rattle.program.specs.Read.{expr_for, action_for}
use Rattle.evaluate.specs.Evaluation.{Sane, Checks}
use Rattle.heads.specs.declared.Headed.{Headed}

-- The marks cleared, if they are used.
abbrev pub cleared_if : Bool → List ℕ → List ℕ
cleared_if true m = zeros (length m)
cleared_if false m = m

-- A claimed pair: by the marks where it is reflexive, else by the unions.
abbrev pub claimed_by : Bool → Bool → Bool → Bool
claimed_by true found marked = marked
claimed_by false found marked = found

-- There is marking, and the actions xs are one that evaluates expression e.
pub record LoneRun (J : List ℕ) (marking : Bool) (xs : List ℕ) (e : ℕ) : Type 0 where
  pub marked : marking ≡ true
  pub within : e < (sizes_of J).expressions
  pub is : map (action_for J) xs ≡ run (expr_for J e) ∷ []

-- The actions of a head with the bindings σ: the context after. A pair q of it that is not reflexive is a union's; the marks stand for the reflexive ones, if there is marking.
pub record Heads (prog : Program) (rule : ℕ) (as' : List Action) (σ : List Binding) (q : Proposition) (marking : Bool) (K E P I : List ℕ) (f : Fill) (m K' E' P' I' : List ℕ) (r : Headed) (memo' m' : List ℕ) : Type 0 where
  pub context : ActionContext
  pub does : Does K E P I f K' E' P' I' r.fill r.refusal context (process_actions (room_of K P) prog rule as' (start_context σ) (terms_in K E P f))
  pub past : r.refusal.number ≡ 0 → Past memo'
  pub grows : r.refusal.number ≡ 0 → Extends (terms_in K E P f) (terms_in K' E' P' r.fill)
  pub sane : r.refusal.number ≡ 0 → Sane prog σ (terms_in K' E' P' r.fill)
  pub others : r.refusal.number ≡ 0 → (q.lhs ≡ q.rhs → ⊥) → among q context.pairs ≡ r.found
  pub marks : r.refusal.number ≡ 0 → marking ≡ true → Marks (terms_in K E P f) m [] → Marks (terms_in K' E' P' r.fill) m' context.pairs

-- The same, of a store.
abbrev pub HeadsIn : Program → ℕ → List Action → List Binding → Proposition → Bool → Store → Fill → List ℕ → Store → Headed → List ℕ → List ℕ → Type 0
HeadsIn prog rule as' σ q marking s f m s' r memo' m' = Heads prog rule as' σ q marking s.kinds.now s.ends.now s.pool.now s.index.now f m s'.kinds.now s'.ends.now s'.pool.now s'.index.now r memo' m'

-- A head that must produce the pair q: the outcome is the definition's, and after a value the store is sane.
pub record Produces (prog : Program) (rule : Rule) (σ : List Binding) (q : Proposition) (K E P I : List ℕ) (f : Fill) (K' E' P' I' : List ℕ) (r : Checked) (memo' : List ℕ) : Type 0 where
  pub checks : Checks K E P I f K' E' P' I' r.fill r.refusal tt memo' (check_rule_produces_equality (room_of K P) prog rule σ q (terms_in K E P f))
  pub grows : r.refusal.number ≡ 0 → Extends (terms_in K E P f) (terms_in K' E' P' r.fill)
  pub sane : r.refusal.number ≡ 0 → Sane prog σ (terms_in K' E' P' r.fill)

-- The same, of a store.
abbrev pub ProducesIn : Program → Rule → List Binding → Proposition → Store → Fill → Store → Checked → List ℕ → Type 0
ProducesIn prog rule σ q s f s' r memo' = Produces prog rule σ q s.kinds.now s.ends.now s.pool.now s.index.now f s'.kinds.now s'.ends.now s'.pool.now s'.index.now r memo'
