-- The contract of the global actions: the context that they leave, and what the code keeps of it.
use Rattle.std.specs.Prelude.{ℕ, ◌+◌, ◌≤◌, ◌≡◌, List, [], ◌∷◌, ◌++◌, Bool, false, ◌||◌, take, drop}
use Rattle.index.specs.declared.Store.{Store}
use Rattle.model.specs.Program.{name_global_actions, Proposition, Program, Action}
use Rattle.model.specs.Decode.{read_bindings}
use Rattle.model.specs.Evaluate.{same}
use Rattle.model.specs.Action.{ActionContext, start_context, process_action, process_actions, same_proposition, among}
use Rattle.model.specs.Walk.{new_context}
use Rattle.model.specs.Term.{Extends}
use Rattle.index.specs.declared.Fill.{Fill}
use Rattle.termdag.specs.Store.{terms_in, room_of}
use Rattle.memo.specs.Memo.{Past}
use Rattle.outcome.specs.Does.{Does}
use Rattle.marks.specs.Marks.{is_marked}
use Rattle.marks.specs.Covering.{Marks}
use Rattle.evaluate.specs.Evaluation.{Sane}
use Rattle.actions.specs.Acting.{effect_has}
use Rattle.actions.specs.declared.Effect.{Effect}
use Rattle.context.specs.declared.Globals.{Globals}

-- Two words make a union: the pair is one of the two of a union.
abbrev pub unions_have : List ℕ → Proposition → Bool
unions_have [] q = false
unions_have (a ∷ []) q = false
unions_have (a ∷ b ∷ ws) q = (same_proposition q (record { lhs = a; rhs = b }) || same_proposition q (record { lhs = b; rhs = a })) || unions_have ws q

-- So many words make whole unions.
pub record Even (n : ℕ) : Type 0 where
  pub half : ℕ
  pub twice : n ≡ half + half

-- The first r words of U' are the unions that the first n of U were, and the union of an action.
pub record Joined (U : List ℕ) (n : ℕ) (e : Effect) (U' : List ℕ) (r : ℕ) : Type 0 where
  pub even : Even r
  pub most : r ≤ n + 2
  pub has : (q : Proposition) → unions_have (take r U') q ≡ (unions_have (take n U) q || effect_has e q)

-- The pairs ps: the unions U stand for those that are not reflexive, the marks for the others.
pub record GlobalPairs (ps : List Proposition) (U m : List ℕ) : Type 0 where
  pub others : (q : Proposition) → (q.lhs ≡ q.rhs → ⊥) → among q ps ≡ unions_have U q
  pub reflexive : (x : ℕ) → is_marked m x ≡ among (same x) ps

-- One action a in a context whose bindings the table T has from `at` on, and whose unions are the first n words of U: the context after.
pub record Turned (prog : Program) (a : Action) (K E P I : List ℕ) (f : Fill) (m T : List ℕ) (at : ℕ) (U : List ℕ) (n : ℕ) (K' E' P' I' : List ℕ) (r : Globals) (memo' m' T' U' : List ℕ) : Type 0 where
  pub pairs : List Proposition
  pub does : (ps : List Proposition) → Does K E P I f K' E' P' I' r.fill r.refusal (record { bindings = read_bindings (drop r.bindings T'); pairs = ps ++ pairs })
      (process_action (room_of K P) prog name_global_actions (record { bindings = read_bindings (drop at T); pairs = ps }) a (terms_in K E P f))
  pub past : r.refusal.number ≡ 0 → Past memo'
  pub grows : r.refusal.number ≡ 0 → Extends (terms_in K E P f) (terms_in K' E' P' r.fill)
  pub sane : r.refusal.number ≡ 0 → Sane prog (read_bindings (drop r.bindings T')) (terms_in K' E' P' r.fill)
  pub marks : r.refusal.number ≡ 0 → (ps : List Proposition) → Marks (terms_in K E P f) m ps → Marks (terms_in K' E' P' r.fill) m' (ps ++ pairs)
  pub others : r.refusal.number ≡ 0 → (q : Proposition) → (q.lhs ≡ q.rhs → ⊥) → (unions_have (take n U) q || among q pairs) ≡ unions_have (take r.unions U') q
  pub even : Even r.unions
  pub least : at ≤ r.bindings + 2
  pub most : r.bindings ≤ at
  pub unions : r.unions ≤ n + 2

-- The same, of a store.
abbrev pub TurnedIn : Program → Action → Store → Fill → List ℕ → List ℕ → ℕ → List ℕ → ℕ → Store → Globals → List ℕ → List ℕ → List ℕ → List ℕ → Type 0
TurnedIn prog a s f m T at U n s' r memo' m' T' U' = Turned prog a s.kinds.now s.ends.now s.pool.now s.index.now f m T at U n s'.kinds.now s'.ends.now s'.pool.now s'.index.now r memo' m' T' U'

-- The global actions, with marks that are not closed yet.
pub record Collected (prog : Program) (K E P I : List ℕ) (f : Fill) (K' E' P' I' : List ℕ) (r : Globals) (memo' m' T' U' : List ℕ) : Type 0 where
  pub context : ActionContext
  pub does : Does K E P I f K' E' P' I' r.fill r.refusal context (process_actions (room_of K P) prog name_global_actions prog.globals (start_context []) (terms_in K E P f))
  pub past : r.refusal.number ≡ 0 → Past memo'
  pub grows : r.refusal.number ≡ 0 → Extends (terms_in K E P f) (terms_in K' E' P' r.fill)
  pub bindings : r.refusal.number ≡ 0 → context.bindings ≡ read_bindings (drop r.bindings T')
  pub sane : r.refusal.number ≡ 0 → Sane prog context.bindings (terms_in K' E' P' r.fill)
  pub marks : r.refusal.number ≡ 0 → Marks (terms_in K' E' P' r.fill) m' context.pairs
  pub others : r.refusal.number ≡ 0 → (q : Proposition) → (q.lhs ≡ q.rhs → ⊥) → among q context.pairs ≡ unions_have (take r.unions U') q
  pub table : r.bindings ≤ 512
  pub unions : r.unions ≤ 512

-- The same, of a store.
abbrev pub CollectedIn : Program → Store → Fill → Store → Globals → List ℕ → List ℕ → List ℕ → List ℕ → Type 0
CollectedIn prog s f s' r memo' m' T' U' = Collected prog s.kinds.now s.ends.now s.pool.now s.index.now f s'.kinds.now s'.ends.now s'.pool.now s'.index.now r memo' m' T' U'

-- `ProofCheckContext::new`: the context, its bindings in the table from r.bindings on, and its pairs as unions and marks.
pub record Context (prog : Program) (K E P I : List ℕ) (f : Fill) (K' E' P' I' : List ℕ) (r : Globals) (memo' m' T' U' : List ℕ) : Type 0 where
  pub context : ActionContext
  pub does : Does K E P I f K' E' P' I' r.fill r.refusal context (new_context (room_of K P) prog (terms_in K E P f))
  pub past : r.refusal.number ≡ 0 → Past memo'
  pub grows : r.refusal.number ≡ 0 → Extends (terms_in K E P f) (terms_in K' E' P' r.fill)
  pub bindings : r.refusal.number ≡ 0 → context.bindings ≡ read_bindings (drop r.bindings T')
  pub sane : r.refusal.number ≡ 0 → Sane prog context.bindings (terms_in K' E' P' r.fill)
  pub pairs : r.refusal.number ≡ 0 → GlobalPairs context.pairs (take r.unions U') m'
  pub table : r.bindings ≤ 512
  pub unions : r.unions ≤ 512

-- The same, of a store.
abbrev pub ContextIn : Program → Store → Fill → Store → Globals → List ℕ → List ℕ → List ℕ → List ℕ → Type 0
ContextIn prog s f s' r memo' m' T' U' = Context prog s.kinds.now s.ends.now s.pool.now s.index.now f s'.kinds.now s'.ends.now s'.pool.now s'.index.now r memo' m' T' U'
