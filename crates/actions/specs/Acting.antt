-- The contract of actions: the context after, as the definition has it, and what the code keeps of it.
use Rattle.std.specs.Prelude.{ℕ, ◌+◌, ◌*◌, ◌<◌, ◌≤◌, length, drop, ◌≡◌, Bool, true, false, ◌||◌}
use Rattle.index.specs.declared.Store.{Store}
use mathlib.Core.List.{List, ◌∷◌, ◌++◌, Memᴰ}
use Rattle.std.proofs.Math.Option.{none}
use Rattle.model.specs.Layout.{sizes_of}
use Rattle.model.specs.Term.{Extends}
use Rattle.model.specs.Program.{Proposition, Binding, Program, Action}
use Rattle.model.specs.Decode.{read_bindings}
use Rattle.model.specs.Check.{Outcome}
use Rattle.model.specs.Evaluate.{lookup, same, Value}
use Rattle.model.specs.Action.{process_action, same_proposition, among}
use Rattle.termdag.specs.Store.{terms_in, Indexed, room_of}
use Rattle.index.specs.declared.Fill.{Fill}
use Rattle.memo.specs.Memo.{value_at, is_noted, Past}
use Rattle.outcome.specs.Does.{Does}
use Rattle.outcome.specs.declared.Checked.{Checked}
use Rattle.marks.specs.Covering.{Marked, Marks}
use Rattle.program.specs.Ready.{Ready, program_for}
use Rattle.program.specs.Read.{arguments_for}
use Rattle.lookups.specs.Keyed.{Keyed}
use Rattle.evaluate.specs.Value.{eval_for}
use Rattle.evaluate.specs.Evaluation.{Sane, Memo}
use Rattle.pairs.specs.Marking.{mark_values}
use Rattle.actions.specs.declared.Effect.{Effect}
use Rattle.actions.specs.declared.Acted.{Acted}

-- What an action may be handed: an admitted job with the chains of its tables in F, a store that is sane under the bindings σ, a memo, and room for a mark for each cell of the store.
pub record Standing (J F : List ℕ) (σ : List Binding) (k e p ix : List ℕ) (f : Fill) (memo m : List ℕ) : Type 0 where
  pub ready : Ready J
  pub keyed : Keyed J F
  pub indexed : Indexed k e p ix f
  pub sane : Sane (program_for J) σ (terms_in k e p f)
  pub fits : (sizes_of J).expressions + (sizes_of J).expressions < length memo
  pub past : Past memo
  pub cells : length k ≤ 32 * length m

-- The same, of a store.
abbrev pub StandingIn : List ℕ → List ℕ → List Binding → Store → Fill → List ℕ → List ℕ → Type 0
StandingIn J F σ s f memo m = Standing J F σ s.kinds.now s.ends.now s.pool.now s.index.now f memo m

-- A round of the memo that may go on: what is noted holds in the store under the bindings σ, and is marked, if there is marking.
pub record Going (J : List ℕ) (rule : ℕ) (σ : List Binding) (marking : Bool) (k e p : List ℕ) (f : Fill) (memo m : List ℕ) : Type 0 where
  pub holds : Memo (arguments_for J) (eval_for false J rule σ (room_of k p)) (sizes_of J).expressions (terms_in k e p f) memo
  pub marked : marking ≡ true → (i : ℕ) → i < (sizes_of J).expressions → is_noted memo i ≡ true → Marked m (value_at memo i)

-- The same, of a store.
abbrev pub GoingIn : List ℕ → ℕ → List Binding → Bool → Store → Fill → List ℕ → List ℕ → Type 0
GoingIn J rule σ marking s f memo m = Going J rule σ marking s.kinds.now s.ends.now s.pool.now f memo m

-- The marks after an evaluation.
abbrev pub marked_if : Bool → List ℕ → ℕ → List ℕ → List ℕ
marked_if true memo n m = mark_values memo n m
marked_if false memo n m = m

-- The bindings after an action.
abbrev pub effect_bindings : Effect → List Binding → List Binding
effect_bindings (Effect.Bind x t) σ = record { name = x; term = t } ∷ σ
effect_bindings (Effect.Union a b) σ = σ
effect_bindings Effect.Nothing σ = σ

-- An action that bound no name, or one that the bindings σ do not have.
pub record Steady (a : Effect) (σ : List Binding) : Type 0 where
  pub unbound : (x t : ℕ) → a ≡ Effect.Bind x t → lookup σ x ≡ none

-- The pair is one of a union's two.
abbrev pub effect_has : Effect → Proposition → Bool
effect_has (Effect.Bind x t) q = false
effect_has (Effect.Union a b) q = same_proposition q (record { lhs = a; rhs = b }) || same_proposition q (record { lhs = b; rhs = a })
effect_has Effect.Nothing q = false

-- An evaluation whose outcome is o, with marks m that stand for pairs before: where it is a value, its store is sane, and the marks stand for its pairs as well, if there is marking.
pub record Yields (prog : Program) (σ : List Binding) (o : Outcome Value) (marking : Bool) (K E P I : List ℕ) (f : Fill) (m K' E' P' I' : List ℕ) (r : Checked) (memo' m' : List ℕ) : Type 0 where
  pub value : Value
  pub does : Does K E P I f K' E' P' I' r.fill r.refusal value o
  pub term : r.refusal.number ≡ 0 → value.term ≡ r.value
  pub past : r.refusal.number ≡ 0 → Past memo'
  pub grows : r.refusal.number ≡ 0 → Extends (terms_in K E P f) (terms_in K' E' P' r.fill)
  pub sane : r.refusal.number ≡ 0 → Sane prog σ (terms_in K' E' P' r.fill)
  pub inside : r.refusal.number ≡ 0 → r.value < length (terms_in K' E' P' r.fill)
  pub own : r.refusal.number ≡ 0 → Memᴰ (same r.value) value.pairs
  pub others : r.refusal.number ≡ 0 → (q : Proposition) → (q.lhs ≡ q.rhs → ⊥) → among q value.pairs ≡ false
  pub marks : r.refusal.number ≡ 0 → marking ≡ true → (ps : List Proposition) → Marks (terms_in K E P f) m ps → Marks (terms_in K' E' P' r.fill) m' (ps ++ value.pairs)

-- The same, of a store.
abbrev pub YieldsIn : Program → List Binding → Outcome Value → Bool → Store → Fill → List ℕ → Store → Checked → List ℕ → List ℕ → Type 0
YieldsIn prog σ o marking s f m s' r memo' m' = Yields prog σ o marking s.kinds.now s.ends.now s.pool.now s.index.now f m s'.kinds.now s'.ends.now s'.pool.now s'.index.now r memo' m'

-- The action a in a context of the bindings σ: the context after. Of its pairs, those that are not reflexive are a union's; the marks stand for the others, if there is marking.
pub record Acts (prog : Program) (rule : ℕ) (a : Action) (σ : List Binding) (marking : Bool) (K E P I : List ℕ) (f : Fill) (m K' E' P' I' : List ℕ) (r : Acted) (memo' m' : List ℕ) : Type 0 where
  pub pairs : List Proposition
  pub does : (ps : List Proposition) → Does K E P I f K' E' P' I' r.fill r.refusal (record { bindings = effect_bindings r.effect σ; pairs = ps ++ pairs })
      (process_action (room_of K P) prog rule (record { bindings = σ; pairs = ps }) a (terms_in K E P f))
  pub past : r.refusal.number ≡ 0 → Past memo'
  pub grows : r.refusal.number ≡ 0 → Extends (terms_in K E P f) (terms_in K' E' P' r.fill)
  pub sane : r.refusal.number ≡ 0 → Sane prog (effect_bindings r.effect σ) (terms_in K' E' P' r.fill)
  pub others : r.refusal.number ≡ 0 → (q : Proposition) → (q.lhs ≡ q.rhs → ⊥) → among q pairs ≡ effect_has r.effect q
  pub marks : r.refusal.number ≡ 0 → marking ≡ true → (ps : List Proposition) → Marks (terms_in K E P f) m ps → Marks (terms_in K' E' P' r.fill) m' (ps ++ pairs)

-- The same, of a store.
abbrev pub ActsIn : Program → ℕ → Action → List Binding → Bool → Store → Fill → List ℕ → Store → Acted → List ℕ → List ℕ → Type 0
ActsIn prog rule a σ marking s f m s' r memo' m' = Acts prog rule a σ marking s.kinds.now s.ends.now s.pool.now s.index.now f m s'.kinds.now s'.ends.now s'.pool.now s'.index.now r memo' m'

-- From r on the table T' has the bindings after an action, where T had those before it from `at` on.
pub record Pushed (T : List ℕ) (at : ℕ) (e : Effect) (T' : List ℕ) (r : ℕ) : Type 0 where
  pub least : at ≤ r + 2
  pub most : r ≤ at
  pub bindings : read_bindings (drop r T') ≡ effect_bindings e (read_bindings (drop at T))
