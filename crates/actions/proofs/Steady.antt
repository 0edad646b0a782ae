-- A round of the memo goes on where a name is bound that was not: what has a value does not see it.
use mathlib.Core.Path.{◌≡◌, refl, sym, ap, ◌∙◌}
use mathlib.Core.Bool.{Bool, true, false}
use mathlib.Core.List.{List, [], ◌∷◌}
use mathlib.Core.Option.{Option, none, some}
use Prim.Native.Nat.{ℕ}
use native.Mathlib.Omega.{arith}
use lib.Dec.{eqb}
use borrow.Author.Tests.{eqb-true}
use Rattle.model.specs.Term.{Term}
use Rattle.model.specs.Program.{Head, literal, variable, constructor, custom, primitive, Expr, node, Exprs, nil, cons, Binding, Program}
use Rattle.model.specs.Check.{Outcome, ok, and_then, ◌>>=◌, pure, or_refuse, Room}
use Rattle.model.specs.Evaluate.{lookup}
use Rattle.model.proofs.Post.{Post, post-ok, post-map, post-bind, post-result}
use Rattle.index.specs.declared.Fill.{Fill}
use Rattle.evaluate.specs.Value.{head_term, eval_term, eval_terms}
use Rattle.evaluate.proofs.Settling.{post-self, head-settled}
use Rattle.program.specs.Ready.{program_for}
use Rattle.program.specs.Read.{expr_for}
use Rattle.termdag.specs.Store.{room_of}
use Rattle.actions.specs.declared.Effect.{Effect}
use Rattle.actions.specs.Acting.{Going, effect_bindings, Steady}

module _ (fact : Bool) (room : Room) (prog : Program) (rule : ℕ) (σ : List Binding) (b : Binding) (n : lookup σ b.name ≡ none) where
  -- another name is bound as before
  lookup-other : (x t : ℕ) → lookup σ x ≡ some t → lookup (b ∷ σ) x ≡ some t
  lookup-other x t e = go (eqb b.name x) refl
    where
      go : (d : Bool) → eqb b.name x ≡ d → elim d [ true ↦ some b.term | false ↦ lookup σ x ] ≡ some t
      go true q = let z : ◌≡◌ {A = Option ℕ} none (some t) = sym n ∙ ap (lookup σ) (eqb-true b.name x q) ∙ e in let y : ◌≡◌ {A = ℕ} 0 1 = cc in absurd (omega arith)
      go false q = e

  given : (o : Option ℕ) (x : ℕ) (s : List Term) → ((t : ℕ) → o ≡ some t → lookup (b ∷ σ) x ≡ some t) → Post (or_refuse o 45 (rule ∷ x ∷ []) s) (λ a s'. or_refuse (lookup (b ∷ σ) x) 45 (rule ∷ x ∷ []) s ≡ ok a s')
  unfolding or_refuse
  given (some t) x s h = post-ok (ap (λ (o : Option ℕ). or_refuse o 45 (rule ∷ x ∷ []) s) (h t refl))
  given none x s h = record { holds = tt }

  head-fresh : (h : Head) (ts : List ℕ) (s : List Term) → Post (head_term fact room prog rule σ h ts s) (λ a s'. head_term fact room prog rule (b ∷ σ) h ts s ≡ ok a s')
  unfolding head_term
  head-fresh (literal l) ts s = post-self (head_term fact room prog rule σ (literal l) ts s) (head-settled fact room prog rule σ (literal l) ts s)
  head-fresh (variable x) ts s = given (lookup σ x) x s (lookup-other x)
  head-fresh (constructor f) ts s = post-self (head_term fact room prog rule σ (constructor f) ts s) (head-settled fact room prog rule σ (constructor f) ts s)
  head-fresh (custom f) ts s = post-self (head_term fact room prog rule σ (custom f) ts s) (head-settled fact room prog rule σ (custom f) ts s)
  head-fresh (primitive p) ts s = post-self (head_term fact room prog rule σ (primitive p) ts s) (head-settled fact room prog rule σ (primitive p) ts s)

  mutual
    unfolding eval_term

    term_fresh : (e : Expr) (s : List Term) → Post (eval_term fact room prog rule σ e s) (λ a s'. eval_term fact room prog rule (b ∷ σ) e s ≡ ok a s')
    term_fresh (node i h es) s =
        post-bind (terms-fresh es s) λ ts s₁ m.
        post-map (head-fresh h ts s₁) λ t s₂ q. ap (λ (o : Outcome (List ℕ)). and_then o (head_term fact room prog rule (b ∷ σ) h)) m ∙ q

    terms-fresh : (es : Exprs) (s : List Term) → Post (eval_terms fact room prog rule σ es s) (λ as' s'. eval_terms fact room prog rule (b ∷ σ) es s ≡ ok as' s')
    terms-fresh nil s = post-ok refl
    terms-fresh (cons e es) s =
        post-bind (term_fresh e s) λ t s₁ m.
        post-bind (terms-fresh es s₁) λ ts s₂ k.
        post-ok (ap (λ (o : Outcome ℕ). and_then o (λ t. eval_terms fact room prog rule (b ∷ σ) es >>= λ ts. pure (t ∷ ts))) m ∙ ap (λ (o : Outcome (List ℕ)). and_then o (λ ts. pure (t ∷ ts))) k)

-- after an action the round goes on, unless a name is bound anew
pub going-steady : {J : List ℕ} {rule : ℕ} {σ : List Binding} {marking : Bool} {k e p : List ℕ} {f : Fill} {memo m : List ℕ} (a : Effect) → Steady a σ → Going J rule σ marking k e p f memo m
    → Going J rule (effect_bindings a σ) marking k e p f memo m
going-steady {J} {rule} {σ} {k = k} {p = p} (Effect.Bind x t) w G = record {
  holds = record {
    long = G.holds.long;
    past = G.holds.past;
    value = λ i h u. post-result (term_fresh false (room_of k p) (program_for J) rule σ (record { name = x; term = t }) (w.unbound x t refl) (expr_for J i) _) (G.holds.value i h u);
    closed = G.holds.closed;
  };
  marked = G.marked;
}
going-steady (Effect.Union a b) w G = G
going-steady Effect.Nothing w G = G

-- an action by its effect
pub steady-bind : (y z : ℕ) {a : Effect} {σ : List Binding} → a ≡ Effect.Bind y z → lookup σ y ≡ none → Steady a σ
steady-bind y z {a} {σ} q n = record { unbound = λ x t e. let s : y ≡ x = cc in ap (lookup σ) (sym s) ∙ n }

pub steady-union : (y z : ℕ) {a : Effect} {σ : List Binding} → a ≡ Effect.Union y z → Steady a σ
steady-union y z q = record { unbound = λ x t e. let s : ◌≡◌ {A = ℕ} 0 1 = cc in absurd (omega arith) }

pub steady-nothing : {a : Effect} {σ : List Binding} → a ≡ Effect.Nothing → Steady a σ
steady-nothing q = record { unbound = λ x t e. let s : ◌≡◌ {A = ℕ} 0 1 = cc in absurd (omega arith) }
