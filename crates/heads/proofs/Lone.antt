-- A head of one action that is a set or an expression.
use Rattle.std.specs.Prelude.{Some, None}
use mathlib.Core.Path.{◌≡◌, refl, sym, ap, ◌∙◌}
use mathlib.Core.Bool.{Bool, true, false}
use mathlib.Core.List.{List, [], ◌∷◌, map}
use Prim.Native.Nat.{ℕ, ◌<◌}
use native.Mathlib.Omega.{arith}
use lib.ListN.{length, get_or}
use Rattle.model.specs.Layout.{sizes_of}
use Rattle.model.specs.Term.{Term}
use Rattle.model.specs.Program.{Expr, Proposition, Binding, Program, Action, run, Rule}
use Rattle.model.specs.Check.{check_that}
use Rattle.model.specs.Evaluate.{eval_expr}
use Rattle.model.specs.Action.{process_actions, among}
use Rattle.decode.specs.View.{action_of}
use Rattle.decode.specs.declared.Action as view
use Rattle.index.specs.declared.Fill.{Fill}
use Rattle.termdag.specs.Store.{terms_in, room_of}
use Rattle.outcome.specs.Does.{passed, outcome_of}
use Rattle.outcome.specs.declared.Checked.{Checked}
use Rattle.outcome.proofs.Laws.{grown-same, does-map}
use Rattle.marks.specs.Marks.{zeros, is_marked, close}
use Rattle.marks.proofs.Subterms.{member-among}
use Rattle.program.specs.Ready.{program_for}
use Rattle.program.specs.Read.{expr_for, action_for, arguments_for, ActionAt}
use Rattle.evaluate.specs.Value.{value_for}
use Rattle.evaluate.specs.Evaluation.{EvaluatesRoot}
use Rattle.pairs.specs.Marking.{mark_values}
use Rattle.actions.specs.Acting.{Standing, Yields}
use Rattle.actions.proofs.Yielding.{yields-refused, yields-value}
use Rattle.actions.proofs.Acting.{standing-after}
use Rattle.heads.specs.Heading.{LoneRun, Heads, Produces}
use Rattle.heads.proofs.Heading.{produced-yes}
use Rattle.heads.proofs.Claiming.{produce-stops, produce-by, marked-is}

-- no such head
pub no_run : {J : List ℕ} {marking : Bool} {xs : List ℕ} (e : ℕ) → None ≡ Some e → LoneRun J marking xs e
no_run e q = let x : ◌≡◌ {A = ℕ} 0 1 = cc in absurd (omega arith)

-- a list of one number
one_number : (xs : List ℕ) → length xs ≡ 1 → xs ≡ get_or xs 0 0 ∷ []
one_number [] l = absurd (omega arith)
one_number (x ∷ []) l = refl
one_number (x ∷ y ∷ ys) l = absurd (omega arith)

-- the action that was read
pub lone-run : {J : List ℕ} {marking : Bool} {xs : List ℕ} {i a : ℕ} {v : view.Action} → marking ≡ true → length xs ≡ 1 → i ≡ get_or xs 0 0 → ActionAt J i v → v ≡ view.Action.Run a
    → (e : ℕ) → Some a ≡ Some e → LoneRun J marking xs e
lone-run {J} {xs = xs} {a = a} {v = v} t l q d w e z =
    let x : a ≡ e = cc in
    let y : v ≡ view.Action.Run e = w ∙ ap view.Action.Run x in
    record {
      marked = t;
      within = d.run e y;
      is = ap (map (action_for J)) (one_number xs l) ∙ ap (λ (b : Action). b ∷ []) (ap (action_for J) (sym q) ∙ sym d.is ∙ ap (action_of (expr_for J)) y);
    }

-- marks that were cleared
pub standing-cleared : {J F : List ℕ} {σ : List Binding} {k e p ix : List ℕ} {f : Fill} {memo m m₁ : List ℕ} → Standing J F σ k e p ix f memo m → length m₁ ≡ length m → Standing J F σ k e p ix f memo m₁
standing-cleared S l = standing-after S (grown-same S.indexed) S.sane S.past refl l

-- the context after one action
lone-heads : {prog : Program} {name : ℕ} {σ : List Binding} {q : Proposition} {marking : Bool} {K E P I : List ℕ} {f : Fill} {m K₁ E₁ P₁ I₁ : List ℕ} {r : Checked} {memo₁ m₁ : List ℕ} (x : Expr)
    → Yields prog σ (eval_expr (room_of K P) prog name σ x (terms_in K E P f)) marking K E P I f m K₁ E₁ P₁ I₁ r memo₁ m₁
    → Heads prog name (run x ∷ []) σ q marking K E P I f m K₁ E₁ P₁ I₁ (record { refusal = r.refusal; found = false; fill = r.fill }) memo₁ m₁
unfolding process_actions
lone-heads {name = name} {σ = σ} {q = q} x y = record {
  context = record { bindings = σ; pairs = y.value.pairs };
  does = does-map (λ c. c) _ (does-map (λ v. record { bindings = σ; pairs = v.pairs }) (record { bindings = σ; pairs = y.value.pairs }) y.does (λ _. refl)) (λ _. refl);
  past = y.past;
  grows = y.grows;
  sane = y.sane;
  others = λ n h. y.others n q h;
  marks = λ n t w. y.marks n t [] w;
}

module _ {J F : List ℕ} {name : ℕ} {σ : List Binding} {q : Proposition} {e : ℕ} {k e' p ix : List ℕ} {f : Fill} {memo m k₁ e₁ p₁ ix₁ : List ℕ} {v : Checked} {memo₁ : List ℕ}
    (S : Standing J F σ k e' p ix f memo m) (h : e < (sizes_of J).expressions) (i : q.lhs ≡ q.rhs)
    (d : EvaluatesRoot (arguments_for J) (value_for false J name σ) (sizes_of J).expressions e k e' p ix f k₁ e₁ p₁ ix₁ v memo₁)
    (rule : Rule) (nq : name ≡ rule.name) (aq : run (expr_for J e) ∷ [] ≡ rule.actions) where
  pub run-stops : (v.refusal.number ≡ 0 → ⊥) → Produces (program_for J) rule σ q k e' p ix f k₁ e₁ p₁ ix₁ v memo₁
  run-stops n = produce-stops (program_for J) rule σ q nq aq (lone-heads (expr_for J e) (yields-refused name S h d {marking = true} n)) n refl

  module _ (n : v.refusal.number ≡ 0) where
    -- the value is the claimed one
    pub run_is : v.value ≡ q.lhs → {c : Checked} → c ≡ record { refusal = passed; value = 0; fill = v.fill } → Produces (program_for J) rule σ q k e' p ix f k₁ e₁ p₁ ix₁ c memo₁
    unfolding lone-heads
    run_is u g =
        let y = yields-value name S h d {marking = false} (λ _ t o. absurd o) n refl refl in
        produce-by (program_for J) rule σ q nq aq (lone-heads (expr_for J e) y) n
        (sym (ap (λ (w : Proposition). among w y.value.pairs) (λ j. record { lhs = sym u j; rhs = (sym i ∙ sym u) j }) ∙ member-among v.value y.value.pairs (y.own n)))
        (produced-yes name q.lhs q.rhs g refl)

    -- it is another: the marks say
    pub run-marks : (w : ℕ) {c : ℕ} {m₁ : List ℕ} {claimed : Bool} {r : Checked} → m ≡ zeros w → c ≡ (sizes_of J).expressions → m₁ ≡ mark_values memo₁ c m → length m₁ ≡ length m
        → claimed ≡ is_marked (close (terms_in k₁ e₁ p₁ v.fill) v.fill.cells m₁) q.lhs
        → (r.fill ≡ v.fill) × ((s : List Term) → outcome_of r.refusal tt s ≡ check_that claimed 31 (name ∷ q.lhs ∷ q.rhs ∷ []) s)
        → Produces (program_for J) rule σ q k e' p ix f k₁ e₁ p₁ ix₁ r memo₁
    run-marks w z s g l b r =
        let H = lone-heads (expr_for J e) (yields-value name S h d {marking = true} (λ _ t o. absurd o) n s g) in
        let a = S.cells in
        let x = d.does.grown.len_k in
        produce-by (program_for J) rule σ q nq aq H n (b ∙ marked-is (program_for J) rule σ q nq aq H n refl i w z (omega arith)) r
