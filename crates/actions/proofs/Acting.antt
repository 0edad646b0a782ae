-- Actions, from the evaluations that they make.
use mathlib.Core.Path.{◌≡◌, refl, sym, ap, subst, subst⁻¹, ◌∙◌}
use mathlib.Core.Logic.{◌⊎◌, inl, inr}
use mathlib.Core.Bool.{Bool, true, false, ◌||◌}
use mathlib.Core.List.Memᴰ
use mathlib.Core.List.{List, [], ◌∷◌, ◌++◌, append_assoc, append-nil, Memᴰ}
use Prim.Native.Nat.{ℕ, suc, ◌-◌, ◌≤◌}
use native.Mathlib.Omega.{arith}
use lib.ListN.{length, get_or, set, drop, length-set}
use lib.Seq.{drop-cons, get_or-set_same, get_or-set_other, drop-set-lt}
use Rattle.model.specs.Decode.{read_bindings}
use Rattle.model.specs.Program.{Expr, Proposition, Binding, Program, Action, bind, union, run, idle}
use Rattle.model.specs.Check.{Outcome, ok, pure, ◌>>=◌}
use Rattle.model.specs.Evaluate.{same, Value, eval_expr}
use Rattle.model.specs.Action.{ActionContext, same_proposition, among}
use Rattle.model.proofs.Store.{extends-same, extends-then}
use Rattle.index.specs.declared.Fill.{Fill}
use Rattle.decode.specs.View.{action_of}
use Rattle.decode.specs.declared.Action as view
use Rattle.termdag.specs.Store.{terms_in, room_of}
use Rattle.memo.specs.Memo.{Past}
use Rattle.outcome.specs.Does.{passed, Grown}
use Rattle.outcome.specs.declared.Refusal.{Refusal}
use Rattle.outcome.specs.declared.Checked.{Checked}
use Rattle.outcome.proofs.Laws.{does-here, does-then, does-stop, does-map}
use Rattle.marks.specs.Covering.{Marks}
use Rattle.marks.proofs.Marking.{marks-same}
use Rattle.program.specs.Ready.{program_for}
use Rattle.evaluate.specs.Evaluation.{Sane}
use Rattle.evaluate.proofs.Keeping.{sane-bind}
use Rattle.actions.specs.declared.Effect.{Effect}
use Rattle.actions.specs.declared.Acted.{Acted}
use Rattle.actions.specs.Acting.{Standing, effect_bindings, Yields, Acts, Pushed}

abbrev acted : Refusal → Effect → Fill → Acted
acted r e f = record { refusal = r; effect = e; fill = f }

-- a pair among two lists
pub or_no : (a : Bool) → (a || false) ≡ a
or_no true = refl
or_no false = refl

pub or_assoc : (a b c : Bool) → (a || (b || c)) ≡ ((a || b) || c)
or_assoc true b c = refl
or_assoc false b c = refl

pub among-append : (q : Proposition) (xs ys : List Proposition) → among q (xs ++ ys) ≡ (among q xs || among q ys)
among-append q [] ys = refl
among-append q (x ∷ xs) ys = ap (λ (b : Bool). same_proposition q x || b) (among-append q xs ys) ∙ or_assoc (same_proposition q x) (among q xs) (among q ys)

-- the context after a union
abbrev united : List Binding → List Proposition → Value → Value → ActionContext
united σ ps a b = record {
  bindings = σ;
  pairs = ps ++ a.pairs ++ b.pairs ++ (record { lhs = a.term; rhs = b.term } ∷ record { lhs = b.term; rhs = a.term } ∷ []);
}

-- what is handed on after a value
pub standing-after : {J F : List ℕ} {σ τ : List Binding} {k e p ix : List ℕ} {f : Fill} {memo m k₁ e₁ p₁ ix₁ : List ℕ} {f₁ : Fill} {memo₁ m₁ : List ℕ}
    → Standing J F σ k e p ix f memo m → Grown k e p ix f k₁ e₁ p₁ ix₁ f₁ → Sane (program_for J) τ (terms_in k₁ e₁ p₁ f₁) → Past memo₁ → length memo₁ ≡ length memo → length m₁ ≡ length m
    → Standing J F τ k₁ e₁ p₁ ix₁ f₁ memo₁ m₁
standing-after S g w q a b = record {
  ready = S.ready;
  keyed = S.keyed;
  indexed = g.indexed;
  sane = w;
  fits = let x = S.fits in omega arith;
  past = q;
  cells = let x = S.cells in let y = g.len_k in omega arith;
}

module _ (rule : ℕ) {prog : Program} {σ : List Binding} {marking : Bool} {K E P I : List ℕ} {f : Fill} {m K₁ E₁ P₁ I₁ : List ℕ} {r : Checked} {memo₁ m₁ : List ℕ} where
  -- let
  pub acts-let : (x : ℕ) (e : Expr) → Yields prog σ (eval_expr (room_of K P) prog rule σ e (terms_in K E P f)) marking K E P I f m K₁ E₁ P₁ I₁ r memo₁ m₁
      → Acts prog rule (bind x e) σ marking K E P I f m K₁ E₁ P₁ I₁ (acted r.refusal (Effect.Bind x r.value) r.fill) memo₁ m₁
  acts-let x e y = record {
    pairs = y.value.pairs;
    does = λ ps. does-map (λ v. record { bindings = record { name = x; term = v.term } ∷ σ; pairs = ps ++ v.pairs }) _ y.does
        (λ n. ap {B = ActionContext} (λ (t : ℕ). record { bindings = record { name = x; term = t } ∷ σ; pairs = ps ++ y.value.pairs }) (y.term n));
    past = y.past;
    grows = y.grows;
    sane = λ n. sane-bind x r.value (y.inside n) (y.sane n);
    others = y.others;
    marks = y.marks;
  }

  -- set or expression
  pub acts-run : (e : Expr) → Yields prog σ (eval_expr (room_of K P) prog rule σ e (terms_in K E P f)) marking K E P I f m K₁ E₁ P₁ I₁ r memo₁ m₁ → Acts prog rule (run e) σ marking K E P I f m K₁ E₁ P₁ I₁ (acted r.refusal Effect.Nothing r.fill) memo₁ m₁
  acts-run e y = record {
    pairs = y.value.pairs;
    does = λ ps. does-map (λ v. record { bindings = σ; pairs = ps ++ v.pairs }) _ y.does (λ n. refl);
    past = y.past;
    grows = y.grows;
    sane = y.sane;
    others = y.others;
    marks = y.marks;
  }

  -- union
  pub union-stops : (l t : Expr) → Yields prog σ (eval_expr (room_of K P) prog rule σ l (terms_in K E P f)) marking K E P I f m K₁ E₁ P₁ I₁ r memo₁ m₁ → (r.refusal.number ≡ 0 → ⊥)
      → Acts prog rule (union l t) σ marking K E P I f m K₁ E₁ P₁ I₁ (acted r.refusal Effect.Nothing r.fill) memo₁ m₁
  union-stops l t y n = record {
    pairs = [];
    does = λ ps. does-stop _ (λ a. eval_expr (room_of K P) prog rule σ t >>= λ b. pure (united σ ps a b)) y.does n;
    past = λ q. absurd (n q);
    grows = λ q. absurd (n q);
    sane = λ q. absurd (n q);
    others = λ q. absurd (n q);
    marks = λ q. absurd (n q);
  }

  module _ {K₂ E₂ P₂ I₂ : List ℕ} {r₂ : Checked} {memo₂ m₂ : List ℕ} (l t : Expr) (y : Yields prog σ (eval_expr (room_of K P) prog rule σ l (terms_in K E P f)) marking K E P I f m K₁ E₁ P₁ I₁ r memo₁ m₁) (n : r.refusal.number ≡ 0)
      (y₂ : Yields prog σ (eval_expr (room_of K₁ P₁) prog rule σ t (terms_in K₁ E₁ P₁ r.fill)) marking K₁ E₁ P₁ I₁ r.fill m₁ K₂ E₂ P₂ I₂ r₂ memo₂ m₂) where
    abbrev two : List Proposition
    two = record { lhs = r.value; rhs = r₂.value } ∷ record { lhs = r₂.value; rhs = r.value } ∷ []

    pub acts-union : Acts prog rule (union l t) σ marking K E P I f m K₂ E₂ P₂ I₂ (acted r₂.refusal (Effect.Union r.value r₂.value) r₂.fill) memo₂ m₂
    acts-union = record {
      pairs = y.value.pairs ++ y₂.value.pairs ++ two;
      does = λ ps. does-then (λ room a. eval_expr room prog rule σ t >>= λ b. pure (united σ ps a b)) y.does n
          (does-map (united σ ps y.value) _ y₂.does (λ n₂. (λ i. record {
            bindings = σ;
            pairs = ps ++ y.value.pairs ++ y₂.value.pairs ++ (record { lhs = y.term n i; rhs = y₂.term n₂ i } ∷ record { lhs = y₂.term n₂ i; rhs = y.term n i } ∷ []);
          }) ∙ ap {B = ActionContext} (λ (qs : List Proposition). record { bindings = σ; pairs = qs }) (all_one ps)));
      past = y₂.past;
      grows = λ n₂. extends-then (y.grows n) (y₂.grows n₂);
      sane = y₂.sane;
      others = λ n₂ q h. among-append q (y.value.pairs ++ y₂.value.pairs) two
          ∙ ap (λ (b : Bool). b || among q two) (among-append q y.value.pairs y₂.value.pairs ∙ (λ i. y.others n q h i || y₂.others n₂ q h i))
          ∙ ap (λ (b : Bool). same_proposition q (record { lhs = r.value; rhs = r₂.value }) || b) (or_no (same_proposition q (record { lhs = r₂.value; rhs = r.value })));
      marks = λ n₂ k ps w. subst (Marks (terms_in K₂ E₂ P₂ r₂.fill) m₂) (all_one ps)
          (marks-same (λ x u. Memᴰ.append_left two u) (λ x u. back n₂ x ps (Memᴰ.append_cases (ps ++ y.value.pairs ++ y₂.value.pairs) u))
          (y₂.marks n₂ k (ps ++ y.value.pairs) (y.marks n k ps w)));
    }
      where
        all_one : (ps : List Proposition) → ps ++ y.value.pairs ++ y₂.value.pairs ++ two ≡ ps ++ (y.value.pairs ++ y₂.value.pairs ++ two)
        all_one ps = ap (λ (l : List Proposition). l ++ two) (append_assoc ps y.value.pairs y₂.value.pairs) ∙ append_assoc ps (y.value.pairs ++ y₂.value.pairs) two

        -- a union's pair that is reflexive is the value's own
        own : (x : ℕ) → Memᴰ (same x) two → x ≡ r₂.value
        own x u = go (Memᴰ.cases_cons u)
          where
            last : (same x ≡ record { lhs = r₂.value; rhs = r.value }) ⊎ Memᴰ (same x) [] → x ≡ r₂.value
            last (inl e) = ap (λ (p : Proposition). p.lhs) e
            last (inr v) = absurd (Memᴰ.not-nil v)

            go : (same x ≡ record { lhs = r.value; rhs = r₂.value }) ⊎ Memᴰ (same x) (record { lhs = r₂.value; rhs = r.value } ∷ []) → x ≡ r₂.value
            go (inl e) = ap (λ (p : Proposition). p.rhs) e
            go (inr v) = last (Memᴰ.cases_cons v)

        back : r₂.refusal.number ≡ 0 → (x : ℕ) (ps : List Proposition) → Memᴰ (same x) (ps ++ y.value.pairs ++ y₂.value.pairs) ⊎ Memᴰ (same x) two
            → Memᴰ (same x) (ps ++ y.value.pairs ++ y₂.value.pairs)
        back n₂ x ps (inl v) = v
        back n₂ x ps (inr v) = Memᴰ.append_right (ps ++ y.value.pairs) (subst⁻¹ (λ (i : ℕ). Memᴰ (same i) y₂.value.pairs) (own x v) (y₂.own n₂))

-- panic and change
pub acts-idle : {J F : List ℕ} {rule : ℕ} {σ : List Binding} {marking : Bool} {k e p ix : List ℕ} {f : Fill} {memo m : List ℕ} → Standing J F σ k e p ix f memo m
    → Acts (program_for J) rule idle σ marking k e p ix f m k e p ix (acted passed Effect.Nothing f) memo m
acts-idle {σ = σ} {k = k} {e = e} {p = p} {f = f} S = record {
  pairs = [];
  does = λ ps. does-here S.indexed (ap {B = Outcome ActionContext} (λ (qs : List Proposition). ok (record { bindings = σ; pairs = qs }) (terms_in k e p f)) (append-nil ps));
  past = λ _. S.past;
  grows = λ _. extends-same;
  sane = λ _. S.sane;
  others = λ _ q h. refl;
  marks = λ _ t ps w. subst⁻¹ (Marks (terms_in k e p f) _) (append-nil ps) w;
}

-- the action that was read
pub acts-as : {prog : Program} {rule : ℕ} {a b : Action} {σ : List Binding} {marking : Bool} {K E P I : List ℕ} {f : Fill} {m K₁ E₁ P₁ I₁ : List ℕ} {r : Acted} {memo₁ m₁ : List ℕ}
    → a ≡ b → Acts prog rule a σ marking K E P I f m K₁ E₁ P₁ I₁ r memo₁ m₁ → Acts prog rule b σ marking K E P I f m K₁ E₁ P₁ I₁ r memo₁ m₁
acts-as {prog} {rule} {σ = σ} {marking = marking} {K = K} {E = E} {P = P} {I = I} {f = f} {m = m} {K₁ = K₁} {E₁ = E₁} {P₁ = P₁} {I₁ = I₁} {r = r} {memo₁ = memo₁} {m₁ = m₁} e d =
    subst (λ (a : Action). Acts prog rule a σ marking K E P I f m K₁ E₁ P₁ I₁ r memo₁ m₁) e d

pub acted-as : (expr : ℕ → Expr) {v w : view.Action} {a : Action} → v ≡ w → action_of expr v ≡ a → action_of expr w ≡ a
acted-as expr {a = a} e q = subst (λ (x : view.Action). action_of expr x ≡ a) e q

-- a binding written before the others
pub pushed-pair : (T : List ℕ) (at x t : ℕ) → 2 ≤ at → at ≤ length T → {r : ℕ} → r ≡ at - 2
    → Pushed T at (Effect.Bind x t) (set (set T (at - 2) x) (at - 1) t) r
pushed-pair T at x t h l {r} e = record {
  least = omega arith;
  most = omega arith;
  bindings = ap (λ (k : ℕ). read_bindings (drop k (set (set T (at - 2) x) (at - 1) t))) e ∙ ap read_bindings (words T (at - 2) at (omega arith) l);
}
  where
    words : (T : List ℕ) (k at : ℕ) → at ≡ suc (suc k) → at ≤ length T → drop k (set (set T k x) (at - 1) t) ≡ x ∷ t ∷ drop at T
    words T k at q l =
        let a : at - 1 ≡ suc k = omega arith in
        let T₁ : List ℕ = set T k x in
        let T₂ : List ℕ = set T₁ (at - 1) t in
        let n₁ : length T₁ ≡ length T = length-set T k x in
        let n₂ : length T₂ ≡ length T₁ = length-set T₁ (at - 1) t in
        drop-cons T₂ k 0 (omega arith)
        ∙ (λ i. two (get_or-set_other T₁ (at - 1) k t 0 (λ z. omega arith) ∙ get_or-set_same T k x 0 (omega arith)) (drop-cons T₂ (suc k) 0 (omega arith)) i)
        ∙ ap (λ (y : List ℕ). x ∷ y) ((λ i. (ap (λ (j : ℕ). get_or T₂ j 0) (sym a) ∙ get_or-set_same T₁ (at - 1) t 0 (omega arith)) i ∷ drop (suc (suc k)) T₂)
        ∙ ap (λ (y : List ℕ). t ∷ y) (ap (λ (j : ℕ). drop j T₂) (sym q) ∙ drop-set-lt at T₁ (at - 1) t (omega arith) ∙ drop-set-lt at T k x (omega arith)))
      where
        two : {a b : ℕ} {xs ys : List ℕ} → a ≡ b → xs ≡ ys → a ∷ xs ≡ b ∷ ys
        two p q = λ i. p i ∷ q i

pub pushed_none : (T : List ℕ) (at : ℕ) (e : Effect) → ((σ : List Binding) → effect_bindings e σ ≡ σ) → Pushed T at e T at
pushed_none T at e h = record { least = omega arith; most = omega arith; bindings = sym (h (read_bindings (drop at T))) }

pub pushed-as : {T : List ℕ} {at : ℕ} {e e' : Effect} {T' : List ℕ} {r : ℕ} → e ≡ e' → Pushed T at e' T' r → Pushed T at e T' r
pushed-as {T} {at} {T' = T'} {r = r} q d = subst⁻¹ (λ (x : Effect). Pushed T at x T' r) q d
