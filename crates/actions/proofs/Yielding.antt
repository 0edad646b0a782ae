-- One evaluation of an action, refused or with a value.
use mathlib.Core.Path.{◌≡◌, refl, sym, ap, subst⁻¹, ◌∙◌}
use mathlib.Core.Bool.{Bool, true, false, true≢false, ◌||◌}
use mathlib.Core.List.{List, [], ◌∷◌, Memᴰ}
use Prim.Native.Nat.{ℕ, ◌+◌, ◌*◌, ◌/◌, ◌<◌, ◌≤◌}
use native.Mathlib.Omega.{arith}
use lib.Dec.{eqb}
use borrow.Author.Tests.{eqb-true}
use lib.ListN.{length}
use Rattle.model.specs.Layout.{sizes_of}
use Rattle.model.specs.Term.{Term}
use Rattle.model.specs.Program.{Proposition, Binding, Program}
use Rattle.model.specs.Check.{Outcome, ok, refused}
use Rattle.model.specs.Evaluate.{same, Value, eval_expr}
use Rattle.model.specs.Action.{same_proposition, among}
use Rattle.model.proofs.Tests.{and_left, and_right}
use Rattle.model.proofs.Store.{extends-same}
use Rattle.index.specs.declared.Fill.{Fill}
use Rattle.termdag.specs.Store.{terms_in, room_of}
use Rattle.outcome.specs.Does.{refusal_of}
use Rattle.outcome.specs.declared.Refusal.{Refusal}
use Rattle.outcome.specs.declared.Checked.{Checked}
use Rattle.outcome.proofs.Laws.{ok_of, refused-of}
use Rattle.marks.proofs.Marking.{marks-extends, marks-adds}
use Rattle.termdag.proofs.Laws.{terms-length}
use Rattle.program.specs.Ready.{program_for}
use Rattle.program.specs.Read.{expr_for, arguments_for}
use Rattle.evaluate.specs.Value.{term_outcome, value_of, eval_for, value_for, here}
use Rattle.evaluate.proofs.Settling.{value-term, term-sane, term-again}
use Rattle.evaluate.specs.Evaluation.{Evaluates, EvaluatesMore}
use Rattle.pairs.proofs.Values.{pairs-values}
use Rattle.marks.specs.Covering as Covering
use Rattle.pairs.proofs.Roots.{root-evaluated, root-adds}
use Rattle.evaluate.proofs.Turns.{root-memo, more-done, memo-after}
use Rattle.memo.specs.Memo.{value_at, is_noted, Started}
use Rattle.model.proofs.Post.{post-result}
use Rattle.pairs.proofs.Marking.{values-mark}
use Rattle.actions.specs.Acting.{Standing, Going, marked_if, Yields}

-- a list without a pair that is not reflexive
pub among_none : (ps : List Proposition) → ((q : Proposition) → Memᴰ q ps → q.lhs ≡ q.rhs) → (q : Proposition) → (q.lhs ≡ q.rhs → ⊥) → among q ps ≡ false
among_none [] h q n = refl
among_none (p ∷ ps) h q n = go (same_proposition q p) refl (among_none ps (λ r m. h r (Memᴰ.tail m)) q n)
  where
    go : (b : Bool) → same_proposition q p ≡ b → among q ps ≡ false → (b || among q ps) ≡ false
    go false e k = k
    go true e k =
        let l : q.lhs ≡ p.lhs = eqb-true q.lhs p.lhs (and_left _ _ e) in
        let r : q.rhs ≡ p.rhs = eqb-true q.rhs p.rhs (and_right (eqb q.lhs p.lhs) _ e) in
        absurd (n (l ∙ h p (Memᴰ.head refl) ∙ sym r))

-- the outcome of an evaluation whose term is refused
refused-value : (o : Outcome Value) (r : Refusal) (s : List Term) → term_outcome o ≡ refused (refusal_of r) s → o ≡ refused (refusal_of r) s
refused-value (ok v u) r s q = let x : ◌≡◌ {A = ℕ} 0 1 = cc in absurd (omega arith)
refused-value (refused x u) r s q = let a : x ≡ refusal_of r = cc in let b : u ≡ s = cc in λ i. refused (a i) (b i)

module _ (rule : ℕ) {Old : ℕ → Type 0} {J F : List ℕ} {σ : List Binding} {e : ℕ} {k e' p ix : List ℕ} {f : Fill} {memo m k₁ e₁ p₁ ix₁ : List ℕ} {r : Checked} {memo₁ : List ℕ}
    (S : Standing J F σ k e' p ix f memo m) (h : e < (sizes_of J).expressions)
    (d : EvaluatesMore Old (arguments_for J) (value_for false J rule σ) (sizes_of J).expressions e k e' p ix f k₁ e₁ p₁ ix₁ r memo₁) where
  abbrev prog : Program
  prog = program_for J

  abbrev s₀ : List Term
  s₀ = terms_in k e' p f

  abbrev s₁ : List Term
  s₁ = terms_in k₁ e₁ p₁ r.fill

  is-refused : (r.refusal.number ≡ 0 → ⊥) → eval_expr (room_of k p) prog rule σ (expr_for J e) s₀ ≡ refused (refusal_of r.refusal) s₁
  unfolding value_of
  is-refused n = refused-value _ r.refusal s₁ (sym d.does.outcome ∙ refused-of r.refusal r.value s₁ n)

  pub yields-refused : {marking : Bool} → (r.refusal.number ≡ 0 → ⊥) → Yields prog σ (eval_expr (room_of k p) prog rule σ (expr_for J e) s₀) marking k e' p ix f m k₁ e₁ p₁ ix₁ r memo₁ m
  yields-refused n = record {
    value = record { term = 0; pairs = [] };
    does = record { outcome = refused-of r.refusal _ s₁ n ∙ sym (is-refused n); grown = d.does.grown };
    term = λ q. absurd (n q);
    past = λ q. absurd (n q);
    grows = λ q. absurd (n q);
    sane = λ q. absurd (n q);
    inside = λ q. absurd (n q);
    own = λ q. absurd (n q);
    others = λ q. absurd (n q);
    marks = λ q. absurd (n q);
  }

  pub yields-value : {marking : Bool} {m₁ : List ℕ} {c : ℕ} → (marking ≡ true → (t : ℕ) → Old t → Covering.Marked m t) → r.refusal.number ≡ 0 → c ≡ (sizes_of J).expressions → m₁ ≡ marked_if marking memo₁ c m
      → Yields prog σ (eval_expr (room_of k p) prog rule σ (expr_for J e) s₀) marking k e' p ix f m k₁ e₁ p₁ ix₁ r memo₁ m₁
  yields-value {marking} {m₁} o n w q₀ = let q = q₀ ∙ ap (λ (x : ℕ). marked_if marking memo₁ x m) w in record {
    value = (root-evaluated S.ready rule σ d n S.sane).value;
    does = record { outcome = ok_of r.refusal (root-evaluated S.ready rule σ d n S.sane).value s₁ n ∙ sym (root-evaluated S.ready rule σ d n S.sane).is; grown = d.does.grown };
    term = λ _. (root-evaluated S.ready rule σ d n S.sane).term;
    past = d.past;
    grows = λ _. (root-evaluated S.ready rule σ d n S.sane).grows;
    sane = λ _. (root-evaluated S.ready rule σ d n S.sane).sane;
    inside = λ _. (root-evaluated S.ready rule σ d n S.sane).inside;
    own = λ _. own_pair;
    others = λ _. among_none (root-evaluated S.ready rule σ d n S.sane).value.pairs (root-evaluated S.ready rule σ d n S.sane).sides;
    marks = λ _ t ps w.
        let x = marks-extends S.sane.ordered (root-evaluated S.ready rule σ d n S.sane).grows w in
        marks-adds x (root-adds S.ready rule σ d n S.sane h (o t) x.inside room (q ∙ ap (λ (b : Bool). marked_if b memo₁ (sizes_of J).expressions m) t));
  }
    where
      is-term : eval_for false J rule σ (room_of k p) e s₀ ≡ ok r.value s₁
      is-term = sym (value-term false (room_of k p) prog rule σ (expr_for J e) s₀) ∙ sym d.does.outcome ∙ ok_of r.refusal r.value s₁ n

      own_pair : Memᴰ (same r.value) (root-evaluated S.ready rule σ d n S.sane).value.pairs
      own_pair = (pairs-values S.ready (room_of k p) rule σ e S.sane (root-evaluated S.ready rule σ d n S.sane).is r.value).1 (record {
        at = e;
        reaches = here refl;
        term = r.value;
        value = term-again false (room_of k p) prog rule σ (expr_for J e) s₀ s₁ s₁ r.value is-term extends-same;
        under = Covering.here refl;
      })

      room : length s₁ ≤ 32 * length m
      room =
          let a = terms-length k₁ e₁ p₁ r.fill in
          let b = d.does.grown.indexed.stored.formed.kinds in
          let c = d.does.grown.len_k in
          let l = S.cells in omega arith

-- a round that goes on, or one that begins
pub going-enters : (kept : Bool) {J : List ℕ} {rule : ℕ} {σ : List Binding} {marking : Bool} {k e p : List ℕ} {f : Fill} {memo m memo₁ : List ℕ} → (sizes_of J).expressions + (sizes_of J).expressions < length memo₁
    → (kept ≡ true → memo₁ ≡ memo) → (kept ≡ false → Started memo₁) → (kept ≡ true → Going J rule σ marking k e p f memo m) → Going J rule σ marking k e p f memo₁ m
going-enters true {J} {rule} {σ} {marking} {k} {e} {p} {f} {m = m} l a b g = subst⁻¹ (λ (x : List ℕ). Going J rule σ marking k e p f x m) (a refl) (g refl)
going-enters false l a b g = record { holds = root-memo l (b refl); marked = λ t i h u. absurd (true≢false (sym u ∙ (b refl).none i)) }

module _ (rule : ℕ) {J F : List ℕ} {σ : List Binding} {e : ℕ} {marking : Bool} {k e' p ix : List ℕ} {f : Fill} {memo m k₁ e₁ p₁ ix₁ : List ℕ} {r : Checked} {memo₁ : List ℕ}
    (S : Standing J F σ k e' p ix f memo m) (h : e < (sizes_of J).expressions) (G : Going J rule σ marking k e' p f memo m)
    (d : Evaluates (arguments_for J) (eval_for false J rule σ) (sizes_of J).expressions e k e' p ix f memo k₁ e₁ p₁ ix₁ r memo₁) where
  -- what was noted is marked
  pub going_more : EvaluatesMore (λ t. marking ≡ true → Covering.Marked m t) (arguments_for J) (value_for false J rule σ) (sizes_of J).expressions e k e' p ix f k₁ e₁ p₁ ix₁ r memo₁
  going_more = more-done false J rule σ S.ready h G.holds d (λ j l u t. G.marked t j l u)

  pub going-after : r.refusal.number ≡ 0 → {c : ℕ} {m₁ : List ℕ} → c ≡ (sizes_of J).expressions → m₁ ≡ marked_if marking memo₁ c m → Going J rule σ marking k₁ e₁ p₁ r.fill memo₁ m₁
  going-after n {c} {m₁} w q = record {
    holds = memo-after d n;
    marked = λ t i l u. rw (q ∙ (λ j. marked_if (t j) memo₁ (w j) m)) (values-mark memo₁ m (sizes_of J).expressions i l u (inside i l u));
  }
    where
      inside : (i : ℕ) → i < (sizes_of J).expressions → is_noted memo₁ i ≡ true → value_at memo₁ i / 32 < length m
      inside i l u =
          let v = root-evaluated S.ready rule σ going_more n S.sane in
          let a = (post-result (term-sane false (room_of k p) (program_for J) rule σ (expr_for J i) v.sane) ((d.memo n).value i l u)).2 in
          let b = terms-length k₁ e₁ p₁ r.fill in
          let x = d.does.grown.indexed.stored.formed.kinds in
          let y = d.does.grown.len_k in
          let z = S.cells in
          omega arith
