-- What the evaluation of an expression gives its caller: the definition's value, and marks that stand for its pairs.
use Prim.Native.Nat.{ℕ, ◌*◌, ◌<◌, ◌≤◌}
use native.Mathlib.Omega.{arith}
use mathlib.Core.Path.{◌≡◌, sym, ap, ◌∙◌}
use mathlib.Core.List.{List, Memᴰ}
use mathlib.Core.Logic.{inl, inr}
use mathlib.Core.Bool.{false}
use lib.ListN.{length}
use Rattle.model.specs.Layout.{sizes_of}
use Rattle.model.specs.Term.{Term, Extends, Below}
use Rattle.model.specs.Program.{Expr, Proposition, Binding, Program}
use Rattle.model.specs.Check.{Outcome, ok, refused, Room}
use Rattle.model.specs.Evaluate.{Value, eval_expr}
use Rattle.model.proofs.Post.{post-result}
use Rattle.model.proofs.Valid.{expressions-lower}
use Rattle.index.specs.declared.Fill.{Fill}
use Rattle.termdag.specs.Store.{terms_in, room_of}
use Rattle.memo.specs.Memo.{value_at}
use Rattle.outcome.specs.declared.Checked.{Checked}
use Rattle.outcome.proofs.Laws.{ok_of}
use Rattle.marks.specs.Covering.{Marked}
use Rattle.marks.proofs.Marking.{AddsMarks}
use Rattle.program.specs.Ready.{tables_for, Ready, program_for}
use Rattle.program.specs.Read.{expr_for, arguments_for}
use Rattle.evaluate.specs.Value.{term_outcome, value_of, eval_for, value_for, Reaches, here, down}
use Rattle.evaluate.specs.Evaluation.{Sane, EvaluatesMore}
use Rattle.evaluate.proofs.Settling.{value-term, same-value, term-sane}
use Rattle.pairs.specs.Marking.{mark_values}
use Rattle.pairs.proofs.Values.{pairs-values, pairs-reflexive}
use Rattle.pairs.proofs.Marking.{NotedBelow, values-adds}

-- the evaluation of e from the store s gives the term t in the store s': its value, with pairs that are all reflexive, and what holds of the store then
pub record Evaluated (room : Room) (prog : Program) (rule : ℕ) (σ : List Binding) (e : Expr) (s : List Term) (t : ℕ) (s' : List Term) : Type 0 where
  pub value : Value
  pub is : eval_expr room prog rule σ e s ≡ ok value s'
  pub term : value.term ≡ t
  pub inside : t < length s'
  pub grows : Extends s s'
  pub sane : Sane prog σ s'
  pub sides : (q : Proposition) → Memᴰ q value.pairs → q.lhs ≡ q.rhs

-- what stands below an expression has no higher number
reaches-most : {args : ℕ → List ℕ} → ((e : ℕ) → Below e (args e)) → {k e : ℕ} → Reaches args k e → k ≤ e
reaches-most lower (here q) = omega arith
reaches-most lower {k} {e} (down {a = a} m r) = let l = lower e a m in let h = reaches-most lower r in omega arith

-- the value of an outcome whose term is known
same_store : {A : Type 0} {a b : A} {s s' : List Term} → ok a s ≡ ok b s' → s ≡ s'
same_store e = cc

known-term : (o : Outcome Value) (t : ℕ) (s : List Term) → term_outcome o ≡ ok t s → (v : Value) × (v.term ≡ t) × (o ≡ ok v s)
known-term (ok v u) t s q = (v, same-value q, ap (λ (x : List Term). ok v x) (same_store q))
known-term (refused r u) t s q = let x : ◌≡◌ {A = ℕ} 0 1 = cc in absurd (omega arith)

module _ {Old : ℕ → Type 0} {J : List ℕ} (R : Ready J) (rule : ℕ) (σ : List Binding) {e : ℕ} {K₀ E₀ P₀ I₀ : List ℕ} {f : Fill} {K₁ E₁ P₁ I₁ : List ℕ} {r : Checked} {memo : List ℕ}
    (root : EvaluatesMore Old (arguments_for J) (value_for false J rule σ) (sizes_of J).expressions e K₀ E₀ P₀ I₀ f K₁ E₁ P₁ I₁ r memo)
    (passed : r.refusal.number ≡ 0) (sane : Sane (program_for J) σ (terms_in K₀ E₀ P₀ f)) where
  abbrev before : List Term
  before = terms_in K₀ E₀ P₀ f

  abbrev after : List Term
  after = terms_in K₁ E₁ P₁ r.fill

  abbrev room : Room
  room = room_of K₀ P₀

  abbrev prog : Program
  prog = program_for J

  value-is : value_for false J rule σ room e before ≡ ok r.value after
  value-is = sym root.does.outcome ∙ ok_of r.refusal r.value after passed

  known : (v : Value) × (v.term ≡ r.value) × (eval_expr room prog rule σ (expr_for J e) before ≡ ok v after)
  unfolding value_of
  known = known-term (eval_expr room prog rule σ (expr_for J e) before) r.value after value-is

  -- the value that a caller is given
  pub root-evaluated : Evaluated room prog rule σ (expr_for J e) before r.value after
  root-evaluated =
      let h = post-result (term-sane false room prog rule σ (expr_for J e) sane) (sym (value-term false room prog rule σ (expr_for J e) before) ∙ value-is) in
      record {
        value = known.0;
        is = known.2;
        term = known.1;
        inside = h.2;
        grows = h.0;
        sane = h.1;
        sides = pairs-reflexive R room rule σ e sane known.2;
      }

  noted-below : {m : List ℕ} → e < (sizes_of J).expressions → ((t : ℕ) → Old t → Marked m t) → NotedBelow (arguments_for J) (eval_for false J rule σ room) (sizes_of J).expressions e after memo m
  noted-below h o = record {
    value = λ k l b. sym (value-term false room prog rule σ (expr_for J k) after) ∙ root.value passed k l b;
    below = λ k d. let l = reaches-most (expressions-lower (sizes_of J) (tables_for J) R.admitted) d in (omega arith, root.below passed k d);
    only = λ k l b. elim (root.only passed k l b) [ inl v ↦ inl (o (value_at memo k) v) | inr d ↦ inr d ];
    inside = λ k t q. (post-result (term-sane false room prog rule σ (expr_for J k) root-evaluated.sane) q).2;
  }

  -- what marking the values does
  pub root-adds : e < (sizes_of J).expressions → {m m' : List ℕ} → ((t : ℕ) → Old t → Marked m t) → ((t : ℕ) → Marked m t → t < length after) → length after ≤ 32 * length m → m' ≡ mark_values memo (sizes_of J).expressions m
      → AddsMarks after m m' root-evaluated.value.pairs
  root-adds h o i l q = rw q (values-adds (noted-below h o) i l (pairs-values R room rule σ e sane root-evaluated.is))
