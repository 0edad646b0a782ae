-- A merge that there is not, and one that there is.
use mathlib.Core.Path.{◌≡◌, ap, subst, subst⁻¹}
use mathlib.Core.Bool.{Bool}
use mathlib.Core.List.{List, [], ◌∷◌}
use mathlib.Core.Option.{Option, none, some}
use Prim.Native.Nat.{ℕ}
use native.Mathlib.Omega.{arith}
use Rattle.model.specs.Term.{Term}
use Rattle.model.specs.Program.{name_merge_function, Expr, Program}
use Rattle.model.specs.Check.{Outcome, refused, and_then, or_refuse, Room}
use Rattle.model.specs.Evaluate.{Value, eval_expr}
use Rattle.model.specs.Action.{merge_of, merge_bindings, run_merge}
use Rattle.index.specs.declared.Fill.{Fill}
use Rattle.termdag.specs.Store.{terms_in, Indexed, room_of}
use Rattle.outcome.specs.Does.{refusal}
use Rattle.outcome.specs.declared.Checked.{Checked}
use Rattle.outcome.proofs.Laws.{does-here}
use Rattle.actions.specs.Acting.{Yields}

module _ (prog : Program) (g old new : ℕ) where
  run-some : (room : Room) (e : Expr) (s : List Term) → some e ≡ merge_of prog.functions g → eval_expr room prog name_merge_function (merge_bindings old new) e s ≡ run_merge room prog g old new s
  unfolding run_merge or_refuse
  run-some room e s q = ap (λ (o : Option Expr). and_then (or_refuse o 43 (g ∷ []) s) (eval_expr room prog name_merge_function (merge_bindings old new))) q

  run_none : (room : Room) (s : List Term) → none ≡ merge_of prog.functions g → refused (record { number = 43; fields = g ∷ [] }) s ≡ run_merge room prog g old new s
  unfolding run_merge or_refuse
  run_none room s q = ap (λ (o : Option Expr). and_then (or_refuse o 43 (g ∷ []) s) (eval_expr room prog name_merge_function (merge_bindings old new))) q

  module _ {marking : Bool} {K E P I : List ℕ} {f : Fill} {memo m : List ℕ} where
    pub merged-none : {c : Checked} → Indexed K E P I f → none ≡ merge_of prog.functions g
        → c ≡ record { refusal = refusal 43 1 (g ∷ 0 ∷ 0 ∷ 0 ∷ 0 ∷ 0 ∷ []); value = 0; fill = f }
        → Yields prog (merge_bindings old new) (run_merge (room_of K P) prog g old new (terms_in K E P f)) marking K E P I f m K E P I c memo m
    merged-none S q d = subst⁻¹ (λ (x : Checked). Yields prog (merge_bindings old new) (run_merge (room_of K P) prog g old new (terms_in K E P f)) marking K E P I f m K E P I x memo m) d (record {
      value = record { term = 0; pairs = [] };
      does = does-here S (run_none (room_of K P) (terms_in K E P f) q);
      term = λ z. absurd (never z);
      past = λ z. absurd (never z);
      grows = λ z. absurd (never z);
      sane = λ z. absurd (never z);
      inside = λ z. absurd (never z);
      own = λ z. absurd (never z);
      others = λ z. absurd (never z);
      marks = λ z. absurd (never z);
    })
      where
        never : ◌≡◌ {A = ℕ} 43 0 → ⊥
        never z = omega arith

    pub merged_by : (e : Expr) {K₁ E₁ P₁ I₁ : List ℕ} {c : Checked} {m₁ : List ℕ} → some e ≡ merge_of prog.functions g
        → Yields prog (merge_bindings old new) (eval_expr (room_of K P) prog name_merge_function (merge_bindings old new) e (terms_in K E P f)) marking K E P I f m K₁ E₁ P₁ I₁ c memo m₁
        → Yields prog (merge_bindings old new) (run_merge (room_of K P) prog g old new (terms_in K E P f)) marking K E P I f m K₁ E₁ P₁ I₁ c memo m₁
    merged_by e {K₁} {E₁} {P₁} {I₁} {c} {m₁} q d =
        subst (λ (o : Outcome Value). Yields prog (merge_bindings old new) o marking K E P I f m K₁ E₁ P₁ I₁ c memo m₁) (run-some (room_of K P) e (terms_in K E P f) q) d
