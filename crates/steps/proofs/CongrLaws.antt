-- A congruence: the application read, its child compared, and the application with the other child added.
use Rattle.std.specs.Prelude as prelude
use Rattle.std.specs.Prelude.{Some, None}
use mathlib.Core.Path.{◌≡◌, sym, ap, subst, subst⁻¹, ◌∙◌}
use mathlib.Core.List.{List, [], ◌∷◌}
use mathlib.Core.Option.{Option}
use Prim.Native.Nat.{ℕ}
use lib.ListN.{set}
use Rattle.model.specs.Term.{Term, app, get_term}
use Rattle.model.specs.Program.{Proposition}
use Rattle.model.specs.Check.{Check, and_then, ◌>>=◌, or_refuse, Room, add_node}
use Rattle.model.specs.Evaluate.{children}
use Rattle.model.specs.Normalize.{App, as_app}
use Rattle.index.specs.declared.Fill.{Fill}
use Rattle.termdag.specs.Store.{terms_in, Indexed, room_of}
use Rattle.outcome.specs.Does.{refusal, outcome_of, Does}
use Rattle.outcome.specs.declared.Refusal.{Refusal}
use Rattle.outcome.specs.declared.Checked.{Checked}
use Rattle.outcome.proofs.Laws.{does-here, does-then, does-stop}
use Rattle.program.specs.Ready.{option_of}
use Rattle.merges.specs.Step.{app_with}
use Rattle.merges.proofs.AddLaws.{replaced}
use Rattle.steps.specs.Concluding.{child_matches, congr_claims, congr_app, congr_step}

module _ (p : ℕ) (q a : Proposition) (i : ℕ) (b : Proposition) {K E P I : List ℕ} {f : Fill} (S : Indexed K E P I f) where
  abbrev s : List Term
  s = terms_in K E P f

  abbrev xs : List ℕ
  xs = children (get_term s a.rhs)

  by-app : {o : Option App} → o ≡ as_app (get_term s a.rhs) → and_then (or_refuse o 22 (p ∷ []) s) (congr_app (room_of K P) p q a i b) ≡ congr_step (room_of K P) p q a i b s
  unfolding congr_step
  by-app e = ap (λ (o : Option App). and_then (or_refuse o 22 (p ∷ []) s) (congr_app (room_of K P) p q a i b)) e

  pub congr-none : {u : prelude.Option ℕ} {c : Checked} → app_with (option_of u) xs ≡ as_app (get_term s a.rhs) → u ≡ None
      → c ≡ record { refusal = refusal 22 1 (p ∷ 0 ∷ 0 ∷ 0 ∷ 0 ∷ 0 ∷ []); value = 0; fill = f }
      → Does K E P I f K E P I c.fill c.refusal tt (congr_step (room_of K P) p q a i b s)
  unfolding or_refuse
  congr-none e d g =
      subst⁻¹ (λ (x : Checked). Does K E P I f K E P I x.fill x.refusal tt (congr_step (room_of K P) p q a i b s)) g
      (does-here S (by-app (ap (λ (v : prelude.Option ℕ). app_with (option_of v) xs) (sym d) ∙ e)))

  module _ {u : prelude.Option ℕ} {head : ℕ} (e : app_with (option_of u) xs ≡ as_app (get_term s a.rhs)) (d : u ≡ Some head) where
    is-app : congr_app (room_of K P) p q a i b (record { head = head; args = xs }) s ≡ congr_step (room_of K P) p q a i b s
    unfolding or_refuse
    is-app = by-app (ap (λ (v : prelude.Option ℕ). app_with (option_of v) xs) (sym d) ∙ e)

    abbrev after : Room → Unit {0} → Check (Unit {0})
    after room _ = add_node room (app head (set xs i b.rhs)) >>= congr_claims p q a.lhs

    module _ (r : Refusal) {ys : List ℕ} (g : ys ≡ xs) (m : (u : List Term) → outcome_of r tt u ≡ child_matches p i b.lhs ys u) where
      child : Does K E P I f K E P I f r tt (child_matches p i b.lhs xs s)
      child = does-here S (m s ∙ ap (λ (zs : List ℕ). child_matches p i b.lhs zs s) g)

      pub congr-child : (r.number ≡ 0 → ⊥) → Does K E P I f K E P I f r tt (congr_step (room_of K P) p q a i b s)
      unfolding congr_app
      congr-child n = subst (Does K E P I f K E P I f r tt) is-app (does-stop tt (after (room_of K P)) child n)

      module _ (n : r.number ≡ 0) {K₁ E₁ P₁ I₁ : List ℕ} {k : ℕ} (c : Checked) (kq : k ≡ i)
          (A : Does K E P I f K₁ E₁ P₁ I₁ c.fill c.refusal c.value (add_node (room_of K P) (app head (set xs k b.rhs)) s)) where
        new : Does K E P I f K₁ E₁ P₁ I₁ c.fill c.refusal c.value (add_node (room_of K P) (app head (set xs i b.rhs)) s)
        new = replaced {c = c} head (ap (λ (j : ℕ). set xs j b.rhs) kq) A

        pub congr-full : (c.refusal.number ≡ 0 → ⊥) → Does K E P I f K₁ E₁ P₁ I₁ c.fill c.refusal tt (congr_step (room_of K P) p q a i b s)
        unfolding congr_app
        congr-full h = subst (Does K E P I f K₁ E₁ P₁ I₁ c.fill c.refusal tt) is-app (does-then after child n (does-stop tt (congr_claims p q a.lhs) new h))

        pub congr-claimed : (r' : Refusal) → c.refusal.number ≡ 0 → ((u : List Term) → outcome_of r' tt u ≡ congr_claims p q a.lhs c.value u)
            → Does K E P I f K₁ E₁ P₁ I₁ c.fill r' tt (congr_step (room_of K P) p q a i b s)
        unfolding congr_app
        congr-claimed r' h w = subst (Does K E P I f K₁ E₁ P₁ I₁ c.fill r' tt) is-app
            (does-then after child n (does-then (λ room. congr_claims p q a.lhs) new h (does-here new.grown.indexed (w (terms_in K₁ E₁ P₁ c.fill)))))
