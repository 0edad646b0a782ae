-- A merge keeps the store sane: it grows, and what bindings and rows name lies in it.
use mathlib.Core.Path.{◌≡◌, sym, subst}
use mathlib.Core.List.{List, [], ◌∷◌, ◌++◌}
use Prim.Native.Nat.{ℕ, ◌<◌}
use native.Mathlib.Omega.{arith}
use lib.ListN.{length}
use Rattle.model.specs.Term.{Term, app, get_term, Extends, Below}
use Rattle.model.specs.Program.{name_merge_function, Proposition, Binding, Program}
use Rattle.model.specs.Check.{Outcome, Room}
use Rattle.model.specs.Evaluate.{children, same, Value}
use Rattle.model.specs.Action.{among, merge_of, merge_bindings, run_merge}
use Rattle.model.specs.Walk.{front}
use Rattle.model.proofs.Post.{Post, post-map, post-bind, or-bind, post-that}
use Rattle.model.proofs.Store.{extends-then, extends-length}
use Rattle.model.proofs.Again.{added, eval-settled}
use Rattle.evaluate.specs.Evaluation.{Sane}
use Rattle.evaluate.proofs.Keeping.{sane-grows}
use Rattle.merges.specs.Merge.{Merging, add_view, merge_views, merge_step}
use Rattle.merges.proofs.AddLaws.{children-below}
use Rattle.merges.proofs.AddViewLaws.{front-within}
use Rattle.merges.proofs.MergeLaws.{merge-split, read-values, last-member, merge-bound}

module _ (prog : Program) (σ : List Binding) where
  abbrev Kept : {A : Type 0} → List Term → A → List Term → Type 0
  Kept s a s' = Extends s s' × Sane prog σ s'

  module _ (room : Room) (p : ℕ) (q : Proposition) where
    run-keeps : (function old new : ℕ) {s : List Term} → Sane prog σ s → old < length s → new < length s
        → Post (run_merge room prog function old new s) (λ v s'. Extends s s' × Sane prog σ s' × (v.term < length s'))
    unfolding run_merge
    run-keeps function old new {s} w h k =
        or-bind (merge_of prog.functions function) 43 _ s _ tt λ e d.
        post-map (eval-settled prog room name_merge_function (merge_bindings old new) e s (record { ordered = w.ordered; bound = merge-bound old new h k; rows = w.rows })) λ v s' a.
        (a.settled.grows, sane-grows a.settled.grows a.sane.ordered w, a.inside)

    pub merge_keeps : (function : ℕ) (a b : Proposition) {s : List Term} → Sane prog σ s → Post (merge_step room prog p q function a b s) (λ _ s'. Extends s s' × Sane prog σ s')
    unfolding merge_views add_view
    merge_keeps function a b {s} w = subst (λ (o : Outcome (Unit {0})). Post o (Kept s)) (sym (merge-split room prog p q function a b s)) (
        post-bind (read-values p a b s) λ v s₁ m.
        subst (λ (u : List Term). Post (merge_views room prog p q function v u) (Kept s)) (sym m.2) (
        post-bind (run-keeps function v.old v.new w (children-below s w.ordered a.rhs v.old (last-member _ _ m.0)) (children-below s w.ordered b.rhs v.new (last-member _ _ m.1))) λ x s₂ n.
        post-bind (added room (app v.head (v.inputs ++ (x.term ∷ []))) s₂) λ view s₃ k.
        post-that (among q (same view ∷ x.pairs)) 38 _ s₃ tt λ _.
        (extends-then n.0 k.1.grows, sane-grows k.1.grows (k.1.ordered (inputs-below v x s₂ n.0 m.3 n.2) n.1.ordered) n.1)))
      where
        inputs-below : (v : Merging) (x : Value) (s₂ : List Term) → Extends s s₂ → v.inputs ≡ front (children (get_term s a.rhs)) → x.term < length s₂ → Below (length s₂) (v.inputs ++ (x.term ∷ []))
        inputs-below v x s₂ g e h = subst (λ (ys : List ℕ). Below (length s₂) (ys ++ (x.term ∷ []))) (sym e)
            (front-within (length s₂) (children (get_term s a.rhs)) x.term (λ y k. let i = children-below s w.ordered a.rhs y k in let l = extends-length g in omega arith) h)
