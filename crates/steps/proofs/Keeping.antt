-- A congruence keeps the store sane: it grows, and what bindings and rows name lies in it.
use mathlib.Core.Path.{◌≡◌, refl, subst}
use mathlib.Core.Logic.{◌⊎◌, inl, inr}
use mathlib.Core.List.Memᴰ
use mathlib.Core.List.{List, [], ◌∷◌, Memᴰ}
use mathlib.Core.Option.{Option, none, some, none-ne-some}
use Prim.Native.Nat.{ℕ, zero, suc, ◌<◌}
use native.Mathlib.Omega.{arith}
use lib.Dec.{eqb, ltb}
use lib.ListN.{length, get_or, set}
use Rattle.model.specs.Term.{Term, lit, var, app, get_term, Extends, Below, Ordered}
use Rattle.model.specs.Program.{Proposition, Binding, Program}
use Rattle.model.specs.Check.{Room}
use Rattle.model.specs.Evaluate.{children}
use Rattle.model.specs.Normalize.{App, as_app}
use Rattle.model.proofs.Post.{Post, post-bind, same-bind, or-bind, that-bind, post-that}
use Rattle.model.proofs.Again.{added}
use Rattle.evaluate.specs.Evaluation.{Sane}
use Rattle.merges.proofs.AddLaws.{children-below}
use Rattle.evaluate.proofs.Keeping.{sane-grows}
use Rattle.steps.specs.Concluding.{child_matches, congr_claims, congr_app, congr_step}

below_set : (n : ℕ) (xs : List ℕ) (i v : ℕ) → Below n xs → v < n → Below n (set xs i v)
below_set n [] i v b h x m = absurd (Memᴰ.not-nil m)
below_set n (y ∷ ys) zero v b h x m = go (Memᴰ.cases_cons m)
  where
    go : (x ≡ v) ⊎ Memᴰ x ys → x < n
    go (inl e) = omega arith
    go (inr k) = b x (Memᴰ.tail k)
below_set n (y ∷ ys) (suc i) v b h x m = go (Memᴰ.cases_cons m) (below_set n ys i v (λ u k. b u (Memᴰ.tail k)) h x)
  where
    go : (x ≡ y) ⊎ Memᴰ x (set ys i v) → (Memᴰ x (set ys i v) → x < n) → x < n
    go (inl e) r = b x (Memᴰ.head e)
    go (inr k) r = r k

app-below : (s : List Term) → Ordered s → (t : ℕ) (a : App) → as_app (get_term s t) ≡ some a → Below (length s) a.args
app-below s o t a e = go (get_term s t) e (children-below s o t)
  where
    go : (q : Option Term) → as_app q ≡ some a → Below (length s) (children q) → Below (length s) a.args
    go none d b = absurd (none-ne-some a d)
    go (some (lit l)) d b = absurd (none-ne-some a d)
    go (some (var y)) d b = absurd (none-ne-some a d)
    go (some (app f xs)) d b = let q : xs ≡ a.args = cc in subst (Below (length s)) q b

module _ (prog : Program) (σ : List Binding) (room : Room) (p : ℕ) (q : Proposition) where
  pub congr-keeps : (a : Proposition) (i : ℕ) (b : Proposition) {s : List Term} → Sane prog σ s → b.rhs < length s → Post (congr_step room p q a i b s) (λ _ s'. Extends s s' × Sane prog σ s')
  unfolding congr_step congr_app child_matches congr_claims
  congr-keeps a i b {s} w h =
      or-bind (as_app (get_term s a.rhs)) 22 _ s _ tt λ t e.
      same-bind _ {P = Unit {0}} (that-bind (ltb i (length t.args)) 23 _ s _ tt λ _. post-that (eqb (get_or t.args i 0) b.lhs) 24 _ s tt λ _. (refl, tt)) λ _ _.
      post-bind (added room (app t.head (set t.args i b.rhs)) s) λ n s₁ m.
      that-bind (eqb q.rhs n) 25 _ s₁ _ tt λ _.
      post-that (eqb q.lhs a.lhs) 26 _ s₁ tt λ _.
      (m.1.grows, sane-grows m.1.grows (m.1.ordered (below_set (length s) t.args i b.rhs (app-below s w.ordered a.rhs t e) h) w.ordered) w)
