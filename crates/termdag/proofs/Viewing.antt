-- What a view shows is what its store holds.
use mathlib.Core.Path.{◌≡◌, ap, ◌∙◌}
use mathlib.Core.List.{List}
use Prim.Native.Nat.{ℕ}
use Rattle.model.specs.Term.{Term, get_term}
use Rattle.model.specs.Evaluate.{children}
use Rattle.index.specs.Loans.{Views}
use Rattle.index.specs.declared.Fill.{Fill}
use Rattle.index.specs.declared.Store.{Store}
use Rattle.index.specs.declared.View.{View}
use Rattle.termdag.specs.Store.{terms_at, terms_of, StoredAt, StoredIn}

module _ (s : Store) (v : View) (f : Fill) (e : Views s v) where
  pub terms-seen : terms_at v f ≡ terms_of s f
  terms-seen = rw (e.0, e.1, e.2)

  pub stored-seen : StoredIn s f → StoredAt v f
  stored-seen h = rw (e.0, e.1, e.2) h

  -- a value found by the view is the same by the store
  pub seen : {A : Type 0} (value : List Term → A) {x : A} → x ≡ value (terms_at v f) → x ≡ value (terms_of s f)
  seen value q = q ∙ ap value terms-seen

  pub children-seen : (t : ℕ) {xs : List ℕ} → xs ≡ children (get_term (terms_at v f) t) → xs ≡ children (get_term (terms_of s f) t)
  children-seen t = seen (λ (ts : List Term). children (get_term ts t))
