-- An application that is added: the children of a term, one of them replaced.
use mathlib.Core.Path.{◌≡◌, refl, sym, ap, subst, ◌∙◌}
use mathlib.Core.List.Memᴰ
use mathlib.Core.List.{List, ◌++◌, Memᴰ}
use mathlib.Core.Option.{Option, none, some}
use Prim.Native.Nat.{ℕ, ◌+◌, ◌<◌, ◌≤◌}
use native.Mathlib.Omega.{arith}
use lib.ListN.{length, set, take, drop, length-append, length-set}
use lib.Seq.{set-append_left, take_at}
use Rattle.model.specs.Term.{Term, app, get_term, Extends, Below, Ordered}
use Rattle.model.specs.Check.{add_node}
use Rattle.model.specs.Evaluate.{children}
use Rattle.model.proofs.Store.{extends-length, get-inside, get-extends}
use Rattle.model.proofs.Again.{child-lower}
use Rattle.cells.specs.Table.{put}
use Rattle.model.specs.Normalize.{as_app}
use Rattle.index.specs.Loans.{Views}
use Rattle.index.specs.declared.Fill.{Fill}
use Rattle.index.specs.declared.Store.{Store}
use Rattle.index.specs.declared.View.{View}
use Rattle.termdag.specs.Store.{terms_in, terms_at, terms_of, room_of}
use Rattle.outcome.specs.Does.{Does}
use Rattle.outcome.specs.declared.Checked.{Checked}
use Rattle.termdag.proofs.Laws.{terms-length}
use Rattle.termdag.proofs.Viewing.{terms-seen}
use Rattle.merges.specs.Step.{Small, app_with}

-- a term that is small
pub small-cells : (K E P : List ℕ) (f : Fill) {t n : ℕ} → Small (terms_in K E P f) t → n ≡ t → n < f.cells
small-cells K E P f S e = let h = S.inside in let l = terms-length K E P f in omega arith

pub small-extends : {s s' : List Term} {t : ℕ} → Extends s s' → Small s t → Small s' t
small-extends {s} {s'} {t} x S = record {
  inside = let h = S.inside in let l = extends-length x in omega arith;
  few = subst (λ (o : Option Term). length (children o) ≤ 16) (sym (get-extends s s' x t S.inside)) S.few;
}

-- an application that a view shows is one of the store
pub head-seen : (s : Store) (v : View) (f : Fill) → Views s v → (t : ℕ) (o : Option ℕ) → app_with o (children (get_term (terms_at v f) t)) ≡ as_app (get_term (terms_at v f) t)
    → app_with o (children (get_term (terms_of s f) t)) ≡ as_app (get_term (terms_of s f) t)
head-seen s v f e t o = subst (λ (ts : List Term). app_with o (children (get_term ts t)) ≡ as_app (get_term ts t)) (terms-seen s v f e)

module _ (s : List Term) {t n : ℕ} (e : n ≡ t) where
  pub children-at : {xs : List ℕ} → xs ≡ children (get_term s n) → xs ≡ children (get_term s t)
  children-at q = q ∙ ap (λ (m : ℕ). children (get_term s m)) e

  pub few-children : {xs : List ℕ} → xs ≡ children (get_term s n) → Small s t → length xs ≤ 16
  few-children q S = subst (λ (ys : List ℕ). length ys ≤ 16) (sym (children-at q)) S.few

  pub child-inside : {xs : List ℕ} {i : ℕ} → xs ≡ children (get_term s n) → i < length (children (get_term s t)) → i < length xs
  child-inside {xs} {i} q h = subst (λ (ys : List ℕ). i < length ys) (sym (children-at q)) h

-- the children of a term of the store lie in it
pub children-below : (s : List Term) → Ordered s → (t : ℕ) → Below (length s) (children (get_term s t))
children-below s o t x m = go (get_term s t) refl m
  where
    go : (q : Option Term) → get_term s t ≡ q → Memᴰ x (children q) → x < length s
    go none e k = absurd (Memᴰ.not-nil k)
    go (some u) e k = let i = get-inside s t u e in let l = child-lower s o t x (subst (λ (y : Option Term). Memᴰ x (children y)) (sym e) k) in omega arith

-- one word replaced
module _ (zs xs : List ℕ) {L : List ℕ} (i x : ℕ) (q : L ≡ put zs 0 xs) (h : i < length xs) where
  written : set L i x ≡ set xs i x ++ drop (0 + length xs) zs
  unfolding put
  written = ap (λ (l : List ℕ). set l i x) q ∙ set-append_left xs (drop (0 + length xs) zs) i x h

  pub written-fits : length xs ≤ length (set L i x)
  written-fits = rw (written, length-append (set xs i x) (drop (0 + length xs) zs), length-set xs i x) (omega arith)

  pub written-take : take (length xs) (set L i x) ≡ set xs i x
  written-take = ap (take (length xs)) written ∙ take_at (set xs i x) (drop (0 + length xs) zs) (length xs) (length-set xs i x)

  pub written-length : length xs ≡ length (take (length xs) (set L i x))
  written-length = sym (ap length written-take ∙ length-set xs i x)

-- the application with it
module _ {K E P I : List ℕ} {f : Fill} {K₁ E₁ P₁ I₁ : List ℕ} {c : Checked} where
  pub replaced : {us ws : List ℕ} (head : ℕ) → us ≡ ws → Does K E P I f K₁ E₁ P₁ I₁ c.fill c.refusal c.value (add_node (room_of K P) (app head us) (terms_in K E P f))
      → Does K E P I f K₁ E₁ P₁ I₁ c.fill c.refusal c.value (add_node (room_of K P) (app head ws) (terms_in K E P f))
  replaced head e d = subst (λ (ys : List ℕ). Does K E P I f K₁ E₁ P₁ I₁ c.fill c.refusal c.value (add_node (room_of K P) (app head ys) (terms_in K E P f))) e d
