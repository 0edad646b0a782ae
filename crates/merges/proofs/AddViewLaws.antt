-- The view of a merged value, added, and the claim that is looked for.
use mathlib.Core.Path.{◌≡◌, refl, sym, ap, subst⁻¹, ◌∙◌}
use mathlib.Core.Logic.{◌⊎◌, inl, inr}
use mathlib.Core.Bool.{Bool, true, false, ◌||◌}
use mathlib.Core.List.Memᴰ
use mathlib.Core.List.{List, [], ◌∷◌, ◌++◌, Memᴰ}
use mathlib.Core.Option.{some}
use Prim.Native.Nat.{ℕ, zero, suc, ◌*◌, ◌<◌, ◌≤◌}
use native.Mathlib.Omega.{arith}
use lib.Dec.{eqb}
use lib.ListN.{length, get_or, set, take}
use borrow.Author.Tests.{eqb-true, eqb-false}
use Rattle.model.specs.Term.{Term, app, get_term, Below, Ordered}
use Rattle.model.specs.Program.{Proposition}
use Rattle.model.specs.Check.{Check, check_that, add_node}
use Rattle.model.specs.Evaluate.{children, same}
use Rattle.model.specs.Action.{same_proposition, among}
use Rattle.model.specs.Walk.{last, front}
use Rattle.model.proofs.Post.{post-result}
use Rattle.model.proofs.Store.{Added}
use Rattle.model.proofs.Again.{added, child-lower}
use Rattle.index.specs.declared.Fill.{Fill}
use Rattle.termdag.specs.Store.{terms_in, room_of}
use Rattle.outcome.specs.Does.{refusal, outcome_of, Does}
use Rattle.outcome.specs.declared.Refusal.{Refusal}
use Rattle.outcome.specs.declared.Checked.{Checked}
use Rattle.outcome.proofs.Laws.{ok_of, does-here, does-then, does-stop}
use Rattle.marks.specs.Marks.{is_marked, close}
use Rattle.marks.specs.Covering.{Marks}
use Rattle.marks.proofs.Marking.{marks-extends, marks-closed}
use Rattle.termdag.proofs.Laws.{terms-length}
use Rattle.heads.specs.Heading.{claimed_by}
use Rattle.merges.specs.Merge.{add_view}
use Rattle.merges.specs.Step.{refused_unless, AddsView}
use Rattle.merges.proofs.TestLaws.{that-is}
use Rattle.merges.proofs.AddLaws.{replaced}

-- the last child and those before it
pub front-take : (xs : List ℕ) (n : ℕ) → length xs ≡ suc n → front xs ≡ take n xs
front-take [] n e = absurd (omega arith)
front-take (x ∷ []) zero e = refl
front-take (x ∷ []) (suc n) e = absurd (omega arith)
front-take (x ∷ y ∷ ys) zero e = absurd (omega arith)
front-take (x ∷ y ∷ ys) (suc n) e = ap {B = List ℕ} (λ (l : List ℕ). x ∷ l) (front-take (y ∷ ys) n (omega arith))

pub last-at : (xs : List ℕ) (n : ℕ) → length xs ≡ suc n → last xs ≡ some (get_or xs n 0)
last-at [] n e = absurd (omega arith)
last-at (x ∷ []) zero e = refl
last-at (x ∷ []) (suc n) e = absurd (omega arith)
last-at (x ∷ y ∷ ys) zero e = absurd (omega arith)
last-at (x ∷ y ∷ ys) (suc n) e = last-at (y ∷ ys) n (omega arith)

last_set : (xs : List ℕ) (n v : ℕ) → length xs ≡ suc n → set xs n v ≡ front xs ++ (v ∷ [])
last_set [] n v e = absurd (omega arith)
last_set (x ∷ []) zero v e = refl
last_set (x ∷ []) (suc n) v e = absurd (omega arith)
last_set (x ∷ y ∷ ys) zero v e = absurd (omega arith)
last_set (x ∷ y ∷ ys) (suc n) v e = ap {B = List ℕ} (λ (l : List ℕ). x ∷ l) (last_set (y ∷ ys) n v (omega arith))

pub front-within : (n : ℕ) (xs : List ℕ) (v : ℕ) → Below n xs → v < n → Below n (front xs ++ (v ∷ []))
front-within n [] v b h x m = go (Memᴰ.cases_cons m)
  where
    go : (x ≡ v) ⊎ Memᴰ x [] → x < n
    go (inl e) = omega arith
    go (inr k) = absurd (Memᴰ.not-nil k)
front-within n (y ∷ []) v b h x m = go (Memᴰ.cases_cons m)
  where
    go : (x ≡ v) ⊎ Memᴰ x [] → x < n
    go (inl e) = omega arith
    go (inr k) = absurd (Memᴰ.not-nil k)
front-within n (y ∷ z ∷ zs) v b h x m = go (Memᴰ.cases_cons m) (front-within n (z ∷ zs) v (λ u k. b u (Memᴰ.tail k)) h x)
  where
    go : (x ≡ y) ⊎ Memᴰ x (front (z ∷ zs) ++ (v ∷ [])) → (Memᴰ x (front (z ∷ zs) ++ (v ∷ [])) → x < n) → x < n
    go (inl e) r = b x (Memᴰ.head e)
    go (inr k) r = r k

-- what the marks m say of a claim
abbrev covers : List Term → ℕ → List ℕ → Proposition → Bool
covers s n m q = claimed_by (eqb q.lhs q.rhs) false (is_marked (close s n m) q.lhs)

-- the view of a merged value
pub view-tested : (s₁ : List Term) (n : ℕ) (m : List ℕ) (p : ℕ) (q : Proposition) (view : ℕ) {covered : Bool} {r : Refusal} (s : List Term) → covered ≡ covers s₁ n m q
    → r ≡ refused_unless (same_proposition q (same view) || covered) (refusal 38 3 (p ∷ q.lhs ∷ q.rhs ∷ 0 ∷ 0 ∷ 0 ∷ []))
    → outcome_of r tt s ≡ check_that (same_proposition q (same view) || covers s₁ n m q) 38 (p ∷ q.lhs ∷ q.rhs ∷ []) s
view-tested s₁ n m p q view {covered} s e h =
    that-is (same_proposition q (same view) || covered) 38 3 (p ∷ q.lhs ∷ q.rhs ∷ 0 ∷ 0 ∷ 0 ∷ []) h tt s
    ∙ ap (λ (x : Bool). check_that (same_proposition q (same view) || x) 38 (p ∷ q.lhs ∷ q.rhs ∷ []) s) e

module _ (p : ℕ) (q : Proposition) (t head value : ℕ) (K E P I : List ℕ) (f : Fill) (m K₁ E₁ P₁ I₁ : List ℕ) (n : ℕ) (c : Checked) where
  abbrev s : List Term
  s = terms_in K E P f

  abbrev s₁ : List Term
  s₁ = terms_in K₁ E₁ P₁ c.fill

  abbrev xs : List ℕ
  xs = children (get_term s t)

  abbrev claims : List Proposition → ℕ → Check (Unit {0})
  claims ps view = check_that (among q (same view ∷ ps)) 38 (p ∷ q.lhs ∷ q.rhs ∷ [])

  module _ (k : length xs ≡ suc n) (A : Does K E P I f K₁ E₁ P₁ I₁ c.fill c.refusal c.value (add_node (room_of K P) (app head (set xs n value)) s)) where
    view : Does K E P I f K₁ E₁ P₁ I₁ c.fill c.refusal c.value (add_node (room_of K P) (app head (front xs ++ (value ∷ []))) s)
    view = replaced {c = c} head (last_set xs n value k) A

    pub view-stops : (c.refusal.number ≡ 0 → ⊥) → AddsView p q t head value K E P I f m K₁ E₁ P₁ I₁ c
    unfolding add_view
    view-stops z = record { does = λ ps o v l h w. does-stop tt (claims ps) view z }

    module _ (z : c.refusal.number ≡ 0) (ps : List Proposition) (o : Ordered s) (v : value < length s) (t-in : t < length s) (l : length K ≤ 32 * length m)
        (h : (q.lhs ≡ q.rhs → ⊥) → among q ps ≡ false) (w : eqb q.lhs q.rhs ≡ true → Marks s m ps) where
      became : Added (room_of K P) (app head (front xs ++ (value ∷ []))) s c.value s₁
      became = (post-result (added (room_of K P) (app head (front xs ++ (value ∷ []))) s) (sym view.outcome ∙ ok_of c.refusal c.value s₁ z)).1

      ordered : Ordered s₁
      ordered = became.ordered (front-within (length s) xs value (λ x k. let a = child-lower s o t x k in omega arith) v) o

      claimed-is : (b : Bool) → eqb q.lhs q.rhs ≡ b → claimed_by b false (is_marked (close s₁ c.fill.cells m) q.lhs) ≡ among q ps
      claimed-is false u = sym (h (eqb-false q.lhs q.rhs u))
      claimed-is true u =
          let i : q.lhs ≡ q.rhs = eqb-true q.lhs q.rhs u in
          let n = terms-length K₁ E₁ P₁ c.fill in
          let a = view.grown.indexed.stored.formed.kinds in
          let b = view.grown.len_k in
          marks-closed c.fill.cells n ordered (omega arith) (marks-extends o became.grows (w u)) refl q.lhs
          ∙ ap (λ (y : ℕ). among (record { lhs = q.lhs; rhs = y }) ps) i

      view-does : (r : Refusal)
          → ((u : List Term) → outcome_of r tt u ≡ check_that (same_proposition q (same c.value) || covers s₁ c.fill.cells m q) 38 (p ∷ q.lhs ∷ q.rhs ∷ []) u)
          → Does K E P I f K₁ E₁ P₁ I₁ c.fill r tt (add_view (room_of K P) p q head (front xs) value ps s)
      unfolding add_view
      view-does r g = does-then (λ room. claims ps) view z (does-here view.grown.indexed
          (g s₁ ∙ ap (λ (x : Bool). check_that (same_proposition q (same c.value) || x) 38 (p ∷ q.lhs ∷ q.rhs ∷ []) s₁) (claimed-is (eqb q.lhs q.rhs) refl)))

    pub view-ends : {d : Checked} (r : Refusal) → c.refusal.number ≡ 0 → t < length s
        → ((u : List Term) → outcome_of r tt u ≡ check_that (same_proposition q (same c.value) || covers s₁ c.fill.cells m q) 38 (p ∷ q.lhs ∷ q.rhs ∷ []) u)
        → d ≡ record { refusal = r; value = 0; fill = c.fill } → AddsView p q t head value K E P I f m K₁ E₁ P₁ I₁ d
    view-ends r z i g e = subst⁻¹ (λ (x : Checked). AddsView p q t head value K E P I f m K₁ E₁ P₁ I₁ x) e (record { does = λ ps o v l h w. view-does z ps o v i l h w r g })
