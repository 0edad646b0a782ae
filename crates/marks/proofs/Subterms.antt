-- A term and its subterms: as a relation, as the list that evaluation takes, and in a later store.
use Prim.Native.Nat.{ℕ, zero, suc, ◌<◌}
use native.Mathlib.Omega.{arith}
use native.Mathlib.Nat.{not-suc-le-zero}
use mathlib.Core.Path.{◌≡◌, refl, sym, ap, subst}
use mathlib.Core.Logic.{◌⊎◌, inl, inr}
use mathlib.Core.List.{List, [], ◌∷◌, ◌++◌, Memᴰ}
use mathlib.Core.Bool.{Bool, true, false, ◌||◌}
use mathlib.Core.Option.{Option}
use lib.ListN.{length}
use lib.Dec.{eqb}
use Rattle.model.specs.Term.{Term, get_term, Extends, Ordered}
use Rattle.model.specs.Program.{Proposition}
use Rattle.model.specs.Evaluate.{children, concat_map, subterms_in, same, reflexive}
use Rattle.model.specs.Action.{same_proposition, among}
use Rattle.model.proofs.Tests.{or_cases, eq_of, eqb_same, and_left, and_right, never}
use Rattle.model.proofs.Store.{get-extends}
use Rattle.model.proofs.Again.{child-lower}
use Rattle.marks.specs.Covering.{Under, here, down}

concat-in : (g : ℕ → List ℕ) (c x : ℕ) (xs : List ℕ) → Memᴰ c xs → Memᴰ x (g c) → Memᴰ x (concat_map g xs)
concat-in g c x [] m k = absurd (mathlib.Core.List.Memᴰ.not-nil m)
concat-in g c x (y ∷ ys) m k = go (mathlib.Core.List.Memᴰ.cases_cons m) (concat-in g c x ys)
  where
    go : (c ≡ y) ⊎ Memᴰ c ys → (Memᴰ c ys → Memᴰ x (g c) → Memᴰ x (concat_map g ys)) → Memᴰ x (g y ++ concat_map g ys)
    go (inl e) r = mathlib.Core.List.Memᴰ.append_left (concat_map g ys) (rw e at k)
    go (inr n) r = mathlib.Core.List.Memᴰ.append_right (g y) (r n k)

concat-out : (g : ℕ → List ℕ) (x : ℕ) (xs : List ℕ) → Memᴰ x (concat_map g xs) → (c : ℕ) × Memᴰ c xs × Memᴰ x (g c)
concat-out g x [] m = absurd (mathlib.Core.List.Memᴰ.not-nil m)
concat-out g x (y ∷ ys) m = go (mathlib.Core.List.Memᴰ.append_cases (g y) m) (concat-out g x ys)
  where
    go : Memᴰ x (g y) ⊎ Memᴰ x (concat_map g ys) → (Memᴰ x (concat_map g ys) → (c : ℕ) × Memᴰ c ys × Memᴰ x (g c))
        → (c : ℕ) × Memᴰ c (y ∷ ys) × Memᴰ x (g c)
    go (inl k) r = (y, mathlib.Core.List.Memᴰ.head refl, k)
    go (inr k) r = let p = r k in (p.0, mathlib.Core.List.Memᴰ.tail p.1, p.2)

-- the list of evaluation has just these
pub sub-under : (s : List Term) (f t x : ℕ) → Memᴰ x (subterms_in f s t) → Under s x t
unfolding subterms_in
sub-under s zero t x m = absurd (mathlib.Core.List.Memᴰ.not-nil m)
sub-under s (suc f) t x m = go (mathlib.Core.List.Memᴰ.cases_cons m) (λ c. sub-under s f c x)
  where
    go : (x ≡ t) ⊎ Memᴰ x (concat_map (subterms_in f s) (children (get_term s t))) → ((c : ℕ) → Memᴰ x (subterms_in f s c) → Under s x c) → Under s x t
    go (inl e) r = here e
    go (inr k) r = let p = concat-out (subterms_in f s) x (children (get_term s t)) k in down p.1 (r p.0 p.2)

pub under-sub : (s : List Term) → Ordered s → (f t x : ℕ) → t < f → Under s x t → Memᴰ x (subterms_in f s t)
unfolding subterms_in
under-sub s o zero t x h u = absurd (not-suc-le-zero h)
under-sub s o (suc f) t x h (here e) = mathlib.Core.List.Memᴰ.head e
under-sub s o (suc f) t x h (down {c = c} m u) =
    let l = child-lower s o t c m in
    mathlib.Core.List.Memᴰ.tail (concat-in (subterms_in f s) c x (children (get_term s t)) m (under-sub s o f c x (omega arith) u))

-- the pairs of a value are those of its subterms
pub reflexive-under : (s : List Term) (t x : ℕ) → Memᴰ (same x) (reflexive s t) → Under s x t
unfolding reflexive
reflexive-under s t x m =
    let k = mathlib.Core.List.Memᴰ.of_map same (subterms_in (suc t) s t) m in
    sub-under s (suc t) t x (subst (λ (y : ℕ). Memᴰ y (subterms_in (suc t) s t)) (ap (λ (q : Proposition). q.lhs) k.2) k.1)

pub under-reflexive : (s : List Term) → Ordered s → (t x : ℕ) → Under s x t → Memᴰ (same x) (reflexive s t)
unfolding reflexive
under-reflexive s o t x u = mathlib.Core.List.Memᴰ.map same (under-sub s o (suc t) t x (omega arith) u)

-- a later store has the same subterms
module _ (s s' : List Term) (o : Ordered s) (e : Extends s s') where
  pub under-extends : (x t : ℕ) → t < length s → Under s x t → Under s' x t
  under-extends x t h (here q) = here q
  under-extends x t h (down {c = c} m u) =
      let l = child-lower s o t c m in
      down (subst (λ (q : Option Term). Memᴰ c (children q)) (sym (get-extends s s' e t h)) m) (under-extends x c (omega arith) u)

  pub under_back : (x t : ℕ) → t < length s → Under s' x t → Under s x t
  under_back x t h (here q) = here q
  under_back x t h (down {c = c} m u) =
      let m' : Memᴰ c (children (get_term s t)) = subst (λ (q : Option Term). Memᴰ c (children q)) (get-extends s s' e t h) m in
      let l = child-lower s o t c m' in
      down m' (under_back x c (omega arith) u)

-- the test for a reflexive pair decides membership
or-also : (a b : Bool) → b ≡ true → (a || b) ≡ true
or-also true b e = refl
or-also false b e = e

pub among-member : (x : ℕ) (ps : List Proposition) → among (same x) ps ≡ true → Memᴰ (same x) ps
among-member x [] e = never e
among-member x (r ∷ rs) e = go (or_cases (same_proposition (same x) r) (among (same x) rs) e) (among-member x rs)
  where
    go : (same_proposition (same x) r ≡ true) ⊎ (among (same x) rs ≡ true) → (among (same x) rs ≡ true → Memᴰ (same x) rs) → Memᴰ (same x) (r ∷ rs)
    go (inl h) k =
        let a : x ≡ r.lhs = eq_of x r.lhs (and_left _ _ h) in
        let b : x ≡ r.rhs = eq_of x r.rhs (and_right (eqb x r.lhs) _ h) in
        mathlib.Core.List.Memᴰ.head (λ i. record { lhs = a i; rhs = b i })
    go (inr h) k = mathlib.Core.List.Memᴰ.tail (k h)

pub member-among : (x : ℕ) (ps : List Proposition) → Memᴰ (same x) ps → among (same x) ps ≡ true
member-among x [] m = absurd (mathlib.Core.List.Memᴰ.not-nil m)
member-among x (r ∷ rs) m = go (mathlib.Core.List.Memᴰ.cases_cons m) (member-among x rs)
  where
    go : (same x ≡ r) ⊎ Memᴰ (same x) rs → (Memᴰ (same x) rs → among (same x) rs ≡ true) → among (same x) (r ∷ rs) ≡ true
    go (inl e) k = subst (λ (q : Proposition). (same_proposition (same x) q || among (same x) rs) ≡ true) e (rw (eqb_same x) refl)
    go (inr n) k = or-also (same_proposition (same x) r) (among (same x) rs) (k n)
