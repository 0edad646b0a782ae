-- What a check ensures of its value and the store where it does not refuse, and that no refusal has the number 0.
use Prim.Native.Nat.{ℕ, zero, suc}
use mathlib.Core.Logic.{Lift}
use mathlib.Core.Path.{◌≡◌, refl, sym, subst}
use mathlib.Core.List.{List}
use mathlib.Core.Bool.{Bool, true, false}
use mathlib.Core.Option.{Option, none, some}
use Rattle.model.specs.Term.{Term}
use Rattle.model.specs.Check.{Outcome, ok, refused, Check, and_then, choose, or_refuse, check_that}

-- a number that is not 0: by computation, where it is written out
abbrev pub Nonzero {ℓ} : ℕ → Type ℓ
Nonzero zero = Lift {0, ℓ} ⊥
Nonzero (suc n) = Unit {ℓ}

pub nonzero-at {κ ℓ} : (n : ℕ) → Nonzero {κ} n → Nonzero {ℓ} n
nonzero-at zero h = absurd h.lower
nonzero-at (suc n) h = tt

module _ {ℓ} {A : Type 0} where
  abbrev pub Holds : Outcome A → (A → List Term → Type ℓ) → Type ℓ
  Holds (ok a s) Q = Q a s
  Holds (refused r s) Q = Nonzero r.number

  -- a record, so that a use finds the outcome and the statement by itself
  pub record Post (o : Outcome A) (Q : A → List Term → Type ℓ) : Type ℓ where
    pub holds : Holds o Q

  pub post-ok : {a : A} {s : List Term} {Q : A → List Term → Type ℓ} → Q a s → Post (ok a s) Q
  post-ok q = record { holds = q }

  pub post-result : {o : Outcome A} {Q : A → List Term → Type ℓ} {a : A} {s : List Term} → Post o Q → o ≡ ok a s → Q a s
  post-result {o} {Q} p e = (rw e at p).holds

  pub post-choose : (b : Bool) (x y : Check A) (s : List Term) {Q : A → List Term → Type ℓ}
      → (b ≡ true → Post (x s) Q) → (b ≡ false → Post (y s) Q) → Post (choose b x y s) Q
  post-choose true x y s h k = h refl
  post-choose false x y s h k = k refl

module _ {κ ℓ} {A : Type 0} where
  post-map' : (o : Outcome A) {P : A → List Term → Type κ} {Q : A → List Term → Type ℓ} → Post o P → ((a : A) (s : List Term) → P a s → Q a s) → Post o Q
  post-map' (ok a s) p k = record { holds = k a s p.holds }
  post-map' (refused r s) p k = record { holds = nonzero-at r.number p.holds }

  pub post-map : {o : Outcome A} {P : A → List Term → Type κ} {Q : A → List Term → Type ℓ} → Post o P → ((a : A) (s : List Term) → P a s → Q a s) → Post o Q
  post-map {o} p k = post-map' o p k

module _ {κ ℓ} {A B : Type 0} where
  post_bind' : (o : Outcome A) {f : A → Check B} {P : A → List Term → Type κ} {Q : B → List Term → Type ℓ}
      → Post o P → ((a : A) (s : List Term) → P a s → Post (f a s) Q) → Post (and_then o f) Q
  post_bind' (ok a s) p k = k a s p.holds
  post_bind' (refused r s) p k = record { holds = nonzero-at r.number p.holds }

  pub post-bind : {o : Outcome A} {f : A → Check B} {P : A → List Term → Type κ} {Q : B → List Term → Type ℓ}
      → Post o P → ((a : A) (s : List Term) → P a s → Post (f a s) Q) → Post (and_then o f) Q
  post-bind {o} p k = post_bind' o p k

  same_bind' : (o : Outcome A) (f : A → Check B) {s : List Term} {P : Type κ} {Q : B → List Term → Type ℓ}
      → Post o (λ _ s'. (s' ≡ s) × P) → ((a : A) → P → Post (f a s) Q) → Post (and_then o f) Q
  same_bind' (ok a s') f {s} {P} {Q} p k = subst (λ (u : List Term). Post (f a u) Q) (sym p.holds.0) (k a p.holds.1)
  same_bind' (refused r s') f p k = record { holds = nonzero-at r.number p.holds }

  -- after a check that leaves the store as it was
  pub same-bind : {o : Outcome A} (f : A → Check B) {s : List Term} {P : Type κ} {Q : B → List Term → Type ℓ}
      → Post o (λ _ s'. (s' ≡ s) × P) → ((a : A) → P → Post (f a s) Q) → Post (and_then o f) Q
  same-bind {o} f p k = same_bind' o f p k

module _ {ℓ} {A B : Type 0} where
  pub or-bind : (o : Option A) (n : ℕ) (fs : List ℕ) (s : List Term) (f : A → Check B) {Q : B → List Term → Type ℓ}
      → Nonzero {ℓ} n → ((a : A) → o ≡ some a → Post (f a s) Q) → Post (and_then (or_refuse o n fs s) f) Q
  unfolding or_refuse
  or-bind none n fs s f z k = record { holds = z }
  or-bind (some a) n fs s f z k = k a refl

module _ {ℓ} {B : Type 0} where
  pub that-bind : (b : Bool) (n : ℕ) (fs : List ℕ) (s : List Term) (f : Unit {0} → Check B) {Q : B → List Term → Type ℓ}
      → Nonzero {ℓ} n → (b ≡ true → Post (f tt s) Q) → Post (and_then (check_that b n fs s) f) Q
  unfolding check_that
  that-bind true n fs s f z k = k refl
  that-bind false n fs s f z k = record { holds = z }

pub post-that {ℓ} : (b : Bool) (n : ℕ) (fs : List ℕ) (s : List Term) {Q : Unit {0} → List Term → Type ℓ}
    → Nonzero {ℓ} n → (b ≡ true → Q tt s) → Post (check_that b n fs s) Q
unfolding check_that
post-that true n fs s z k = record { holds = k refl }
post-that false n fs s z k = record { holds = z }
