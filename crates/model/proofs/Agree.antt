-- A check on the store and its counterpart on trees: both have a value, related by P, or neither has one; for want of room (53) the store's alone may
-- lack it. No refusal has the number 0.
use Prim.Native.Nat.{ℕ}
use mathlib.Core.Path.{◌≡◌, refl, sym, subst}
use mathlib.Core.List.{List}
use mathlib.Core.Option.{Option, none, some}
use Rattle.model.specs.Term.{Term}
use Rattle.model.specs.Check.{Refusal, Outcome, ok, refused, Check, and_then, ◌>>?◌}
use Rattle.model.proofs.Post.{Nonzero, Post, post-ok}

module _ {A B : Type 0} where
  abbrev pub Agreement : Outcome A → Option B → (A → List Term → B → Type 0) → Type 0
  Agreement (ok a s) none P = ⊥
  Agreement (ok a s) (some b) P = P a s b
  Agreement (refused r s) none P = Nonzero r.number
  Agreement (refused r s) (some b) P = r.number ≡ 53

  -- a record, so that a use finds the two sides and the statement by itself
  pub record Agree (o : Outcome A) (O : Option B) (P : A → List Term → B → Type 0) : Type 0 where
    pub agrees : Agreement o O P

  pub agree-ok : {a : A} {s : List Term} {b : B} {P : A → List Term → B → Type 0} → P a s b → Agree (ok a s) (some b) P
  agree-ok p = record { agrees = p }

  -- a refusal, and no tree
  pub agree-none : {r : Refusal} {s : List Term} {P : A → List Term → B → Type 0} → Nonzero {0} r.number → Agree (refused r s) none P
  agree-none z = record { agrees = z }

  agree_post' : (o : Outcome A) (O : Option B) {P : A → List Term → B → Type 0} → Agree o O P → Post o (λ a s. (b : B) × (O ≡ some b) × P a s b)
  agree_post' (ok a s) none g = absurd g.agrees
  agree_post' (ok a s) (some b) g = post-ok (b, refl, g.agrees)
  agree_post' (refused r s) none g = record { holds = g.agrees }
  agree_post' (refused r s) (some b) g = record { holds = subst (λ (n : ℕ). Nonzero {0} n) (sym g.agrees) tt }

  -- where the store's side has a value, the trees' side has one
  pub agree-post : {o : Outcome A} {O : Option B} {P : A → List Term → B → Type 0} → Agree o O P → Post o (λ a s. (b : B) × (O ≡ some b) × P a s b)
  agree-post {o} {O} g = agree_post' o O g

  agree-refused' : (o : Outcome A) (O : Option B) {P : A → List Term → B → Type 0} {r : Refusal} {s : List Term} → Agree o O P → o ≡ refused r s → ¬ (r.number ≡ 53) → O ≡ none
  agree-refused' o none g e n = refl
  agree-refused' o (some b) {P} g e n = absurd (n (subst (λ (x : Outcome A). Agree x (some b) P) e g).agrees)

  -- where the store's side is refused by another number than 53, the trees' side has no value
  pub agree-refused : {o : Outcome A} {O : Option B} {P : A → List Term → B → Type 0} {r : Refusal} {s : List Term} → Agree o O P → o ≡ refused r s → ¬ (r.number ≡ 53) → O ≡ none
  agree-refused {o} {O} g e n = agree-refused' o O g e n

  agree-map' : (o : Outcome A) (O : Option B) {P Q : A → List Term → B → Type 0} → Agree o O P → ((a : A) (s : List Term) (b : B) → P a s b → Q a s b) → Agree o O Q
  agree-map' (ok a s) none g k = absurd g.agrees
  agree-map' (ok a s) (some b) g k = record { agrees = k a s b g.agrees }
  agree-map' (refused r s) none g k = record { agrees = g.agrees }
  agree-map' (refused r s) (some b) g k = record { agrees = g.agrees }

  pub agree-map : {o : Outcome A} {O : Option B} {P Q : A → List Term → B → Type 0} → Agree o O P → ((a : A) (s : List Term) (b : B) → P a s b → Q a s b) → Agree o O Q
  agree-map {o} {O} g k = agree-map' o O g k

module _ {A B A' B' : Type 0} where
  agree_bind' : (o : Outcome A) (O : Option B) (f : A → Check A') (F : B → Option B') {P : A → List Term → B → Type 0} {Q : A' → List Term → B' → Type 0}
      → Agree o O P → ((a : A) (s : List Term) (b : B) → P a s b → Agree (f a s) (F b) Q) → Agree (and_then o f) (O >>? F) Q
  agree_bind' (ok a s) none f F g k = absurd g.agrees
  agree_bind' (ok a s) (some b) f F g k = k a s b g.agrees
  agree_bind' (refused r s) none f F g k = record { agrees = g.agrees }
  agree_bind' (refused r s) (some b) f F {Q = Q} g k = go (F b)
    where
      go : (X : Option B') → Agree (refused r s) X Q
      go none = record { agrees = subst (λ (n : ℕ). Nonzero {0} n) (sym g.agrees) tt }
      go (some c) = record { agrees = g.agrees }

  -- one step on each side, then the rest
  pub agree-bind : {o : Outcome A} {O : Option B} {f : A → Check A'} {F : B → Option B'} {P : A → List Term → B → Type 0} {Q : A' → List Term → B' → Type 0}
      → Agree o O P → ((a : A) (s : List Term) (b : B) → P a s b → Agree (f a s) (F b) Q) → Agree (and_then o f) (O >>? F) Q
  agree-bind {o} {O} {f} {F} g k = agree_bind' o O f F g k
