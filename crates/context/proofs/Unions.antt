-- The table of unions: one more, and a look over all of them.
use mathlib.Core.Path.{◌≡◌, sym, ap, subst, ◌∙◌}
use mathlib.Core.Bool.{Bool, false, ◌||◌}
use mathlib.Core.List.{List, [], ◌∷◌, ◌++◌, append_assoc}
use Prim.Native.Nat.{ℕ, suc, ◌+◌, ◌-◌, ◌≤◌}
use native.Mathlib.Omega.{arith}
use mathlib.Core.Logic.{◌⊎◌, inl, inr}
use lib.Dec.{eqb}
use borrow.Author.Tests.{ne_eqb}
use Rattle.model.proofs.Tests.{and-false}
use lib.ListN.{length, get_or, set, take, length-set}
use lib.Seq.{take-suc-set, length-take-le}
use Rattle.model.specs.Program.{Proposition}
use Rattle.model.specs.Action.{same_proposition, among}
use Rattle.actions.specs.Acting.{effect_has}
use Rattle.actions.specs.declared.Effect.{Effect}
use Rattle.actions.proofs.Acting.{or_no, or_assoc}
use Rattle.marks.specs.Marks.{is_marked}
use Rattle.context.specs.Contexts.{unions_have, Even, Joined, GlobalPairs}

-- a union behind the others
has-append : (a b : ℕ) (q : Proposition) (h : ℕ) (ws : List ℕ) → length ws ≡ h + h → unions_have (ws ++ (a ∷ b ∷ [])) q ≡ (unions_have ws q || effect_has (Effect.Union a b) q)
has-append a b q h [] e = or_no (effect_has (Effect.Union a b) q)
has-append a b q h (x ∷ []) e = absurd (omega arith)
has-append a b q h (x ∷ y ∷ ws) e =
    ap (λ (t : Bool). effect_has (Effect.Union x y) q || t) (has-append a b q (h - 1) ws (omega arith))
    ∙ or_assoc (effect_has (Effect.Union x y) q) (unions_have ws q) (effect_has (Effect.Union a b) q)

module _ (U : List ℕ) (n : ℕ) (even : Even n) where
  pub joined-pair : (a b : ℕ) → n + 2 ≤ length U → {r : ℕ} → r ≡ n + 2 → Joined U n (Effect.Union a b) (set (set U n a) (n + 1) b) r
  joined-pair a b h {r} e = record {
    even = record { half = even.half + 1; twice = let t = even.twice in omega arith };
    most = omega arith;
    has = λ q. ap (λ (l : List ℕ). unions_have l q) words ∙ has-append a b q even.half (take n U) (length-take-le n U (omega arith) ∙ even.twice);
  }
    where
      words : take r (set (set U n a) (n + 1) b) ≡ take n U ++ (a ∷ b ∷ [])
      words =
          let l : length (set U n a) ≡ length U = length-set U n a in
          let p : r ≡ suc (suc n) = omega arith in
          let k : n + 1 ≡ suc n = omega arith in
          (λ i. take (p i) (set (set U n a) (k i) b))
          ∙ take-suc-set (set U n a) (suc n) b (omega arith)
          ∙ ap (λ (l : List ℕ). l ++ (b ∷ [])) (take-suc-set U n a (omega arith))
          ∙ append_assoc (take n U) (a ∷ []) (b ∷ [])

  pub joined-none : (e : Effect) → ((q : Proposition) → effect_has e q ≡ false) → Joined U n e U n
  joined-none e h = record {
    even = even;
    most = omega arith;
    has = λ q. sym (or_no (unions_have (take n U) q)) ∙ ap (λ (t : Bool). unions_have (take n U) q || t) (sym (h q));
  }

pub joined_as : {U : List ℕ} {n : ℕ} {e e' : Effect} {U' : List ℕ} {r : ℕ} → e ≡ e' → Joined U n e' U' r → Joined U n e U' r
joined_as {U} {n} {U' = U'} {r = r} q d = subst (λ (x : Effect). Joined U n x U' r) (sym q) d

-- the first union, and the others
union-next : (ws pair us : List ℕ) (q : Proposition) → ws ≡ pair ++ us → length pair ≡ 2
    → unions_have ws q ≡ ((same_proposition q (record { lhs = get_or pair 0 0; rhs = get_or pair 1 0 }) || same_proposition q (record { lhs = get_or pair 1 0; rhs = get_or pair 0 0 })) || unions_have us q)
union-next ws [] us q e h = absurd (omega arith)
union-next ws (x ∷ []) us q e h = absurd (omega arith)
union-next ws (x ∷ y ∷ []) us q e h = rw e
union-next ws (x ∷ y ∷ z ∷ pair) us q e h = absurd (omega arith)

-- the pair is not that of x and y
abbrev Differs : Proposition → ℕ → ℕ → Type 0
Differs q x y = ((q.lhs ≡ x) × (q.rhs ≡ y → ⊥)) ⊎ (q.lhs ≡ x → ⊥)

differs-no : (q : Proposition) (x y : ℕ) → Differs q x y → same_proposition q (record { lhs = x; rhs = y }) ≡ false
differs-no q x y (inl (e, n)) = rw (ne_eqb q.rhs y n) (and-false (eqb q.lhs x))
differs-no q x y (inr n) = rw (ne_eqb q.lhs x n)

pub union-no : (ws pair us : List ℕ) (q : Proposition) → ws ≡ pair ++ us → length pair ≡ 2
    → Differs q (get_or pair 0 0) (get_or pair 1 0) → Differs q (get_or pair 1 0) (get_or pair 0 0) → unions_have ws q ≡ unions_have us q
union-no ws pair us q e h a b = rw (union-next ws pair us q e h, differs-no q _ _ a, differs-no q _ _ b)

-- a pair of one term
pub pair_same : {ps : List Proposition} {U m : List ℕ} → GlobalPairs ps U m → (q : Proposition) → q.lhs ≡ q.rhs → is_marked m q.lhs ≡ among q ps
pair_same {ps} g q e = g.reflexive q.lhs ∙ ap (λ (y : ℕ). among (record { lhs = q.lhs; rhs = y }) ps) e
