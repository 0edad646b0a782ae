-- The value of a head: variables, custom calls, primitives.
use Rattle.std.specs.Prelude as prelude
use Rattle.std.specs.Prelude.{Some, None}
use mathlib.Core.Path.{◌≡◌, refl, sym, ap, subst, ◌∙◌}
use mathlib.Core.Bool.{Bool, true, false, cond}
use mathlib.Core.List.{List, [], ◌∷◌, ◌++◌}
use mathlib.Core.Option.{Option, none, some}
use Prim.Native.Nat.{ℕ, suc, ◌-◌, ◌<◌, ◌≤◌, max}
use lib.Dec.{eqb, ltb}
use borrow.Author.Tests.{lt-ltb, le-ltb}
use Rattle.model.specs.Term as terms
use Rattle.model.specs.Term.{Term, lit, app}
use Rattle.model.specs.Program.{Binding, Program, Primitive}
use Rattle.model.specs.Decode.{read_bindings}
use Rattle.model.specs.Check.{Outcome, refused, Check, and_then, ◌>>=◌, first_of, or_refuse, Room, add_node}
use Rattle.model.specs.Counts.{count_value}
use Rattle.model.specs.Evaluate.{lookup, primitive_at, row_value, counts_in, add_count, validate_by, validate, validated_by, validated}
use Rattle.index.specs.declared.Fill.{Fill}
use Rattle.program.specs.Ready.{option_of}
use Rattle.decode.specs.View.{literal_of, head_of, kind_of, HasNoOperation, primitive_of}
use Rattle.decode.specs.declared.Operation.{Operation}
use Rattle.decode.specs.declared.Validator.{Validator}
use Rattle.decode.specs.declared.Primitive as view_primitive
use Rattle.counts.proofs.Laws.{no-value}
use Rattle.decode.specs.declared.Head as view
use Rattle.termdag.specs.Store.{terms_in, Indexed, room_of, Known}
use Rattle.outcome.specs.Does.{passed, refusal, outcome_of, Does}
use Rattle.outcome.specs.declared.Checked.{Checked}
use Rattle.outcome.specs.declared.Refusal.{Refusal}
use native.Mathlib.Omega.{arith}
use Rattle.outcome.proofs.Laws.{refused-of, does-here}
use Rattle.evaluate.specs.Value.{bindings_in, custom_term, head_term}

-- look-ups
lookup-append : (as' bs : List Binding) (x : ℕ) → lookup (as' ++ bs) x ≡ first_of (lookup as' x) (lookup bs x)
lookup-append [] bs x = refl
lookup-append (a ∷ as') bs x = go (eqb a.name x) (lookup-append as' bs x)
  where
    go : (b : Bool) → lookup (as' ++ bs) x ≡ first_of (lookup as' x) (lookup bs x)
        → elim b [ true ↦ some a.term | false ↦ lookup (as' ++ bs) x ] ≡ first_of (elim b [ true ↦ some a.term | false ↦ lookup as' x ]) (lookup bs x)
    go true h = refl
    go false h = h

module _ (B S G : List ℕ) (x : ℕ) where
  first-of : Option ℕ → Option ℕ → Option ℕ → Option ℕ
  first-of a b c = first_of a (first_of b c)

  lookups : lookup (bindings_in B S G) x ≡ first_of (lookup (read_bindings B) x) (first_of (lookup (read_bindings S) x) (lookup (read_bindings G) x))
  lookups = lookup-append (read_bindings B) (read_bindings S ++ read_bindings G) x ∙ ap (first_of (lookup (read_bindings B) x)) (lookup-append (read_bindings S) (read_bindings G) x)

  pub found_first : (t : ℕ) → some t ≡ lookup (read_bindings B) x → some t ≡ lookup (bindings_in B S G) x
  found_first t e = ap (λ (a : Option ℕ). first_of a (first_of (lookup (read_bindings S) x) (lookup (read_bindings G) x))) e ∙ sym lookups

  pub found-second : (t : ℕ) → none ≡ lookup (read_bindings B) x → some t ≡ lookup (read_bindings S) x → some t ≡ lookup (bindings_in B S G) x
  found-second t e f = (λ i. first_of (e i) (first_of (f i) (lookup (read_bindings G) x))) ∙ sym lookups

  pub found-third : (o : Option ℕ) → none ≡ lookup (read_bindings B) x → none ≡ lookup (read_bindings S) x → o ≡ lookup (read_bindings G) x → o ≡ lookup (bindings_in B S G) x
  found-third o e f g = (λ i. first_of (e i) (first_of (f i) (g i))) ∙ sym lookups

-- a value or a refusal, as the code returns them
pub given-some : {o : Option ℕ} (c : Checked) (t n : ℕ) (fs : List ℕ) (f : Fill) → c ≡ record { refusal = passed; value = t; fill = f } → some t ≡ o
    → (c.fill ≡ f) × ((s : List Term) → outcome_of c.refusal c.value s ≡ or_refuse o n fs s)
unfolding or_refuse
given-some c t n fs f e q = (ap (λ (x : Checked). x.fill) e, λ s. ap (λ (x : Checked). outcome_of x.refusal x.value s) e ∙ ap (λ (o : Option ℕ). or_refuse o n fs s) q)

pub given-none : {o : Option ℕ} (c : Checked) (a b : ℕ) (f : Fill) → c ≡ record { refusal = refusal 45 2 (a ∷ b ∷ 0 ∷ 0 ∷ 0 ∷ 0 ∷ []); value = 0; fill = f } → none ≡ o
    → (c.fill ≡ f) × ((s : List Term) → outcome_of c.refusal c.value s ≡ or_refuse o 45 (a ∷ b ∷ []) s)
unfolding or_refuse
given-none c a b f e q = (ap (λ (x : Checked). x.fill) e, λ s. ap (λ (x : Checked). outcome_of x.refusal x.value s) e ∙ ap (λ (o : Option ℕ). or_refuse o 45 (a ∷ b ∷ []) s) q)

-- a value that needs no new term
pub finds-none : {r : prelude.Option ℕ} {o : Outcome ℕ} {s : List Term} → r ≡ None → Known r o s
finds-none e = record { value = λ v q. let y : ◌≡◌ {A = ℕ} 0 1 = cc in absurd (omega arith) }

-- the kinds of primitives
pub rows-kind : (q : view_primitive.Primitive) → q.validator ≡ Validator.Rows → (primitive_of q).kind ≤ 3
rows-kind q e = rw e (by q.container)
  where
    by : (b : Bool) → cond b 3 1 ≤ 3
    by true = omega arith
    by false = omega arith

pub operation-kind : (o : Operation) → 3 < kind_of o
operation-kind Operation.Sum = omega arith
operation-kind Operation.Difference = omega arith
operation-kind Operation.Product = omega arith
operation-kind Operation.Negation = omega arith
operation-kind Operation.Quotient = omega arith

unknown-none : (k : ℕ) → HasNoOperation (max 9 k)
unknown-none k Operation.Sum e = omega arith
unknown-none k Operation.Difference e = omega arith
unknown-none k Operation.Product e = omega arith
unknown-none k Operation.Negation e = omega arith
unknown-none k Operation.Quotient e = omega arith

-- primitives
module _ (prog : Program) (n p : ℕ) (xs : List ℕ) (q : Primitive) (is : q ≡ primitive_at prog.primitives p) where
  by-validator : (room : Room) (b : Bool) (s : List Term) → q.validator ≡ b → validated room prog n p xs s ≡ validated_by room prog n p xs b s
  by-validator room b s e = ap (λ (v : Bool). validated_by room prog n p xs v s) (ap (λ (r : Primitive). r.validator) (sym is) ∙ e)

  -- without a validator
  pub without-validator : {K E P I : List ℕ} {f : Fill} → Indexed K E P I f → (c : Checked) → 0 < n → q.validator ≡ false
      → c ≡ record { refusal = refusal n 1 (q.name ∷ 0 ∷ 0 ∷ 0 ∷ 0 ∷ 0 ∷ []); value = 0; fill = f }
      → Does K E P I f K E P I c.fill c.refusal c.value (validated (room_of K P) prog n p xs (terms_in K E P f))
  without-validator {K} {E} {P} {I} {f} S c z e d =
      subst (λ (x : Checked). Does K E P I f K E P I x.fill x.refusal x.value (validated (room_of K P) prog n p xs (terms_in K E P f))) (sym d)
      (does-here S (refused-of (refusal n 1 (q.name ∷ 0 ∷ 0 ∷ 0 ∷ 0 ∷ 0 ∷ [])) 0 (terms_in K E P f) (λ i. omega arith)
      ∙ ap {B = Outcome ℕ} (λ (r : Primitive). refused (record { number = n; fields = r.name ∷ [] }) (terms_in K E P f)) is
      ∙ sym (by-validator (room_of K P) false (terms_in K E P f) e)))

  -- with one: it computes, or looks rows up
  abbrev given_by : Room → Primitive → Bool → Check ℕ
  given_by room r b = validate_by room prog p xs b >>= λ o. or_refuse o 46 (r.name ∷ [])

  by_kind : (room : Room) (b : Bool) (s : List Term) → q.validator ≡ true → ltb 3 q.kind ≡ b → given_by room q b s ≡ validated room prog n p xs s
  unfolding validate
  by_kind room b s e k =
      ap (λ (r : Primitive). given_by room r b s) is
      ∙ ap (λ (v : Bool). given_by room (primitive_at prog.primitives p) v s) (sym k ∙ ap (λ (r : Primitive). ltb 3 r.kind) is)
      ∙ sym (by-validator room true s e)

  computes-is : (room : Room) (s : List Term) (k : ℕ) → q.validator ≡ true → q.kind ≡ k → 3 < k
      → and_then (add_count room (count_value k (counts_in s xs)) s) (λ o. or_refuse o 46 (q.name ∷ [])) ≡ validated room prog n p xs s
  computes-is room s k v e l =
      ap (λ (x : Primitive). and_then (add_count room (count_value k (counts_in s xs)) s) (λ o. or_refuse o 46 (x.name ∷ []))) is
      ∙ ap (λ (j : ℕ). and_then (add_count room (count_value j (counts_in s xs)) s) (λ o. or_refuse o 46 ((primitive_at prog.primitives p).name ∷ []))) (sym e ∙ ap (λ (x : Primitive). x.kind) is)
      ∙ ap (λ (x : Primitive). and_then (add_count room (count_value (primitive_at prog.primitives p).kind (counts_in s xs)) s) (λ o. or_refuse o 46 (x.name ∷ []))) (sym is)
      ∙ by_kind room true s v (ap (ltb 3) e ∙ lt-ltb 3 k l)

  pub computes-found : (room : Room) (s : List Term) {r : prelude.Option ℕ} (k : ℕ) → q.validator ≡ true → q.kind ≡ k → 3 < k
      → Known r (and_then (add_count room (count_value k (counts_in s xs)) s) (λ o. or_refuse o 46 (q.name ∷ []))) s → Known r (validated room prog n p xs s) s
  computes-found room s {r} k v e l F = subst (λ (o : Outcome ℕ). Known r o s) (computes-is room s k v e l) F

  pub row-found : (room : Room) (s : List Term) {r : prelude.Option ℕ} → q.validator ≡ true → q.kind ≤ 3 → option_of r ≡ row_value prog.rows p xs → Known r (validated room prog n p xs s) s
  unfolding or_refuse
  row-found room s {r} v k w = record {
    value = λ t e. sym (ap (λ (a : Option ℕ). or_refuse a 46 (q.name ∷ []) s) (sym (ap option_of e) ∙ w) ∙ by_kind room false s v (le-ltb 3 q.kind k));
  }

  pub computes-value : {K E P I : List ℕ} {f : Fill} {K₁ E₁ P₁ I₁ : List ℕ} {f₁ : Fill} {r : Refusal} {a : ℕ} (k : ℕ) → q.validator ≡ true → q.kind ≡ k → 3 < k
      → Does K E P I f K₁ E₁ P₁ I₁ f₁ r a (and_then (add_count (room_of K P) (count_value k (counts_in (terms_in K E P f) xs)) (terms_in K E P f)) (λ o. or_refuse o 46 (q.name ∷ [])))
      → Does K E P I f K₁ E₁ P₁ I₁ f₁ r a (validated (room_of K P) prog n p xs (terms_in K E P f))
  computes-value {K} {E} {P} {I} {f} {K₁} {E₁} {P₁} {I₁} {f₁} {r} {a} k v e l d =
      subst (Does K E P I f K₁ E₁ P₁ I₁ f₁ r a) (computes-is (room_of K P) (terms_in K E P f) k v e l) d

  -- an unknown kind has no value
  pub unknown-value : {K E P I : List ℕ} {f : Fill} → Indexed K E P I f → (c : Checked) (k : ℕ) → q.validator ≡ true → q.kind ≡ max 9 k
      → c ≡ record { refusal = refusal 46 1 (q.name ∷ 0 ∷ 0 ∷ 0 ∷ 0 ∷ 0 ∷ []); value = 0; fill = f }
      → Does K E P I f K E P I c.fill c.refusal c.value (validated (room_of K P) prog n p xs (terms_in K E P f))
  unfolding or_refuse
  unknown-value {K} {E} {P} {I} {f} S c k v e d =
      subst (λ (x : Checked). Does K E P I f K E P I x.fill x.refusal x.value (validated (room_of K P) prog n p xs (terms_in K E P f))) (sym d)
      (does-here S (ap (λ (x : Option terms.Literal). and_then (add_count (room_of K P) x (terms_in K E P f)) (λ o. or_refuse o 46 (q.name ∷ []))) (sym (no-value (max 9 k) (counts_in (terms_in K E P f) xs) (unknown-none k)))
      ∙ computes-is (room_of K P) (terms_in K E P f) (max 9 k) v e (omega arith)))

  module _ {K E P I : List ℕ} {f : Fill} {o : Option ℕ} (S : Indexed K E P I f) (v : q.validator ≡ true) (k : q.kind ≤ 3) (w : o ≡ row_value prog.rows p xs) where
    looked : or_refuse o 46 (q.name ∷ []) (terms_in K E P f) ≡ validated (room_of K P) prog n p xs (terms_in K E P f)
    looked = ap (λ (a : Option ℕ). or_refuse a 46 (q.name ∷ []) (terms_in K E P f)) w ∙ by_kind (room_of K P) false (terms_in K E P f) v (le-ltb 3 q.kind k)

    -- a row
    pub row-some : (c : Checked) (t : ℕ) → some t ≡ o → c ≡ record { refusal = passed; value = t; fill = f }
        → Does K E P I f K E P I c.fill c.refusal c.value (validated (room_of K P) prog n p xs (terms_in K E P f))
    unfolding or_refuse
    row-some c t e g =
        subst (λ (x : Checked). Does K E P I f K E P I x.fill x.refusal x.value (validated (room_of K P) prog n p xs (terms_in K E P f))) (sym g)
        (does-here S (ap (λ (a : Option ℕ). or_refuse a 46 (q.name ∷ []) (terms_in K E P f)) e ∙ looked))

    -- none
    pub row-none : (c : Checked) → none ≡ o → c ≡ record { refusal = refusal 46 1 (q.name ∷ 0 ∷ 0 ∷ 0 ∷ 0 ∷ 0 ∷ []); value = 0; fill = f }
        → Does K E P I f K E P I c.fill c.refusal c.value (validated (room_of K P) prog n p xs (terms_in K E P f))
    unfolding or_refuse
    row-none c e g =
        subst (λ (x : Checked). Does K E P I f K E P I x.fill x.refusal x.value (validated (room_of K P) prog n p xs (terms_in K E P f))) (sym g)
        (does-here S (ap (λ (a : Option ℕ). or_refuse a 46 (q.name ∷ []) (terms_in K E P f)) e ∙ looked))

-- custom calls
module _ {K E P I : List ℕ} {f : Fill} (room : Room) (g : ℕ) (ts : List ℕ) {b : Bool} where
  pub custom-fact : Indexed K E P I f → b ≡ true → {c : Checked} → c ≡ record { refusal = refusal 52 1 (g ∷ 0 ∷ 0 ∷ 0 ∷ 0 ∷ 0 ∷ []); value = 0; fill = f }
      → Does K E P I f K E P I c.fill c.refusal c.value (custom_term b room g ts (terms_in K E P f))
  custom-fact S e d =
      subst (λ (x : Checked). Does K E P I f K E P I x.fill x.refusal x.value (custom_term b room g ts (terms_in K E P f))) (sym d)
      (does-here S (ap (λ (x : Bool). custom_term x room g ts (terms_in K E P f)) (sym e)))

  pub custom-elsewhere : b ≡ false → {K₁ E₁ P₁ I₁ : List ℕ} {f₁ : Fill} {r : Refusal} {a : ℕ}
      → Does K E P I f K₁ E₁ P₁ I₁ f₁ r a (add_node room (app g ts) (terms_in K E P f)) → Does K E P I f K₁ E₁ P₁ I₁ f₁ r a (custom_term b room g ts (terms_in K E P f))
  custom-elsewhere e {K₁} {E₁} {P₁} {I₁} {f₁} {r} {a} d = subst (λ (x : Bool). Does K E P I f K₁ E₁ P₁ I₁ f₁ r a (custom_term x room g ts (terms_in K E P f))) (sym e) d

pub custom-found : {r : prelude.Option ℕ} (b : Bool) (room : Room) (g : ℕ) (ts : List ℕ) (s : List Term) → b ≡ false → Known r (add_node room (app g ts) s) s → Known r (custom_term b room g ts s) s
custom-found {r} b room g ts s e F = subst (λ (x : Bool). Known r (custom_term x room g ts s) s) (sym e) F

-- heads, by case
module _ (fact : Bool) (room : Room) (prog : Program) (rule : ℕ) (σ : List Binding) (ts : List ℕ) (s : List Term) where
  abbrev outcome_at : view.Head → Outcome ℕ
  outcome_at (view.Head.Lit l) = add_node room (lit (literal_of l)) s
  outcome_at (view.Head.Var x) = or_refuse (lookup σ x) 45 (rule ∷ x ∷ []) s
  outcome_at (view.Head.Constructor f) = add_node room (app f ts) s
  outcome_at (view.Head.Custom f) = custom_term fact room f ts s
  outcome_at (view.Head.Primitive p) = validated room prog (cond fact 47 51) p ts s

  head-is : (h : view.Head) → outcome_at h ≡ head_term fact room prog rule σ (head_of h) ts s
  unfolding head_term
  head-is (view.Head.Lit l) = refl
  head-is (view.Head.Var x) = refl
  head-is (view.Head.Constructor f) = refl
  head-is (view.Head.Custom f) = refl
  head-is (view.Head.Primitive p) = refl

  pub head-does : (h h' : view.Head) → h ≡ h' → {K E P I : List ℕ} {f : Fill} {K₁ E₁ P₁ I₁ : List ℕ} {f₁ : Fill} {r : Refusal} {a : ℕ}
      → Does K E P I f K₁ E₁ P₁ I₁ f₁ r a (outcome_at h') → Does K E P I f K₁ E₁ P₁ I₁ f₁ r a (head_term fact room prog rule σ (head_of h) ts s)
  head-does h h' e {K} {E} {P} {I} {f} {K₁} {E₁} {P₁} {I₁} {f₁} {r} {a} d = subst (Does K E P I f K₁ E₁ P₁ I₁ f₁ r a) (ap outcome_at (sym e) ∙ head-is h) d

  pub head-finds : (h h' : view.Head) → h ≡ h' → {r : prelude.Option ℕ} → Known r (outcome_at h') s → Known r (head_term fact room prog rule σ (head_of h) ts s) s
  head-finds h h' e {r} F = subst (λ (o : Outcome ℕ). Known r o s) (ap outcome_at (sym e) ∙ head-is h) F

-- a variable, with the store as it is
pub variable-does : {K E P I : List ℕ} {f : Fill} {c : Checked} {o : Check ℕ} → Indexed K E P I f → (c.fill ≡ f) × ((s : List Term) → outcome_of c.refusal c.value s ≡ o s)
    → Does K E P I f K E P I c.fill c.refusal c.value (o (terms_in K E P f))
variable-does {K} {E} {P} {I} {f} {c} {o} S g =
    subst (λ (x : Fill). Does K E P I f K E P I x c.refusal c.value (o (terms_in K E P f))) (sym g.0) (does-here S (g.1 (terms_in K E P f)))

-- the number that refuses a primitive without validator
pub number-above : {n : ℕ} (fact : Bool) → n ≡ cond fact 47 51 → 0 < n
number-above {n} true e = omega arith
number-above {n} false e = omega arith

pub by_number : (room : Room) (prog : Program) (p : ℕ) (ts : List ℕ) (s : List Term) {n k : ℕ} {K E P I : List ℕ} {f : Fill} {K₁ E₁ P₁ I₁ : List ℕ} {f₁ : Fill} {r : Refusal} {a : ℕ} → n ≡ k
    → Does K E P I f K₁ E₁ P₁ I₁ f₁ r a (validated room prog n p ts s) → Does K E P I f K₁ E₁ P₁ I₁ f₁ r a (validated room prog k p ts s)
by_number room prog p ts s {K = K} {E = E} {P = P} {I = I} {f = f} {K₁ = K₁} {E₁ = E₁} {P₁ = P₁} {I₁ = I₁} {f₁ = f₁} {r = r} {a = a} e d =
    subst (λ (m : ℕ). Does K E P I f K₁ E₁ P₁ I₁ f₁ r a (validated room prog m p ts s)) e d
