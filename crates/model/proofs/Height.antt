-- The laws of the height, and that what counts is followed: where a step passes, every proof that `followed` lists is checked. That nothing else is followed is `followed-alone` in Fuel.
use Prim.Native.Nat.{ℕ, zero, suc, ◌≤◌, ◌<◌}
use native.Mathlib.Omega.{arith}
use mathlib.Core.Path.{◌≡◌, refl, sym, ap, ap₂, subst, ◌∙◌}
use mathlib.Core.Logic.{◌⊎◌, inl, inr}
use mathlib.Core.List.Memᴰ
use mathlib.Core.List.{List, [], ◌∷◌, ◌++◌, map, Memᴰ}
use mathlib.Core.Bool.{Bool, true, false, ◌&&◌, ◌||◌, cond}
use mathlib.Core.Option.{Option, none, some}
use lib.ListN.{length, get_or, set}
use lib.Dec.{eqb, ltb}
use borrow.Author.Tests.{eq-eqb}
use Rattle.model.specs.Term.{Term, app, get_term, Below}
use Rattle.model.specs.Program.{Proposition, Binding, Program, Fact, Rule, Proof, Justification, fiat, rule, merge_fn, trans, symm, congr, container_normalize, eval, references}
use Rattle.model.specs.Check.{Outcome, ok, refused, Check, and_then, choose, or_refuse, check_that, Room, add_node}
use Rattle.model.specs.Fact.{assert_body_proof_normal_form, is_container_side_condition, check_side_condition, check_fact_matches_proposition}
use Rattle.model.specs.Action.{ActionContext, among, check_rule_produces_equality}
use Rattle.model.specs.Normalize.{as_app, normalize_container}
use Rattle.model.specs.Walk.{no_proof, claim_at, member, rule_of, is_literal, check_both_apps, check_premises, check_rule, check_merge_fn, check_trans, check_sym, check_congr, check_container_normalize, check_fiat, check_justification, check_proof_with_context}
use Rattle.model.specs.Height.{follow_unless, followed_premises, followed_by, followed, maximum, height_by, height}

-- functions that agree on a list's members
map_same : (f g : ℕ → ℕ) (xs : List ℕ) → ((x : ℕ) → Memᴰ x xs → f x ≡ g x) → map f xs ≡ map g xs
map_same f g [] h = refl
map_same f g (x ∷ xs) h = ap₂ (λ (y : ℕ) (ys : List ℕ). y ∷ ys) (h x (Memᴰ.head refl)) (map_same f g xs (λ y m. h y (Memᴰ.tail m)))

-- a bound of each is a bound of the greatest
maximum-most : (f : ℕ → ℕ) (n : ℕ) (xs : List ℕ) → ((x : ℕ) → f x ≤ n) → maximum (map f xs) ≤ n
maximum-most f n [] h = omega arith
maximum-most f n (x ∷ xs) h = omega (arith, h x, maximum-most f n xs h)

-- what is followed is referred to
premises-within : (prog : Program) (fs : List Fact) (ps : List ℕ) (x : ℕ) → Memᴰ x (followed_premises prog fs ps) → Memᴰ x ps
premises-within prog [] ps x m = absurd (Memᴰ.not-nil m)
premises-within prog (f ∷ fs) [] x m = absurd (Memᴰ.not-nil m)
premises-within prog (f ∷ fs) (p ∷ ps) x m = go (is_container_side_condition prog f) m (premises-within prog fs ps x)
  where
    either : (x ≡ p) ⊎ Memᴰ x (followed_premises prog fs ps) → (Memᴰ x (followed_premises prog fs ps) → Memᴰ x ps) → Memᴰ x (p ∷ ps)
    either (inl e) next = Memᴰ.head e
    either (inr k) next = Memᴰ.tail (next k)

    go : (b : Bool) → Memᴰ x (follow_unless b p (followed_premises prog fs ps)) → (Memᴰ x (followed_premises prog fs ps) → Memᴰ x ps) → Memᴰ x (p ∷ ps)
    go true k next = Memᴰ.tail (next k)
    go false k next = either (Memᴰ.cases_cons k) next

rule-within : (prog : Program) (o : Option Rule) (ps : List ℕ) (x : ℕ) → Memᴰ x (followed_by prog o ps) → Memᴰ x ps
rule-within prog none ps x m = absurd (Memᴰ.not-nil m)
rule-within prog (some r) ps x m = premises-within prog r.facts ps x m

pub followed-within : (prog : Program) (j : Justification) (x : ℕ) → Memᴰ x (followed prog j) → Memᴰ x (references j)
followed-within prog fiat x m = m
followed-within prog (rule n ps σ) x m = rule-within prog (rule_of prog.rules n) ps x m
followed-within prog (merge_fn f a b) x m = m
followed-within prog (trans a b) x m = m
followed-within prog (symm a) x m = m
followed-within prog (congr a i b) x m = m
followed-within prog (container_normalize a) x m = m
followed-within prog eval x m = m

module _ (prog : Program) (proofs : List Proof) where
  -- no height is over its fuel
  pub height-most : (fuel p : ℕ) → height_by prog proofs fuel p ≤ fuel
  height-most zero p = omega arith
  height-most (suc fuel) p = let h = maximum-most (height_by prog proofs fuel) fuel (followed prog (get_or proofs p no_proof).justification) (height-most fuel) in omega arith

  module _ (lower : (p : ℕ) → Below p (references (get_or proofs p no_proof).justification)) where
    below : (p x : ℕ) → Memᴰ x (followed prog (get_or proofs p no_proof).justification) → x < p
    below p x m = lower p x (followed-within prog (get_or proofs p no_proof).justification x m)

    -- fuel beyond the number changes nothing, where each reference has a lower number
    height-fuel : (f g p : ℕ) → p < f → p < g → height_by prog proofs f p ≡ height_by prog proofs g p
    height-fuel zero g p h k = absurd (omega arith)
    height-fuel (suc f) zero p h k = absurd (omega arith)
    height-fuel (suc f) (suc g) p h k =
        ap (λ (hs : List ℕ). suc (maximum hs))
        (map_same (height_by prog proofs f) (height_by prog proofs g) _ (λ x m. let l = below p x m in height-fuel f g x (omega arith) (omega arith)))

    -- THE HEIGHT is one more than the greatest among the proofs followed
    pub height-is : (p : ℕ) → p < length proofs → height prog proofs p ≡ suc (maximum (map (height prog proofs) (followed prog (get_or proofs p no_proof).justification)))
    height-is p h = go (length proofs) h
      where
        go : (n : ℕ) → p < n → height_by prog proofs n p ≡ suc (maximum (map (height_by prog proofs n) (followed prog (get_or proofs p no_proof).justification)))
        go zero l = absurd (omega arith)
        go (suc n) l =
            ap (λ (hs : List ℕ). suc (maximum hs))
            (map_same (height_by prog proofs n) (height_by prog proofs (suc n)) _ (λ x m. let k = below p x m in height-fuel n (suc n) x (omega arith) (omega arith)))

-- what a check gives where it does not refuse
module _ {A : Type 0} where
  abbrev Gave : Outcome A → (A → Type 0) → Type 0
  Gave (ok a s) Q = Q a
  Gave (refused r s) Q = Unit {0}

  -- a record, so that a use finds the outcome and the statement by itself
  pub record Gives (o : Outcome A) (Q : A → Type 0) : Type 0 where
    pub given : Gave o Q

  gives-map : (o : Outcome A) {P Q : A → Type 0} → Gives o P → ((a : A) → P a → Q a) → Gives o Q
  gives-map (ok a s) h k = record { given = k a h.given }
  gives-map (refused r s) h k = record { given = tt }

  gives-pure : {a : A} {s : List Term} {Q : A → Type 0} → Q a → Gives (ok a s) Q
  gives-pure h = record { given = h }

module _ {A B : Type 0} where
  gives-bind : (o : Outcome A) {f : A → Check B} {P : A → Type 0} {Q : B → Type 0} → Gives o P → ((a : A) (s : List Term) → P a → Gives (f a s) Q) → Gives (and_then o f) Q
  gives-bind (ok a s) h k = k a s h.given
  gives-bind (refused r s) h k = record { given = tt }

  -- whatever the first gives
  gives_after : (o : Outcome A) {f : A → Check B} {Q : B → Type 0} → ((a : A) (s : List Term) → Gives (f a s) Q) → Gives (and_then o f) Q
  gives_after (ok a s) k = k a s
  gives_after (refused r s) k = record { given = tt }

gives-or : {A B : Type 0} (o : Option A) (n : ℕ) (fs : List ℕ) (s : List Term) {f : A → Check B} {Q : B → Type 0} → ((a : A) → o ≡ some a → (t : List Term) → Gives (f a t) Q)
    → Gives (and_then (or_refuse o n fs s) f) Q
unfolding or_refuse
gives-or none n fs s k = record { given = tt }
gives-or (some a) n fs s k = k a refl s

-- these proofs are checked, and all that were checked before
pub record AllChecked (xs done done₁ : List ℕ) : Type 0 where
  pub all : (x : ℕ) → Memᴰ x xs → member x done₁ ≡ true
  pub kept : (x : ℕ) → member x done ≡ true → member x done₁ ≡ true

checked-none : {done : List ℕ} → AllChecked [] done done
checked-none = record { all = λ x m. absurd (Memᴰ.not-nil m); kept = λ x h. h }

checked-then : {p : ℕ} {xs done done₁ done₂ : List ℕ} → AllChecked (p ∷ []) done done₁ → AllChecked xs done₁ done₂ → AllChecked (p ∷ xs) done done₂
checked-then {p} {xs} {done} {done₁} {done₂} a b = record { all = λ x m. go x (Memᴰ.cases_cons m); kept = λ x h. b.kept x (a.kept x h) }
  where
    go : (x : ℕ) → (x ≡ p) ⊎ Memᴰ x xs → member x done₂ ≡ true
    go x (inl e) = b.kept x (a.all x (Memᴰ.head e))
    go x (inr m) = b.all x m

or-true : (b : Bool) → (b || true) ≡ true
or-true true = refl
or-true false = refl

module _ (room : Room) (prog : Program) (proofs : List Proof) (ctx : ActionContext) where
  module _ (sub : ℕ → List ℕ → Check (List ℕ)) (follows : (p : ℕ) (done : List ℕ) (s : List Term) → Gives (sub p done s) (AllChecked (p ∷ []) done)) (strict : Bool) where
    premises-checked : (name : ℕ) (fs : List Fact) (ps : List ℕ) (σ : List Binding) (done : List ℕ) (s : List Term)
        → Gives (check_premises room prog proofs ctx sub strict name fs ps σ done s) (λ b. AllChecked (followed_premises prog fs ps) done b.1)
    unfolding check_premises
    premises-checked name [] ps σ done s = gives-pure checked-none
    premises-checked name (f ∷ fs) [] σ done s = record { given = tt }
    premises-checked name (f ∷ fs) (p ∷ ps) σ done s =
        gives_after (assert_body_proof_normal_form prog name f s) λ _ s₁. go (is_container_side_condition prog f) s₁ (premises-checked name fs ps)
      where
        go : (b : Bool) (s₁ : List Term) → ((σ' : List Binding) (d : List ℕ) (t : List Term) → Gives (check_premises room prog proofs ctx sub strict name fs ps σ' d t) (λ b. AllChecked (followed_premises prog fs ps) d b.1))
            → Gives (choose b (λ t. and_then (check_side_condition room prog name σ strict f t) (λ σ'. check_premises room prog proofs ctx sub strict name fs ps σ' done))
            (λ t. and_then (sub p done t) (λ d t₁. and_then (check_fact_matches_proposition room prog name σ f (claim_at proofs p) t₁) (λ _. check_premises room prog proofs ctx sub strict name fs ps σ d))) s₁)
            (λ c. AllChecked (follow_unless b p (followed_premises prog fs ps)) done c.1)
        go true s₁ rest = gives_after (check_side_condition room prog name σ strict f s₁) λ σ' s₂. rest σ' done s₂
        go false s₁ rest =
            gives-bind (sub p done s₁) (follows p done s₁) λ d s₂ a.
            gives_after (check_fact_matches_proposition room prog name σ f (claim_at proofs p) s₂) λ _ s₃.
            gives-map (check_premises room prog proofs ctx sub strict name fs ps σ d s₃) (rest σ d s₃) (λ c. checked-then a)

    -- one proof, then tests that leave what is checked; and two
    one-checked : (a : ℕ) (done : List ℕ) (s : List Term) {f : List ℕ → Check (List ℕ)} → ((d : List ℕ) (t : List Term) → Gives (f d t) (λ e. e ≡ d)) → Gives (and_then (sub a done s) f) (AllChecked (a ∷ []) done)
    one-checked a done s {f} k = gives-bind (sub a done s) (follows a done s) λ d t c. gives-map (f d t) (k d t) λ e h. subst (AllChecked (a ∷ []) done) (sym h) c

    two-checked : (a b : ℕ) (done : List ℕ) (s : List Term) {f : List ℕ → List ℕ → Check (List ℕ)} → ((d e : List ℕ) (t : List Term) → Gives (f d e t) (λ g. g ≡ e))
        → Gives (and_then (sub a done s) (λ d t. and_then (sub b d t) (f d))) (AllChecked (a ∷ b ∷ []) done)
    two-checked a b done s {f} k =
        gives-bind (sub a done s) (follows a done s) λ d t c.
        gives-bind (sub b d t) (follows b d t) λ e u g. gives-map (f d e u) (k d e u) λ x h. subst (AllChecked (a ∷ b ∷ []) done) (sym h) (checked-then c g)

    followed-checked : (p : ℕ) (q : Proposition) (j : Justification) (done : List ℕ) (s : List Term)
        → Gives (check_justification room prog proofs ctx sub strict p q j done s) (AllChecked (followed prog j) done)
    unfolding check_fiat check_rule check_merge_fn check_trans check_sym check_congr check_container_normalize
    followed-checked p q fiat done s =
        gives_after (check_that ((is_literal (get_term s q.lhs) && eqb q.lhs q.rhs) || among q ctx.pairs) 33 (p ∷ q.lhs ∷ q.rhs ∷ []) s) λ _ t. gives-pure checked-none
    followed-checked p q (rule n ps σ) done s =
        gives-or (rule_of prog.rules n) 32 (n ∷ []) s λ r e s₁.
        gives_after (check_that (eqb (length r.facts) (length ps)) 27 (p ∷ n ∷ length r.facts ∷ length ps ∷ []) s₁) λ _ s₂.
        gives-bind (check_premises room prog proofs ctx sub strict n r.facts ps (σ ++ ctx.bindings) done s₂) (premises-checked n r.facts ps (σ ++ ctx.bindings) done s₂) λ b s₃ c.
        gives_after (check_rule_produces_equality room prog r b.0 q s₃) λ _ s₄. gives-pure (subst (λ (o : Option Rule). AllChecked (followed_by prog o ps) done b.1) (sym e) c)
    followed-checked p q (merge_fn f x y) done s = two-checked x y done s λ d e t.
        let a = claim_at proofs x in
        let b = claim_at proofs y in
        gives_after (check_that (eqb a.lhs a.rhs) 39 (p ∷ 0 ∷ a.lhs ∷ a.rhs ∷ []) t) λ _ t₁.
        gives_after (check_that (eqb b.lhs b.rhs) 39 (p ∷ 1 ∷ b.lhs ∷ b.rhs ∷ []) t₁) λ _ t₂.
        gives_after (check_both_apps room prog p q f a.rhs b.rhs (as_app (get_term t₂ a.rhs)) (as_app (get_term t₂ b.rhs)) t₂) λ _ t₃. gives-pure refl
    followed-checked p q (trans x y) done s = two-checked x y done s λ d e t.
        let a = claim_at proofs x in
        let b = claim_at proofs y in
        gives_after (check_that (eqb a.rhs b.lhs) 21 (p ∷ a.rhs ∷ b.lhs ∷ []) t) λ _ t₁.
        gives_after (check_that (eqb q.lhs a.lhs && eqb q.rhs b.rhs) 20 (p ∷ q.lhs ∷ q.rhs ∷ a.lhs ∷ b.rhs ∷ []) t₁) λ _ t₂. gives-pure refl
    followed-checked p q (symm x) done s = one-checked x done s λ d t.
        let a = claim_at proofs x in
        gives_after (check_that (eqb q.lhs a.rhs && eqb q.rhs a.lhs) 20 (p ∷ q.lhs ∷ q.rhs ∷ a.rhs ∷ a.lhs ∷ []) t) λ _ t₁. gives-pure refl
    followed-checked p q (congr x i y) done s = two-checked x y done s λ d e t.
        let a = claim_at proofs x in
        let b = claim_at proofs y in
        gives-or (as_app (get_term t a.rhs)) 22 (p ∷ []) t λ u _ t₁.
        gives_after (check_that (ltb i (length u.args)) 23 (p ∷ i ∷ length u.args ∷ []) t₁) λ _ t₂.
        gives_after (check_that (eqb (get_or u.args i 0) b.lhs) 24 (p ∷ b.lhs ∷ get_or u.args i 0 ∷ i ∷ []) t₂) λ _ t₃.
        gives_after (add_node room (app u.head (set u.args i b.rhs)) t₃) λ expected t₄.
        gives_after (check_that (eqb q.rhs expected) 25 (p ∷ q.rhs ∷ expected ∷ []) t₄) λ _ t₅.
        gives_after (check_that (eqb q.lhs a.lhs) 26 (p ∷ []) t₅) λ _ t₆. gives-pure refl
    followed-checked p q (container_normalize x) done s = one-checked x done s λ d t.
        let a = claim_at proofs x in
        gives_after (normalize_container room prog a.rhs t) λ n t₁.
        gives_after (check_that (eqb q.lhs a.lhs && eqb q.rhs n) 40 (p ∷ a.rhs ∷ n ∷ q.rhs ∷ cond (eqb q.lhs a.lhs) 1 0 ∷ []) t₁) λ _ t₂. gives-pure refl
    followed-checked p q eval done s = record { given = tt }

  walk-checked : (strict : Bool) (fuel p : ℕ) (done : List ℕ) (s : List Term) → Gives (check_proof_with_context room prog proofs ctx strict fuel p done s) (AllChecked (p ∷ []) done)
  unfolding check_proof_with_context
  walk-checked strict zero p done s = record { given = tt }
  walk-checked strict (suc fuel) p done s = go (member p done) refl (followed-checked (check_proof_with_context room prog proofs ctx strict fuel) (walk-checked strict fuel) strict p (claim_at proofs p) (get_or proofs p no_proof).justification done)
    where
      go : (b : Bool) → member p done ≡ b → {c : Check (List ℕ)} → ((t : List Term) → Gives (c t) (AllChecked (followed prog (get_or proofs p no_proof).justification) done))
          → Gives (choose b (λ t. ok done t) (λ t. and_then (c t) (λ d u. ok (p ∷ d) u)) s) (AllChecked (p ∷ []) done)
      go true e h = gives-pure (record { all = λ x m. one x (Memᴰ.cases_cons m); kept = λ x k. k })
        where
          one : (x : ℕ) → (x ≡ p) ⊎ Memᴰ x [] → member x done ≡ true
          one x (inl i) = ap (λ (y : ℕ). member y done) i ∙ e
          one x (inr k) = absurd (Memᴰ.not-nil k)
      go false e {c} h = gives-bind (c s) (h s) λ d t k. gives-pure (record { all = λ x m. one d x (Memᴰ.cases_cons m); kept = λ x l. more d x (k.kept x l) })
        where
          more : (d : List ℕ) (x : ℕ) → member x d ≡ true → member x (p ∷ d) ≡ true
          more d x k = ap (λ (b : Bool). eqb x p || b) k ∙ or-true (eqb x p)

          one : (d : List ℕ) (x : ℕ) → (x ≡ p) ⊎ Memᴰ x [] → member x (p ∷ d) ≡ true
          one d x (inl i) = ap (λ (b : Bool). b || member x d) (eq-eqb x p i)
          one d x (inr k) = absurd (Memᴰ.not-nil k)

  -- WHAT COUNTS IS FOLLOWED: where a step passes, every proof that counts for its height is checked
  pub walk-follows : (strict : Bool) (fuel p : ℕ) (q : Proposition) (j : Justification) (done : List ℕ) (s : List Term)
      → Gives (check_justification room prog proofs ctx (check_proof_with_context room prog proofs ctx strict fuel) strict p q j done s) (AllChecked (followed prog j) done)
  walk-follows strict fuel = followed-checked (check_proof_with_context room prog proofs ctx strict fuel) (walk-checked strict fuel) strict
