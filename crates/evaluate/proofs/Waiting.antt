-- Expressions that wait for the value of an argument: the evaluator's way down to it, and back.
use Rattle.std.specs.Prelude as prelude
use Rattle.std.specs.Prelude.{Some, None}
use mathlib.Core.Path.{◌≡◌, refl, sym, ap, subst, subst⁻¹, ◌∙◌}
use mathlib.Core.Logic.{◌⊎◌, inl, inr}
use mathlib.Core.Bool.{Bool, true, false, cond, true≢false}
use mathlib.Core.List.{List, [], ◌∷◌, ◌++◌, Memᴰ}
use Prim.Native.Nat.{ℕ, zero, suc, ◌+◌, ◌<◌, ◌≤◌}
use native.Mathlib.Nat.{not-suc-le-zero, le_of_suc-le-suc}
use native.Mathlib.Omega.{arith}
use lib.Dec.{eqb}
use borrow.Author.Tests.{eqb-true, eqb-false}
use lib.ListN.{length, get_or, set, take, length-set}
use Rattle.model.specs.Term.{Term, Extends}
use Rattle.model.specs.Program.{Head, variable, Expr, node, Binding, Program}
use Rattle.model.specs.Decode.{arguments_by}
use Rattle.model.specs.Check.{Outcome, ok, refused, Check, and_then, Room}
use Rattle.model.proofs.Post.{post-result}
use Rattle.model.proofs.Store.{extends-same, extends-then}
use Rattle.index.specs.declared.Fill.{Fill}
use Rattle.termdag.specs.Store.{terms_in, Indexed, room_of}
use Rattle.memo.specs.Memo.{value_at, is_noted, put_value, note_at}
use Rattle.memo.proofs.Laws.{note-length, note-other, note-value-other, put-length, put-noted, put-value, put-value-other, put-past}
use Rattle.outcome.specs.Does.{outcome_of, Grown, Does}
use Rattle.outcome.specs.declared.Checked.{Checked}
use Rattle.outcome.proofs.Laws.{ok_of, refused-of, grown-same, grown-then, room-same}
use Rattle.evaluate.specs.Value.{eval_term, head_term, Reaches, here, down}
use Rattle.evaluate.specs.Evaluation.{Memo, Knows, noted, bound, unknown, KnowsFirst, none, more, Evaluates}
use Rattle.evaluate.proofs.Collecting.{rest, rest-value, rest-refused, run-done}
use Rattle.evaluate.proofs.Settling.{term-settled, term-again}
use Rattle.evaluate.proofs.Turns.{Turn, memo-room, start, finishes, turn-known, rest_all, member-at}

-- what is below what is below e
reaches_then : {args : ℕ → List ℕ} {k a e : ℕ} → Reaches args k a → Reaches args a e → Reaches args k e
reaches_then {args} {k} r (here q) = subst (Reaches args k) q r
reaches_then r (down m s) = down m (reaches_then r s)

-- how many of the first n are not noted
unfoldable pub unnoted : List ℕ → ℕ → ℕ
unnoted m zero = 0
unnoted m (suc n) = cond (is_noted m n) 0 1 + unnoted m n

one_fewer : (a b : Bool) → (a ≡ true → b ≡ true) → cond b 0 1 ≤ cond a 0 1
one_fewer true true h = omega arith
one_fewer true false h = absurd (true≢false (sym (h refl)))
one_fewer false true h = omega arith
one_fewer false false h = omega arith

module _ (m m' : List ℕ) where
  pub unnoted_fewer : (n : ℕ) → ((k : ℕ) → k < n → is_noted m k ≡ true → is_noted m' k ≡ true) → unnoted m' n ≤ unnoted m n
  unfolding unnoted
  unnoted_fewer zero h = omega arith
  unnoted_fewer (suc n) h =
      let a = one_fewer (is_noted m n) (is_noted m' n) (h n (omega arith)) in
      let b = unnoted_fewer n (λ k u. h k (omega arith)) in omega arith

  pub unnoted_less : (n k : ℕ) → k < n → is_noted m k ≡ false → is_noted m' k ≡ true → ((j : ℕ) → j < n → is_noted m j ≡ true → is_noted m' j ≡ true) → unnoted m' n < unnoted m n
  unfolding unnoted
  unnoted_less zero k l p q h = absurd (not-suc-le-zero l)
  unnoted_less (suc n) k l p q h = go (eqb k n) refl (unnoted_less n k)
    where
      go : (b : Bool) → eqb k n ≡ b → (k < n → is_noted m k ≡ false → is_noted m' k ≡ true → ((j : ℕ) → j < n → is_noted m j ≡ true → is_noted m' j ≡ true) → unnoted m' n < unnoted m n)
          → cond (is_noted m' n) 0 1 + unnoted m' n < cond (is_noted m n) 0 1 + unnoted m n
      go true i r =
          let e = eqb-true k n i in
          let a = unnoted_fewer n (λ j u. h j (omega arith)) in
          let b : ◌≡◌ {A = ℕ} (cond (is_noted m' n) 0 1) 0 = ap (λ (x : Bool). cond {A = ℕ} x 0 1) (ap (is_noted m') (sym e) ∙ q) in
          let c : ◌≡◌ {A = ℕ} (cond (is_noted m n) 0 1) 1 = ap (λ (x : Bool). cond {A = ℕ} x 0 1) (ap (is_noted m) (sym e) ∙ p) in omega arith
      go false i r =
          let e = eqb-false k n i in
          let a = one_fewer (is_noted m n) (is_noted m' n) (h n (omega arith)) in
          let b = r (omega arith) p q (λ j u. h j (omega arith)) in omega arith

-- a measure that falls with the number of those, whatever else it falls or rises by below n
unfoldable pub weight : ℕ → ℕ → ℕ
weight n zero = 0
weight n (suc u) = n + weight n u

weight-same : (n u v : ℕ) → u ≤ v → weight n u ≤ weight n v
unfolding weight
weight-same n zero v h = omega arith
weight-same n (suc u) zero h = absurd (not-suc-le-zero h)
weight-same n (suc u) (suc v) h = let r = weight-same n u v (le_of_suc-le-suc h) in omega arith

weight-less : (n u v : ℕ) → u < v → n + weight n u ≤ weight n v
unfolding weight
weight-less n u zero h = absurd (not-suc-le-zero h)
weight-less n u (suc v) h = let r = weight-same n u v (le_of_suc-le-suc h) in omega arith

-- what is known without an evaluation
module _ {head : ℕ → Head} {σ : List Binding} where
  pub knows-length : {e : ℕ} {m : List ℕ} {r : prelude.Option ℕ} {m' : List ℕ} → Knows head σ e m r m' → length m' ≡ length m
  knows-length (noted p q g) = ap length g
  knows-length {e} {m} (bound x t p q r g) = ap length g ∙ note-length m e t
  knows-length (unknown u p g) = ap length g

  knows-above : {e : ℕ} {m : List ℕ} {r : prelude.Option ℕ} {m' : List ℕ} (k : ℕ) → (k ≡ e → ⊥) → Knows head σ e m r m' → (is_noted m' k ≡ is_noted m k) × (value_at m' k ≡ value_at m k)
  knows-above k h (noted p q g) = (ap (λ (l : List ℕ). is_noted l k) g, ap (λ (l : List ℕ). value_at l k) g)
  knows-above {e} {m} k h (bound x t p q r g) = (ap (λ (l : List ℕ). is_noted l k) g ∙ note-other m e t k h, ap (λ (l : List ℕ). value_at l k) g ∙ note-value-other m e t k h)
  knows-above k h (unknown u p g) = (ap (λ (l : List ℕ). is_noted l k) g, ap (λ (l : List ℕ). value_at l k) g)

  first_above : {xs m₀ vals₀ : List ℕ} {i : ℕ} {m vals : List ℕ} (a : ℕ) → ((j : ℕ) → j < length xs → get_or xs j 0 < a) → KnowsFirst head σ xs m₀ vals₀ i m vals
      → (k : ℕ) → a ≤ k → (is_noted m k ≡ is_noted m₀ k) × (value_at m k ≡ value_at m₀ k)
  first_above a low none k h = (refl, refl)
  first_above a low (more {i} W l w) k h =
      let p = first_above a low W k h in
      let v = low i l in
      let q = knows-above k (λ z. omega arith) w in (q.0 ∙ p.0, q.1 ∙ p.1)

  pub first_more : {xs m₀ vals₀ : List ℕ} {i t : ℕ} {m m' vals : List ℕ} {r : prelude.Option ℕ} → KnowsFirst head σ xs m₀ vals₀ i m vals → i < length xs → Knows head σ (get_or xs i 0) m r m' → r ≡ Some t
      → KnowsFirst head σ xs m₀ vals₀ (i + 1) m' (set vals i t)
  first_more {xs} {i = i} {m = m} {m' = m'} W h w q = more W h (subst (λ (y : prelude.Option ℕ). Knows head σ (get_or xs i 0) m y m') q w)

  pub first-noted : {xs m₀ vals₀ : List ℕ} {i : ℕ} {m vals : List ℕ} {t : ℕ} → KnowsFirst head σ xs m₀ vals₀ i m vals → i < length xs → is_noted m (get_or xs i 0) ≡ true → t ≡ value_at m (get_or xs i 0)
      → KnowsFirst head σ xs m₀ vals₀ (i + 1) m (set vals i t)
  first-noted {m = m} {t = t} W h p q = first_more W h (noted p refl refl) (ap Some (sym q))

  pub first-same : {xs m₀ vals₀ : List ℕ} {i : ℕ} {m m' vals : List ℕ} → m' ≡ m → KnowsFirst head σ xs m₀ vals₀ i m vals → KnowsFirst head σ xs m₀ vals₀ i m' vals
  first-same {xs} {m₀} {vals₀} {i} {vals = vals} g W = subst⁻¹ (λ (l : List ℕ). KnowsFirst head σ xs m₀ vals₀ i l vals) g W

  pub first-upto : {xs m₀ vals₀ : List ℕ} {i : ℕ} {m vals : List ℕ} → KnowsFirst head σ xs m₀ vals₀ i m vals → i ≤ length xs
  first-upto none = omega arith
  first-upto (more W h w) = omega arith

  pub first-memo : {xs m₀ vals₀ : List ℕ} {i : ℕ} {m vals : List ℕ} → KnowsFirst head σ xs m₀ vals₀ i m vals → length m ≡ length m₀
  first-memo none = refl
  first-memo (more W h w) = knows-length w ∙ first-memo W

  pub first-vals : {xs m₀ vals₀ : List ℕ} {i : ℕ} {m vals : List ℕ} → KnowsFirst head σ xs m₀ vals₀ i m vals → length vals ≡ length vals₀
  first-vals none = refl
  first-vals (more {i} {t} {vals = vals} W h w) = length-set vals i t ∙ first-vals W

  -- without a value nothing changed, and it is not noted
  pub unknown-next : {e : ℕ} {m : List ℕ} {r : prelude.Option ℕ} {m' : List ℕ} → Knows head σ e m r m' → r ≡ None → (is_noted m' e ≡ false) × (m' ≡ m)
  unknown-next (noted p q g) z = let y : ◌≡◌ {A = ℕ} 0 1 = cc in absurd (omega arith)
  unknown-next (bound x t p q b g) z = let y : ◌≡◌ {A = ℕ} 0 1 = cc in absurd (omega arith)
  unknown-next {e} (unknown u p g) z = (ap (λ (l : List ℕ). is_noted l e) g ∙ u, g)

module _ (fact : Bool) (prog : Program) (rule : ℕ) (σ : List Binding) (n : ℕ) (args : ℕ → List ℕ) (head : ℕ → Head) (expr : ℕ → Expr) where
  abbrev eval : Room → ℕ → Check ℕ
  eval room e = eval_term fact room prog rule σ (expr e)

  -- in every store from s on, e is evaluated by the evaluation of a and then that of e
  pub record First (room : Room) (e a : ℕ) (s : List Term) : Type 0 where
    pub leads : (t : List Term) → Extends s t → and_then (eval room a t) (λ _. eval room e) ≡ eval room e t

  module _ (room : Room) (s : List Term) where
    -- the store after a value
    grows : (e : ℕ) {v : ℕ} {t u : List Term} → Extends s t → eval room e t ≡ ok v u → Extends s u
    grows e {t = t} x q = extends-then x (post-result (term-settled fact room prog rule σ (expr e) t) q).grows

    again : (e : ℕ) (t : List Term) {v : ℕ} {u : List Term} → eval room e t ≡ ok v u → eval room e u ≡ ok v u
    again e t {v} {u} q = term-again fact room prog rule σ (expr e) t u u v q extends-same

    first-self : (e : ℕ) → First room e e s
    first-self e = record { leads = λ t x. go t (eval room e t) refl }
      where
        go : (t : List Term) (o : Outcome ℕ) → eval room e t ≡ o → and_then o (λ _. eval room e) ≡ eval room e t
        go t (ok v u) q = again e t q ∙ sym q
        go t (refused r u) q = sym q

    first-grows : {e a : ℕ} {s' : List Term} → Extends s s' → First room e a s → First room e a s'
    first-grows x F = record { leads = λ t y. F.leads t (extends-then x y) }

    first_then : {e a c : ℕ} → First room e a s → First room a c s → First room e c s
    first_then {e} {a} {c} F G = record { leads = λ t x. go t x (eval room c t) refl }
      where
        go : (t : List Term) → Extends s t → (o : Outcome ℕ) → eval room c t ≡ o → and_then o (λ _. eval room e) ≡ eval room e t
        go t x (ok v u) q =
            sym (F.leads u (grows c x q))
            ∙ ap (λ (p : Outcome ℕ). and_then p (λ _. eval room e)) (sym (ap (λ (p : Outcome ℕ). and_then p (λ _. eval room a)) q) ∙ G.leads t x)
            ∙ F.leads t x
        go t x (refused r u) q =
            ap (λ (p : Outcome ℕ). and_then p (λ _. eval room e)) (sym (ap (λ (p : Outcome ℕ). and_then p (λ _. eval room a)) q) ∙ G.leads t x)
            ∙ F.leads t x

    -- the arguments before the next one have values
    rest-leads : (k : List ℕ → Check ℕ) (xs : List ℕ) (i : ℕ) → i < length xs → ((j : ℕ) → j < i → (v : ℕ) × ((t : List Term) → Extends s t → eval room (get_or xs j 0) t ≡ ok v t))
        → (vs : List ℕ) (t : List Term) → Extends s t → and_then (eval room (get_or xs i 0) t) (λ _. rest (eval room) k vs xs) ≡ rest (eval room) k vs xs t
    rest-leads k [] i h w vs t x = absurd (not-suc-le-zero h)
    rest-leads k (y ∷ ys) zero h w vs t x = go (eval room y t) refl
      where
        go : (o : Outcome ℕ) → eval room y t ≡ o → and_then o (λ _. rest (eval room) k vs (y ∷ ys)) ≡ rest (eval room) k vs (y ∷ ys) t
        go (ok v u) q = rest-value (eval room) k vs y ys u v u (again y t q) ∙ sym (rest-value (eval room) k vs y ys t v u q)
        go (refused r u) q = sym (rest-refused (eval room) k vs y ys t r u q)
    rest-leads k (y ∷ ys) (suc i) h w vs t x =
        go (eval room (get_or ys i 0) t) refl (rest-leads k ys i (le_of_suc-le-suc h) (λ j u. w (suc j) (omega arith)) (vs ++ ((w 0 (omega arith)).0 ∷ [])) t x)
      where
        v : ℕ
        v = (w 0 (omega arith)).0

        next : (u : List Term) → Extends s u → rest (eval room) k vs (y ∷ ys) u ≡ rest (eval room) k (vs ++ (v ∷ [])) ys u
        next u z = rest-value (eval room) k vs y ys u v u ((w 0 (omega arith)).1 u z)

        go : (o : Outcome ℕ) → eval room (get_or ys i 0) t ≡ o
            → and_then (eval room (get_or ys i 0) t) (λ _. rest (eval room) k (vs ++ (v ∷ [])) ys) ≡ rest (eval room) k (vs ++ (v ∷ [])) ys t
            → and_then o (λ _. rest (eval room) k vs (y ∷ ys)) ≡ rest (eval room) k vs (y ∷ ys) t
        go (ok z u) q ih = next u (grows (get_or ys i 0) x q) ∙ sym (ap (λ (p : Outcome ℕ). and_then p (λ _. rest (eval room) k (vs ++ (v ∷ [])) ys)) q) ∙ ih ∙ sym (next t x)
        go (refused r u) q ih = sym (ap (λ (p : Outcome ℕ). and_then p (λ _. rest (eval room) k (vs ++ (v ∷ [])) ys)) q) ∙ ih ∙ sym (next t x)

    -- the first argument without a value
    first-argument : {a : ℕ} {xs m : List ℕ} {i : ℕ} → expr a ≡ node a (head a) (arguments_by expr (args a)) → xs ≡ args a → ((j : ℕ) → j < length xs → get_or xs j 0 < n) → i < length xs
        → Memo args (eval room) n s m → ((j : ℕ) → j < i → is_noted m (get_or xs j 0) ≡ true) → First room a (get_or xs i 0) s
    first-argument {a} {xs} {m} {i} d q low h M w = record {
      leads = λ t x. (λ j. and_then (eval room (get_or xs i 0) t) (λ _ u. sym (whole u) j))
          ∙ rest-leads (head_term fact room prog rule σ (head a)) xs i h
          (λ j l. (value_at m (get_or xs j 0), λ u z. term-again fact room prog rule σ (expr (get_or xs j 0)) s s u (value_at m (get_or xs j 0)) (M.value (get_or xs j 0) (low j (omega arith)) (w j l)) z)) [] t x
          ∙ whole t;
    }
      where
        whole : (u : List Term) → rest (eval room) (head_term fact room prog rule σ (head a)) [] xs u ≡ eval room a u
        whole u = ap (λ (ys : List ℕ). rest (eval room) (head_term fact room prog rule σ (head a)) [] ys u) q ∙ rest_all fact prog rule σ n args head expr room a u d

  -- the expressions from a up to e: each but the last is the argument whose value the next one waits for
  pub data Waits (room : Room) (e : ℕ) (m : List ℕ) (s : List Term) : ℕ → Type 0 where
    root : {a : ℕ} → a ≡ e → Waits room e m s a
    under : {a : ℕ} (b : ℕ) → a < b → b < n → is_noted m b ≡ false → value_at m a ≡ b → Reaches args b e → First room e b s → Waits room e m s b → Waits room e m s a

  -- only expressions below a change, and the store grows
  waits-on : {room : Room} {e : ℕ} {m m' : List ℕ} {s s' : List Term} {a : ℕ} → ((k : ℕ) → a ≤ k → is_noted m' k ≡ is_noted m k) → ((k : ℕ) → a ≤ k → value_at m' k ≡ value_at m k) → Extends s s'
      → Waits room e m s a → Waits room e m' s' a
  waits-on p q x (root z) = root z
  waits-on {a = a} p q x (under b l h u v r F W) =
      under b l h (p b (omega arith) ∙ u) (q a (omega arith) ∙ v) r (first-grows _ _ x F) (waits-on (λ k w. p k (omega arith)) (λ k w. q k (omega arith)) x W)

  knows-turn : {a : ℕ} {xs K E P I : List ℕ} {f : Fill} {m₀ vals₀ : List ℕ} {i : ℕ} {m vals : List ℕ} → xs ≡ args a → length xs ≤ 16 → ((j : ℕ) → j < length xs → get_or xs j 0 < n)
      → ((e : ℕ) → expr e ≡ node e (head e) (arguments_by expr (args e))) → ((e x : ℕ) → variable x ≡ head e → args e ≡ [])
      → Turn fact prog rule σ n args head expr a xs K E P I f m₀ K E P I f m₀ vals₀ 0 → KnowsFirst head σ xs m₀ vals₀ i m vals
      → Turn fact prog rule σ n args head expr a xs K E P I f m₀ K E P I f m vals i
  knows-turn q few low d v T none = T
  knows-turn q few low d v T (more W l w) = turn-known fact prog rule σ n args head expr (knows-turn q few low d v T W) w l q few low d v (knows-length w) refl

  -- the evaluator of e is at a: in a store that has grown e has the outcome that it had at first, and it begins with a
  pub record Open (e : ℕ) (K₀ E₀ P₀ I₀ : List ℕ) (f₀ : Fill) (m₀ K E P I : List ℕ) (f : Fill) (m : List ℕ) (a : ℕ) : Type 0 where
    pub grown : Grown K₀ E₀ P₀ I₀ f₀ K E P I f
    pub same : eval (room_of K₀ P₀) e (terms_in K E P f) ≡ eval (room_of K₀ P₀) e (terms_in K₀ E₀ P₀ f₀)
    pub memo : Memo args (eval (room_of K₀ P₀)) n (terms_in K E P f) m
    pub len_m : length m ≡ length m₀
    pub keeps : (k : ℕ) → k < n → is_noted m₀ k ≡ true → is_noted m k ≡ true
    pub only : (k : ℕ) → k < n → is_noted m k ≡ true → (is_noted m₀ k ≡ true) ⊎ Reaches args k e
    pub low : a < n
    pub fresh : is_noted m a ≡ false
    pub below : Reaches args a e
    pub first : First (room_of K₀ P₀) e a (terms_in K E P f)
    pub waits : Waits (room_of K₀ P₀) e m (terms_in K E P f) a

  pub open_at : {e : ℕ} {K₀ E₀ P₀ I₀ : List ℕ} {f₀ : Fill} {m₀ K E P I : List ℕ} {f : Fill} {m : List ℕ} {a b : ℕ} → b ≡ a → Open e K₀ E₀ P₀ I₀ f₀ m₀ K E P I f m a → Open e K₀ E₀ P₀ I₀ f₀ m₀ K E P I f m b
  open_at {e} {K₀} {E₀} {P₀} {I₀} {f₀} {m₀} {K} {E} {P} {I} {f} {m} q O = subst⁻¹ (Open e K₀ E₀ P₀ I₀ f₀ m₀ K E P I f m) q O

  pub open-start : {e : ℕ} {K E P I : List ℕ} {f : Fill} {m : List ℕ} → e < n → Indexed K E P I f → Memo args (eval (room_of K P)) n (terms_in K E P f) m → is_noted m e ≡ false
      → Open e K E P I f m K E P I f m e
  open-start {e} {K} {E} {P} {I} {f} h S M u = record {
    grown = grown-same S;
    same = refl;
    memo = M;
    len_m = refl;
    keeps = λ k l p. p;
    only = λ k l p. inl p;
    low = h;
    fresh = u;
    below = here refl;
    first = first-self (room_of K P) (terms_in K E P f) e;
    waits = root refl;
  }

  -- the same outcome
  pub evaluates-as : {e : ℕ} {K E P I : List ℕ} {f : Fill} {m K' E' P' I' : List ℕ} {c x : Checked} {m' : List ℕ} → x ≡ c → Evaluates args eval n e K E P I f m K' E' P' I' c m'
      → Evaluates args eval n e K E P I f m K' E' P' I' x m'
  evaluates-as {e} {K} {E} {P} {I} {f} {m} {K'} {E'} {P'} {I'} {m' = m'} q v = subst⁻¹ (λ (y : Checked). Evaluates args eval n e K E P I f m K' E' P' I' y m') q v

  -- another word as the value of what is not noted
  put-memo : {ev : ℕ → Check ℕ} {s : List Term} {m : List ℕ} (c t : ℕ) → is_noted m c ≡ false → Memo args ev n s m → Memo args ev n s (put_value m c t)
  put-memo {ev} {s} {m} c t u M = record {
    long = rw (put-length m c t) M.long;
    past = put-past m c t M.past;
    value = λ k h p. let q = sym (put-noted m c t k) ∙ p in
        M.value k h q ∙ ap {B = Outcome ℕ} (λ (v : ℕ). ok v s) (sym (put-value-other m c t k (λ z. true≢false (sym q ∙ ap (is_noted m) z ∙ u))));
    closed = λ k a h p w. put-noted m c t a ∙ M.closed k a h (sym (put-noted m c t k) ∙ p) w;
  }

  -- at a, with the values of its first i arguments
  module _ {e : ℕ} {K₀ E₀ P₀ I₀ : List ℕ} {f₀ : Fill} {m₀ K E P I : List ℕ} {f : Fill} {m : List ℕ} {a : ℕ} (O : Open e K₀ E₀ P₀ I₀ f₀ m₀ K E P I f m a)
      (d : (j : ℕ) → expr j ≡ node j (head j) (arguments_by expr (args j))) (v : (j x : ℕ) → variable x ≡ head j → args j ≡ [])
      {xs vals₀ : List ℕ} {i : ℕ} {m₁ vals : List ℕ} (q : xs ≡ args a) (few : length xs ≤ 16) (under-a : (j : ℕ) → j < length xs → get_or xs j 0 < a)
      (full : length vals₀ ≡ 16) (W : KnowsFirst head σ xs m vals₀ i m₁ vals) where
    abbrev room : Room
    room = room_of K₀ P₀

    abbrev s : List Term
    s = terms_in K E P f

    same-room : room_of K P ≡ room
    same-room = room-same O.grown

    under-n : (j : ℕ) → j < length xs → get_or xs j 0 < n
    under-n j h = let l = under-a j h in let w = O.low in omega arith

    turn : Turn fact prog rule σ n args head expr a xs K E P I f m K E P I f m₁ vals i
    turn = knows-turn q few under-n d v
        (start fact prog rule σ n args head expr (d a) q O.grown.indexed (memo-room fact prog rule σ n args head expr (sym same-room) O.memo) full) W

    above : (k : ℕ) → a ≤ k → (is_noted m₁ k ≡ is_noted m k) × (value_at m₁ k ≡ value_at m k)
    above = first_above a under-a W

    waits₁ : Waits room e m₁ s a
    waits₁ = waits-on (λ k h. (above k h).0) (λ k h. (above k h).1) extends-same O.waits

    fresh₁ : is_noted m₁ a ≡ false
    fresh₁ = (above a (omega arith)).0 ∙ O.fresh

    memo₁ : Memo args (eval room) n s m₁
    memo₁ = memo-room fact prog rule σ n args head expr same-room turn.memo

    only₁ : (k : ℕ) → (is_noted m k ≡ true) ⊎ Reaches args k a → k < n → (is_noted m₀ k ≡ true) ⊎ Reaches args k e
    only₁ k (inl p) u = O.only k u p
    only₁ k (inr r) u = inr (reaches_then r O.below)

    -- down to the next argument
    module _ (h : i < length xs) (u : is_noted m₁ (get_or xs i 0) ≡ false) {m₂ : List ℕ} (g : m₂ ≡ put_value m₁ (get_or xs i 0) a) where
      abbrev c : ℕ
      c = get_or xs i 0

      pub open-down : Open e K₀ E₀ P₀ I₀ f₀ m₀ K E P I f m₂ c
      open-down = subst⁻¹ (λ (l : List ℕ). Open e K₀ E₀ P₀ I₀ f₀ m₀ K E P I f l c) g (record {
        grown = O.grown;
        same = O.same;
        memo = put-memo c a u memo₁;
        len_m = put-length m₁ c a ∙ turn.len_m ∙ O.len_m;
        keeps = λ k l p. put-noted m₁ c a k ∙ turn.keeps k l (O.keeps k l p);
        only = λ k l p. only₁ k (turn.only k l (sym (put-noted m₁ c a k) ∙ p)) l;
        low = under-n i h;
        fresh = put-noted m₁ c a c ∙ u;
        below = reaches_then (down (subst (Memᴰ c) q (member-at xs i h)) (here refl)) O.below;
        first = first_then room s O.first (first-argument room s (d a) q under-n h memo₁ turn.each);
        waits = under a (under-a i h) O.low (put-noted m₁ c a a ∙ fresh₁) (put-value m₁ c a (let l = memo₁.long in let w = under-n i h in omega arith)) O.below O.first
            (waits-on (λ k l. put-noted m₁ c a k) (λ k l. put-value-other m₁ c a k (λ z. let w = under-a i h in omega arith)) extends-same waits₁);
      })

      pub down-less : weight n (unnoted m₂ n) + c < weight n (unnoted m n) + a
      down-less =
          let l = unnoted_fewer m m₂ n (λ k l p. ap (λ (y : List ℕ). is_noted y k) g ∙ put-noted m₁ c a k ∙ turn.keeps k l p) in
          let r = weight-same n (unnoted m₂ n) (unnoted m n) l in
          let w = under-a i h in omega arith

    -- all arguments, and the head's value
    module _ {K' E' P' I' : List ℕ} {c : Checked} (h : length xs ≤ i)
        (D : Does K E P I f K' E' P' I' c.fill c.refusal c.value (head_term fact (room_of K P) prog rule σ (head a) (take i vals) s)) where
      abbrev s' : List Term
      s' = terms_in K' E' P' c.fill

      D-all : Does K E P I f K' E' P' I' c.fill c.refusal c.value (head_term fact (room_of K P) prog rule σ (head a) (take (length xs) vals) s)
      D-all =
          let u = first-upto W in
          let all : i ≡ length xs = omega arith in
          subst (λ (k : ℕ). Does K E P I f K' E' P' I' c.fill c.refusal c.value (head_term fact (room_of K P) prog rule σ (head a) (take k vals) s)) all D

      whole : Does K E P I f K' E' P' I' c.fill c.refusal c.value (eval (room_of K P) a s)
      whole = run-done turn.run h D-all

      at_a : outcome_of c.refusal c.value s' ≡ eval room a s
      at_a = whole.outcome ∙ ap (λ (r : Room). eval r a s) same-room

      -- refused
      pub open-stop : {m₂ : List ℕ} → (c.refusal.number ≡ 0 → ⊥) → Evaluates args eval n e K₀ E₀ P₀ I₀ f₀ m₀ K' E' P' I' c m₂
      open-stop z = record {
        does = record {
          outcome = refused-of c.refusal c.value s' z
              ∙ sym (ap (λ (o : Outcome ℕ). and_then o (λ _. eval room e)) (sym at_a ∙ refused-of c.refusal c.value s' z))
              ∙ O.first.leads s extends-same ∙ O.same;
          grown = grown-then O.grown whole.grown;
        };
        memo = λ p. absurd (z p);
        noted = λ p. absurd (z p);
      }

      -- noted
      module _ {m₂ : List ℕ} (z : c.refusal.number ≡ 0) (g : m₂ ≡ note_at m₁ a c.value) where
        ev : Evaluates args eval n a K E P I f m K' E' P' I' c m₂
        ev = finishes fact prog rule σ n args head expr turn h q O.low D-all g

        has_value : eval room a s ≡ ok c.value s'
        has_value = sym at_a ∙ ok_of c.refusal c.value s' z

        later : Extends s s'
        later = grows room s a extends-same has_value

        again-e : eval room e s' ≡ eval room e (terms_in K₀ E₀ P₀ f₀)
        again-e = sym (ap (λ (o : Outcome ℕ). and_then o (λ _. eval room e)) has_value) ∙ O.first.leads s extends-same ∙ O.same

        pub open_done : a ≡ e → Evaluates args eval n e K₀ E₀ P₀ I₀ f₀ m₀ K' E' P' I' c m₂
        open_done y = record {
          does = record { outcome = at_a ∙ ap (λ (j : ℕ). eval room j s) y ∙ O.same; grown = grown-then O.grown whole.grown };
          memo = λ p. memo-room fact prog rule σ n args head expr same-room (ev.memo p);
          noted = λ p. record {
            root = subst (λ (j : ℕ). is_noted m₂ j ≡ true) y (ev.noted p).root;
            keeps = λ k l w. (ev.noted p).keeps k l (O.keeps k l w);
            only = λ k l w. only₁ k ((ev.noted p).only k l w) l;
          };
        }

        -- back to what waits for it
        to-above : {b : ℕ} → (a ≡ e → ⊥) → b ≡ value_at m₁ a → Waits room e m₁ s a → Open e K₀ E₀ P₀ I₀ f₀ m₀ K' E' P' I' c.fill m₂ b
        to-above ne y (root w) = absurd (ne w)
        to-above ne y (under b l k u w r F X) = subst⁻¹ (Open e K₀ E₀ P₀ I₀ f₀ m₀ K' E' P' I' c.fill m₂) (y ∙ w) (record {
          grown = grown-then O.grown whole.grown;
          same = again-e;
          memo = memo-room fact prog rule σ n args head expr same-room (ev.memo z);
          len_m = ap length g ∙ note-length m₁ a c.value ∙ turn.len_m ∙ O.len_m;
          keeps = λ j t p. (ev.noted z).keeps j t (O.keeps j t p);
          only = λ j t p. only₁ j ((ev.noted z).only j t p) t;
          low = k;
          fresh = ap (λ (x : List ℕ). is_noted x b) g ∙ note-other m₁ a c.value b (λ x. omega arith) ∙ u;
          below = r;
          first = first-grows room s later F;
          waits = waits-on (λ j t. ap (λ (x : List ℕ). is_noted x j) g ∙ note-other m₁ a c.value j (λ x. omega arith))
              (λ j t. ap (λ (x : List ℕ). value_at x j) g ∙ note-value-other m₁ a c.value j (λ x. omega arith)) later X;
        })

        pub open_up : {b : ℕ} → (a ≡ e → ⊥) → b ≡ value_at m₁ a → Open e K₀ E₀ P₀ I₀ f₀ m₀ K' E' P' I' c.fill m₂ b
        open_up ne y = to-above ne y waits₁

        pub up-less : {b : ℕ} → b < n → weight n (unnoted m₂ n) + b < weight n (unnoted m n) + a
        up-less {b} l =
            let u = unnoted_less m m₂ n a O.low O.fresh (ev.noted z).root (ev.noted z).keeps in
            let r = weight-less n (unnoted m₂ n) (unnoted m n) u in omega arith
