-- Numbers evaluated one after the other: the values so far, and what is left.
use mathlib.Core.Path.{◌≡◌, refl, sym, ap, ◌∙◌}
use mathlib.Core.List.{List, [], ◌∷◌, ◌++◌, append_assoc, append-nil}
use Prim.Native.Nat.{ℕ, suc, ◌+◌, ◌<◌, ◌≤◌}
use native.Mathlib.Numerals.{add-one}
use native.Mathlib.Omega.{arith}
use lib.ListN.{length, get_or, set, take, drop, drop_of_length-le}
use lib.Seq.{drop-cons, take-suc-set}
use Rattle.model.specs.Term.{Term}
use Rattle.model.specs.Check as model
use Rattle.model.specs.Check.{Outcome, ok, refused, Check, and_then, ◌>>=◌, pure, Room}
use Rattle.index.specs.declared.Fill.{Fill}
use Rattle.termdag.specs.Store.{terms_in, Indexed, room_of}
use Rattle.outcome.specs.Does.{refusal_of, outcome_of, Grown, Does}
use Rattle.outcome.specs.declared.Refusal.{Refusal}
use Rattle.outcome.proofs.Laws.{ok_of, refused-of, grown-same, grown-then, room-same}

-- the values of all of them
unfoldable pub each : (ℕ → Check ℕ) → List ℕ → Check (List ℕ)
each eval [] = pure []
each eval (x ∷ xs) = eval x >>= λ t. each eval xs >>= λ ts. pure (t ∷ ts)

-- what goes the same way gives the same
pub each-is : (eval : ℕ → Check ℕ) (evals : List ℕ → Check (List ℕ)) → ((s : List Term) → ok [] s ≡ evals [] s)
    → ((x : ℕ) (xs : List ℕ) (s : List Term) → and_then (eval x s) (λ t. evals xs >>= λ ts. pure (t ∷ ts)) ≡ evals (x ∷ xs) s)
    → (xs : List ℕ) (s : List Term) → each eval xs s ≡ evals xs s
unfolding each
each-is eval evals a b [] s = a s
each-is eval evals a b (x ∷ xs) s = go (eval x s) (each-is eval evals a b xs) ∙ b x xs s
  where
    go : (o : Outcome ℕ) → ((u : List Term) → each eval xs u ≡ evals xs u)
        → and_then o (λ t. each eval xs >>= λ ts. pure (t ∷ ts)) ≡ and_then o (λ t. evals xs >>= λ ts. pure (t ∷ ts))
    go (ok t u) r = ap (λ (p : Outcome (List ℕ)). and_then p (λ ts. pure (t ∷ ts))) (r u)
    go (refused q u) r = refl

module _ {B : Type 0} where
  -- what is left after the values vs, with the numbers xs to come, where k goes on with all the values
  abbrev pub rest : (ℕ → Check ℕ) → (List ℕ → Check B) → List ℕ → List ℕ → Check B
  rest eval k vs xs s = and_then (each eval xs s) (λ ts. k (vs ++ ts))

  collect : (o : Outcome (List ℕ)) (t : ℕ) (h k : List ℕ → Check B) → ((ts : List ℕ) (s : List Term) → h (t ∷ ts) s ≡ k ts s)
      → and_then (and_then o (λ ts. pure (t ∷ ts))) h ≡ and_then o k
  collect (ok ts s) t h k e = e ts s
  collect (refused r s) t h k e = refl

  module _ (eval : ℕ → Check ℕ) (k : List ℕ → Check B) (vs : List ℕ) where
    rest-none : (s : List Term) → rest eval k vs [] s ≡ k vs s
    unfolding each
    rest-none s = ap (λ (ts : List ℕ). k ts s) (append-nil vs)

    module _ (x : ℕ) (xs : List ℕ) (s : List Term) where
      rest-by : {o : Outcome ℕ} → eval x s ≡ o → rest eval k vs (x ∷ xs) s ≡ and_then (and_then o (λ t. each eval xs >>= λ ts. pure (t ∷ ts))) (λ ts. k (vs ++ ts))
      unfolding each
      rest-by q = ap (λ (o : Outcome ℕ). and_then (and_then o (λ t. each eval xs >>= λ ts. pure (t ∷ ts))) (λ ts. k (vs ++ ts))) q

      pub rest-value : (t : ℕ) (s' : List Term) → eval x s ≡ ok t s' → rest eval k vs (x ∷ xs) s ≡ rest eval k (vs ++ (t ∷ [])) xs s'
      rest-value t s' q = rest-by q ∙ collect (each eval xs s') t _ _ (λ ts u. ap (λ (l : List ℕ). k l u) (sym (append_assoc vs (t ∷ []) ts)))

      pub rest-refused : (r : model.Refusal) (s' : List Term) → eval x s ≡ refused r s' → rest eval k vs (x ∷ xs) s ≡ refused r s'
      rest-refused r s' q = rest-by q

  -- after the first i of xs, whose values are in vals; the whole gives o
  pub record Run (eval : Room → ℕ → Check ℕ) (k : Room → List ℕ → Check B) (xs K₀ E₀ P₀ I₀ : List ℕ) (f₀ : Fill) (K E P I : List ℕ) (f : Fill) (vals : List ℕ) (i : ℕ) (o : Outcome B) : Type 0 where
    pub upto : i ≤ length xs
    pub grown : Grown K₀ E₀ P₀ I₀ f₀ K E P I f
    pub left : rest (eval (room_of K₀ P₀)) (k (room_of K₀ P₀)) (take i vals) (drop i xs) (terms_in K E P f) ≡ o

  pub run-start : {eval : Room → ℕ → Check ℕ} {k : Room → List ℕ → Check B} {xs K E P I : List ℕ} {f : Fill} {vals : List ℕ} {o : Outcome B}
      → Indexed K E P I f → rest (eval (room_of K P)) (k (room_of K P)) [] xs (terms_in K E P f) ≡ o → Run eval k xs K E P I f K E P I f vals 0 o
  run-start S e = record { upto = omega arith; grown = grown-same S; left = e }

  module _ {eval : Room → ℕ → Check ℕ} {k : Room → List ℕ → Check B} {xs K₀ E₀ P₀ I₀ : List ℕ} {f₀ : Fill} {K E P I : List ℕ} {f : Fill} {vals : List ℕ} {i : ℕ} {o : Outcome B}
      (R : Run eval k xs K₀ E₀ P₀ I₀ f₀ K E P I f vals i o) where
    abbrev room : Room
    room = room_of K₀ P₀

    abbrev s : List Term
    s = terms_in K E P f

    same-room : room_of K P ≡ room
    same-room = room-same R.grown

    -- the next one refused, or evaluated
    module _ {K' E' P' I' : List ℕ} {f' : Fill} {r : Refusal} {a : ℕ} (h : i < length xs) (d : Does K E P I f K' E' P' I' f' r a (eval (room_of K P) (get_or xs i 0) s)) where
      abbrev s' : List Term
      s' = terms_in K' E' P' f'

      next : outcome_of r a s' ≡ eval room (get_or xs i 0) s
      next = d.outcome ∙ ap (λ (x : Room). eval x (get_or xs i 0) s) same-room

      left-next : rest (eval room) (k room) (take i vals) (get_or xs i 0 ∷ drop (suc i) xs) s ≡ o
      left-next = ap (λ (ys : List ℕ). rest (eval room) (k room) (take i vals) ys s) (sym (drop-cons xs i 0 h)) ∙ R.left

      pub run-stop : (b : B) → (r.number ≡ 0 → ⊥) → Does K₀ E₀ P₀ I₀ f₀ K' E' P' I' f' r b o
      run-stop b z = record {
        outcome = refused-of r b s' z ∙ sym (rest-refused (eval room) (k room) (take i vals) (get_or xs i 0) (drop (suc i) xs) s (refusal_of r) s' (sym next ∙ refused-of r a s' z)) ∙ left-next;
        grown = grown-then R.grown d.grown;
      }

      pub run-turn : i < length vals → r.number ≡ 0 → Run eval k xs K₀ E₀ P₀ I₀ f₀ K' E' P' I' f' (set vals i a) (i + 1) o
      run-turn l z = record {
        upto = omega arith;
        grown = grown-then R.grown d.grown;
        left = (λ j. rest (eval room) (k room) (values j) (drop (add-one i j) xs) s')
            ∙ sym (rest-value (eval room) (k room) (take i vals) (get_or xs i 0) (drop (suc i) xs) s a s' (sym next ∙ ok_of r a s' z)) ∙ left-next;
      }
        where
          values : take (i + 1) (set vals i a) ≡ take i vals ++ (a ∷ [])
          values = ap (λ (j : ℕ). take j (set vals i a)) (add-one i) ∙ take-suc-set vals i a l

    -- all of them evaluated
    pub run-done : {K' E' P' I' : List ℕ} {f' : Fill} {r : Refusal} {b : B} → length xs ≤ i → Does K E P I f K' E' P' I' f' r b (k (room_of K P) (take (length xs) vals) s)
        → Does K₀ E₀ P₀ I₀ f₀ K' E' P' I' f' r b o
    run-done h d = record {
      outcome = d.outcome
          ∙ (λ j. k (same-room j) (take (all j) vals) s)
          ∙ sym (rest-none (eval room) (k room) (take i vals) s)
          ∙ ap (λ (ys : List ℕ). rest (eval room) (k room) (take i vals) ys s) (sym (drop_of_length-le xs {i = i} h))
          ∙ R.left;
      grown = grown-then R.grown d.grown;
    }
      where
        all : length xs ≡ i
        all = let u = R.upto in omega arith
