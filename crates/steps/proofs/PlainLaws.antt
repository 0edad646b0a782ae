-- Steps that add no term: tests, one after the other.
use mathlib.Core.Path.{◌≡◌, sym, ap, ap₂, ◌∙◌}
use mathlib.Core.Bool.{Bool, true, false, ◌&&◌, ◌||◌, cond}
use mathlib.Core.List.{List, [], ◌∷◌}
use mathlib.Core.Option.{Option, some}
use Prim.Native.Nat.{ℕ, ◌<◌, ◌≤◌}
use lib.Dec.{eqb, ltb}
use lib.ListN.{length, get_or}
use borrow.Author.Tests.{lt-ltb, le-ltb}
use Rattle.model.specs.Term.{Term, get_term}
use Rattle.model.specs.Program.{Proposition, Program}
use Rattle.model.specs.Check.{Outcome, ok, refused, Check, and_then, check_that, Room}
use Rattle.model.specs.Action.{among}
use Rattle.model.specs.Normalize.{normalize_container}
use Rattle.model.specs.Walk.{is_literal}
use Rattle.decode.specs.View.{term_of}
use Rattle.decode.specs.declared.Term as decoded
use Rattle.outcome.specs.Does.{refusal, outcome_of}
use Rattle.outcome.specs.declared.Refusal.{Refusal}
use Rattle.merges.specs.Step.{refused_unless}
use Rattle.merges.proofs.TestLaws.{that-is, first-refused, both-tested}
use Rattle.steps.specs.Concluding.{trans_step, sym_step, fiat_step, normalize_step, child_matches, congr_claims}

-- trans
module _ (p : ℕ) (q a b : Proposition) (r : Refusal) (e : r ≡ refused_unless (eqb a.rhs b.lhs) (refusal 21 3 (p ∷ a.rhs ∷ b.lhs ∷ 0 ∷ 0 ∷ 0 ∷ []))) (s : List Term) where
  pub trans-first : (r.number ≡ 0 → ⊥) → outcome_of r tt s ≡ trans_step p q a b s
  unfolding trans_step
  trans-first h = first-refused _ (eqb q.lhs a.lhs && eqb q.rhs b.rhs) 21 3 _ 20 5 (p ∷ q.lhs ∷ q.rhs ∷ a.lhs ∷ b.rhs ∷ 0 ∷ []) r e tt s h

  pub trans-both : (d : Refusal) → r.number ≡ 0 → d ≡ refused_unless (eqb q.lhs a.lhs && eqb q.rhs b.rhs) (refusal 20 5 (p ∷ q.lhs ∷ q.rhs ∷ a.lhs ∷ b.rhs ∷ 0 ∷ []))
      → outcome_of d tt s ≡ trans_step p q a b s
  unfolding trans_step
  trans-both d h g = both-tested _ _ 21 3 _ 20 5 (p ∷ q.lhs ∷ q.rhs ∷ a.lhs ∷ b.rhs ∷ 0 ∷ []) r e tt s d h g tt

-- symmetry
pub sym-tested : (p : ℕ) (q a : Proposition) {r : Refusal} → r ≡ refused_unless (eqb q.lhs a.rhs && eqb q.rhs a.lhs) (refusal 20 5 (p ∷ q.lhs ∷ q.rhs ∷ a.rhs ∷ a.lhs ∷ 0 ∷ []))
    → (s : List Term) → outcome_of r tt s ≡ sym_step p q a s
unfolding sym_step
sym-tested p q a e s = that-is _ 20 5 _ e tt s

-- whether a term is a literal, by what was read
module _ (o : Option Term) (xs : List ℕ) (r : decoded.Term) (g : o ≡ some (term_of r xs)) where
  pub literal-by : (t : decoded.Term) (b : Bool) → r ≡ t → b ≡ is_literal (some (term_of t xs)) → b ≡ is_literal o
  literal-by t b e d = d ∙ ap (λ (t : decoded.Term). is_literal (some (term_of t xs))) (sym e) ∙ ap is_literal (sym g)

-- fiat
pub fiat-tested : (ps : List Proposition) (p : ℕ) (q : Proposition) (s : List Term) {l g : Bool} {r : Refusal} → l ≡ is_literal (get_term s q.lhs) → g ≡ among q ps
    → r ≡ refused_unless ((l && eqb q.lhs q.rhs) || g) (refusal 33 3 (p ∷ q.lhs ∷ q.rhs ∷ 0 ∷ 0 ∷ 0 ∷ [])) → outcome_of r tt s ≡ fiat_step ps p q s
unfolding fiat_step
fiat-tested ps p q s e d h =
    that-is _ 33 3 _ h tt s
    ∙ ap₂ (λ (x y : Bool). check_that ((x && eqb q.lhs q.rhs) || y) 33 (p ∷ q.lhs ∷ q.rhs ∷ []) s) e d

-- a normal form
pub normal-tested : (room : Room) (prog : Program) (p : ℕ) (q a : Proposition) (s : List Term) {n f : ℕ} {r : Refusal} → normalize_container room prog a.rhs s ≡ ok n s → f ≡ cond (eqb q.lhs a.lhs) 1 0
    → r ≡ refused_unless (eqb q.lhs a.lhs && eqb q.rhs n) (refusal 40 5 (p ∷ a.rhs ∷ n ∷ q.rhs ∷ f ∷ 0 ∷ [])) → outcome_of r tt s ≡ normalize_step room prog p q a s
unfolding normalize_step
normal-tested room prog p q a s {n} {f} e d h =
    that-is _ 40 5 _ h tt s
    ∙ ap (λ (x : ℕ). check_that (eqb q.lhs a.lhs && eqb q.rhs n) 40 (p ∷ a.rhs ∷ n ∷ q.rhs ∷ x ∷ []) s) d
    ∙ ap (λ (o : Outcome ℕ). and_then o (λ m. check_that (eqb q.lhs a.lhs && eqb q.rhs m) 40 (p ∷ a.rhs ∷ m ∷ q.rhs ∷ cond (eqb q.lhs a.lhs) 1 0 ∷ []))) (sym e)

-- the child of a congruence
module _ (p i lhs : ℕ) (xs : List ℕ) (s : List Term) where
  abbrev after : Check (Unit {0})
  after = check_that (eqb (get_or xs i 0) lhs) 24 (p ∷ lhs ∷ get_or xs i 0 ∷ i ∷ [])

  by_length : (b : Bool) → ltb i (length xs) ≡ b → and_then (check_that b 23 (p ∷ i ∷ length xs ∷ []) s) (λ _. after) ≡ child_matches p i lhs xs s
  unfolding child_matches
  by_length b e = ap (λ (t : Bool). and_then (check_that t 23 (p ∷ i ∷ length xs ∷ []) s) (λ _. after)) (sym e)

  pub child-none : length xs ≤ i → refused (record { number = 23; fields = p ∷ i ∷ length xs ∷ [] }) s ≡ child_matches p i lhs xs s
  unfolding check_that
  child-none h = by_length false (le-ltb i (length xs) h)

  pub child-tested : {r : Refusal} → i < length xs → r ≡ refused_unless (eqb (get_or xs i 0) lhs) (refusal 24 4 (p ∷ lhs ∷ get_or xs i 0 ∷ i ∷ 0 ∷ 0 ∷ [])) → outcome_of r tt s ≡ child_matches p i lhs xs s
  unfolding check_that
  child-tested h e = that-is (eqb (get_or xs i 0) lhs) 24 4 (p ∷ lhs ∷ get_or xs i 0 ∷ i ∷ 0 ∷ 0 ∷ []) e tt s ∙ by_length true (lt-ltb i (length xs) h)

-- what a congruence claims
module _ (p : ℕ) (q : Proposition) (lhs t : ℕ) (r : Refusal) (e : r ≡ refused_unless (eqb q.rhs t) (refusal 25 3 (p ∷ q.rhs ∷ t ∷ 0 ∷ 0 ∷ 0 ∷ []))) (s : List Term) where
  pub claims-first : (r.number ≡ 0 → ⊥) → outcome_of r tt s ≡ congr_claims p q lhs t s
  unfolding congr_claims
  claims-first h = first-refused _ (eqb q.lhs lhs) 25 3 _ 26 1 (p ∷ 0 ∷ 0 ∷ 0 ∷ 0 ∷ 0 ∷ []) r e tt s h

  pub claims-both : (d : Refusal) → r.number ≡ 0 → d ≡ refused_unless (eqb q.lhs lhs) (refusal 26 1 (p ∷ 0 ∷ 0 ∷ 0 ∷ 0 ∷ 0 ∷ [])) → outcome_of d tt s ≡ congr_claims p q lhs t s
  unfolding congr_claims
  claims-both d h g = both-tested _ _ 25 3 _ 26 1 (p ∷ 0 ∷ 0 ∷ 0 ∷ 0 ∷ 0 ∷ []) r e tt s d h g tt
