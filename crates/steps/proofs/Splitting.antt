-- A step that is no rule's: first the proofs that it refers to, then what it concludes.
use mathlib.Core.Path.{◌≡◌, refl, sym, ap, ◌∙◌}
use mathlib.Core.Bool.{Bool, false, ◌&&◌, cond, true≢false}
use mathlib.Core.List.{List, [], ◌∷◌}
use Prim.Native.Nat.{ℕ}
use lib.Dec.{eqb, ltb}
use lib.ListN.{length, get_or, set}
use Rattle.model.specs.Term.{Term, app, get_term}
use Rattle.model.specs.Program.{Proposition, Program, Proof, Justification, fiat, rule, merge_fn, trans, symm, congr, container_normalize, eval, references}
use Rattle.model.specs.Check.{Outcome, ok, refused, Check, ◌>>=◌, and_then, pure, or_refuse, check_that, get_terms, Room, add_node}
use Rattle.model.specs.Action.{ActionContext}
use Rattle.model.specs.Normalize.{App, as_app, normalize_container}
use Rattle.model.specs.Walk.{claim_at, check_both_apps, check_fiat, check_merge_fn, check_trans, check_sym, check_congr, check_container_normalize, check_justification}
use Rattle.merges.specs.Merge.{merge_step}
use Rattle.model.proofs.Sequence.{then-assoc, then-alike}
use Rattle.steps.specs.Concluding.{trans_step, sym_step, fiat_step, normalize_step, child_matches, congr_claims, congr_app, congr_step, concludes, walk_each, is_rule}

module _ (room : Room) (prog : Program) (proofs : List Proof) (ctx : ActionContext) (sub : ℕ → List ℕ → Check (List ℕ)) (p : ℕ) (q : Proposition) where
  -- what is left of a step, and the cache
  abbrev ends : Check (Unit {0}) → List ℕ → Check (List ℕ)
  ends c d = c >>= λ _. pure d

  one_split : (x : ℕ) (done : List ℕ) (s : List Term) (c : Check (Unit {0})) (full : List ℕ → Check (List ℕ)) → ((d : List ℕ) (u : List Term) → full d u ≡ ends c d u)
      → and_then (sub x done s) full ≡ and_then (walk_each sub (x ∷ []) done s) (ends c)
  unfolding walk_each
  one_split x done s c full h = go (sub x done s)
    where
      go : (o : Outcome (List ℕ)) → and_then o full ≡ and_then (and_then o (walk_each sub [])) (ends c)
      go (ok d u) = h d u
      go (refused r u) = refl

  two-split : (x y : ℕ) (done : List ℕ) (s : List Term) (c : Check (Unit {0})) (full : List ℕ → Check (List ℕ)) → ((d : List ℕ) (u : List Term) → full d u ≡ ends c d u)
      → and_then (sub x done s) (λ d. sub y d >>= full) ≡ and_then (walk_each sub (x ∷ y ∷ []) done s) (ends c)
  unfolding walk_each
  two-split x y done s c full h = go (sub x done s)
    where
      go : (o : Outcome (List ℕ)) → and_then o (λ d. sub y d >>= full) ≡ and_then (and_then o (walk_each sub (y ∷ []))) (ends c)
      go (ok d u) = one_split y d u c full h
      go (refused r u) = refl

  -- the step of each kind, with the cache behind it
  abbrev trans_full : Proposition → Proposition → List ℕ → Check (List ℕ)
  trans_full a b d =
      check_that (eqb a.rhs b.lhs) 21 (p ∷ a.rhs ∷ b.lhs ∷ []) >>= λ _.
      check_that (eqb q.lhs a.lhs && eqb q.rhs b.rhs) 20 (p ∷ q.lhs ∷ q.rhs ∷ a.lhs ∷ b.rhs ∷ []) >>= λ _.
      pure d

  trans-ends : (a b : Proposition) (d : List ℕ) (u : List Term) → trans_full a b d u ≡ ends (trans_step p q a b) d u
  unfolding trans_step
  trans-ends a b d u = sym (then-assoc (check_that (eqb a.rhs b.lhs) 21 (p ∷ a.rhs ∷ b.lhs ∷ []) u) _ _)

  abbrev normal_full : Proposition → List ℕ → Check (List ℕ)
  normal_full a d =
      normalize_container room prog a.rhs >>= λ n.
      check_that (eqb q.lhs a.lhs && eqb q.rhs n) 40 (p ∷ a.rhs ∷ n ∷ q.rhs ∷ cond (eqb q.lhs a.lhs) 1 0 ∷ []) >>= λ _.
      pure d

  normal-ends : (a : Proposition) (d : List ℕ) (u : List Term) → normal_full a d u ≡ ends (normalize_step room prog p q a) d u
  unfolding normalize_step
  normal-ends a d u = sym (then-assoc (normalize_container room prog a.rhs u) _ _)

  abbrev merge_full : ℕ → Proposition → Proposition → List ℕ → Check (List ℕ)
  merge_full f a b d =
      check_that (eqb a.lhs a.rhs) 39 (p ∷ 0 ∷ a.lhs ∷ a.rhs ∷ []) >>= λ _.
      check_that (eqb b.lhs b.rhs) 39 (p ∷ 1 ∷ b.lhs ∷ b.rhs ∷ []) >>= λ _.
      get_terms >>= λ s.
      check_both_apps room prog p q f a.rhs b.rhs (as_app (get_term s a.rhs)) (as_app (get_term s b.rhs)) >>= λ _.
      pure d

  merge-ends : (f : ℕ) (a b : Proposition) (d : List ℕ) (u : List Term) → merge_full f a b d u ≡ ends (merge_step room prog p q f a b) d u
  unfolding merge_step
  merge-ends f a b d u =
      then-alike (check_that (eqb a.lhs a.rhs) 39 (p ∷ 0 ∷ a.lhs ∷ a.rhs ∷ []) u) (λ _ v. sym (then-assoc (check_that (eqb b.lhs b.rhs) 39 (p ∷ 1 ∷ b.lhs ∷ b.rhs ∷ []) v) _ _))
      ∙ sym (then-assoc (check_that (eqb a.lhs a.rhs) 39 (p ∷ 0 ∷ a.lhs ∷ a.rhs ∷ []) u) _ _)

  abbrev congr_full : Proposition → ℕ → Proposition → List ℕ → App → Check (List ℕ)
  congr_full a i b d t =
      check_that (ltb i (length t.args)) 23 (p ∷ i ∷ length t.args ∷ []) >>= λ _.
      check_that (eqb (get_or t.args i 0) b.lhs) 24 (p ∷ b.lhs ∷ get_or t.args i 0 ∷ i ∷ []) >>= λ _.
      add_node room (app t.head (set t.args i b.rhs)) >>= λ expected.
      check_that (eqb q.rhs expected) 25 (p ∷ q.rhs ∷ expected ∷ []) >>= λ _.
      check_that (eqb q.lhs a.lhs) 26 (p ∷ []) >>= λ _.
      pure d

  app-ends : (a : Proposition) (i : ℕ) (b : Proposition) (d : List ℕ) (t : App) (u : List Term) → congr_full a i b d t u ≡ ends (congr_app room p q a i b t) d u
  unfolding congr_app child_matches congr_claims
  app-ends a i b d t u =
      then-alike (check_that (ltb i (length t.args)) 23 (p ∷ i ∷ length t.args ∷ []) u) (λ _ v.
      then-alike (check_that (eqb (get_or t.args i 0) b.lhs) 24 (p ∷ b.lhs ∷ get_or t.args i 0 ∷ i ∷ []) v) (λ _ w.
      then-alike (add_node room (app t.head (set t.args i b.rhs)) w) (λ expected x.
      sym (then-assoc (check_that (eqb q.rhs expected) 25 (p ∷ q.rhs ∷ expected ∷ []) x) _ _))
      ∙ sym (then-assoc (add_node room (app t.head (set t.args i b.rhs)) w) (congr_claims p q a.lhs) (λ _. pure d)))
      ∙ sym (then-assoc (check_that (eqb (get_or t.args i 0) b.lhs) 24 (p ∷ b.lhs ∷ get_or t.args i 0 ∷ i ∷ []) v) (λ _. add_node room (app t.head (set t.args i b.rhs)) >>= congr_claims p q a.lhs) (λ _. pure d)))
      ∙ sym (then-assoc (check_that (ltb i (length t.args)) 23 (p ∷ i ∷ length t.args ∷ []) u) _ _)
      ∙ ap (λ (o : Outcome (Unit {0})). and_then o (λ _. pure d)) (sym (then-assoc (check_that (ltb i (length t.args)) 23 (p ∷ i ∷ length t.args ∷ []) u) _ _))

  congr-ends : (a : Proposition) (i : ℕ) (b : Proposition) (d : List ℕ) (u : List Term)
      → and_then (or_refuse (as_app (get_term u a.rhs)) 22 (p ∷ []) u) (congr_full a i b d) ≡ ends (congr_step room p q a i b) d u
  unfolding congr_step
  congr-ends a i b d u =
      then-alike (or_refuse (as_app (get_term u a.rhs)) 22 (p ∷ []) u) (app-ends a i b d)
      ∙ sym (then-assoc (or_refuse (as_app (get_term u a.rhs)) 22 (p ∷ []) u) (congr_app room p q a i b) (λ _. pure d))

  pub justification-split : (strict : Bool) (j : Justification) → is_rule j ≡ false → (done : List ℕ) (s : List Term)
      → check_justification room prog proofs ctx sub strict p q j done s ≡ (walk_each sub (references j) done >>= λ d. concludes room prog proofs ctx.pairs p q j >>= λ _. pure d) s
  unfolding concludes walk_each check_fiat fiat_step check_merge_fn check_trans check_sym sym_step check_congr check_container_normalize
  justification-split strict fiat e done s = refl
  justification-split strict (rule name xs σ) e done s = absurd (true≢false e)
  justification-split strict (merge_fn f old new) e done s =
      two-split old new done s (merge_step room prog p q f (claim_at proofs old) (claim_at proofs new)) (merge_full f (claim_at proofs old) (claim_at proofs new)) (merge-ends f (claim_at proofs old) (claim_at proofs new))
  justification-split strict (trans l r) e done s = two-split l r done s (trans_step p q (claim_at proofs l) (claim_at proofs r)) (trans_full (claim_at proofs l) (claim_at proofs r)) (trans-ends (claim_at proofs l) (claim_at proofs r))
  justification-split strict (symm a) e done s = one_split a done s (sym_step p q (claim_at proofs a)) (λ d. sym_step p q (claim_at proofs a) >>= λ _. pure d) (λ d u. refl)
  justification-split strict (congr a i b) e done s =
      two-split a b done s (congr_step room p q (claim_at proofs a) i (claim_at proofs b))
      (λ d. get_terms >>= λ u. or_refuse (as_app (get_term u (claim_at proofs a).rhs)) 22 (p ∷ []) >>= congr_full (claim_at proofs a) i (claim_at proofs b) d) (congr-ends (claim_at proofs a) i (claim_at proofs b))
  justification-split strict (container_normalize a) e done s = one_split a done s (normalize_step room prog p q (claim_at proofs a)) (normal_full (claim_at proofs a)) (normal-ends (claim_at proofs a))
  justification-split strict eval e done s = refl
