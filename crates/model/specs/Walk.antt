-- The walk over the proofs: `check_proof` and `check_proof_with_context` of proof_checker.rs.
use Rattle.std.specs.Prelude.{ℕ, zero, suc, List, [], ◌∷◌, ◌++◌, Bool, true, false, ◌&&◌, ◌||◌, cond, length, get_or, set, eqb, ltb}
use Rattle.std.proofs.Math.Option.{Option, none, some}
use Rattle.model.specs.Cell.{same_words}
use Rattle.model.specs.Term.{Term, lit, var, app, get_term}
use Rattle.model.specs.Program.{name_global_actions, Proposition, Binding, Program, Fact, Rule, Proof, Justification, fiat, rule, merge_fn, trans, symm, congr, container_normalize, eval}
use Rattle.model.specs.Check.{Check, ◌>>=◌, pure, refuse, choose, or_refuse, check_that, get_terms, Room, add_node}
use Rattle.model.specs.Evaluate.{same}
use Rattle.model.specs.Fact.{assert_body_proof_normal_form, is_container_side_condition, check_side_condition, check_fact_matches_proposition}
use Rattle.model.specs.Action.{ActionContext, start_context, process_actions, among, check_rule_produces_equality, run_merge}
use Rattle.model.specs.Normalize.{App, as_app, normalize_container}

-- What a look-up past the last proof gives: no admitted job leads there, and it is refused.
abbrev pub no_proof : Proof
no_proof = record { claim = record { lhs = 0; rhs = 0 }; justification = eval }

abbrev pub claim_at : List Proof → ℕ → Proposition
claim_at proofs p = (get_or proofs p no_proof).claim

abbrev pub member : ℕ → List ℕ → Bool
member p [] = false
member p (q ∷ qs) = eqb p q || member p qs

-- The first rule of a name.
abbrev pub rule_of : List Rule → ℕ → Option Rule
rule_of [] n = none
rule_of (r ∷ rs) n = elim (eqb r.name n) [ true ↦ some r | false ↦ rule_of rs n ]

abbrev pub is_literal : Option Term → Bool
is_literal none = false
is_literal (some (lit l)) = true
is_literal (some (var x)) = false
is_literal (some (app f xs)) = false

-- The Rust's `args.last()` and `args[..args.len() - 1]`: a view's value and its inputs.
abbrev pub last : List ℕ → Option ℕ
last [] = none
last (x ∷ []) = some x
last (x ∷ y ∷ ys) = last (y ∷ ys)

abbrev pub front : List ℕ → List ℕ
front [] = []
front (x ∷ []) = []
front (x ∷ y ∷ ys) = x ∷ front (y ∷ ys)

module _ (room : Room) (prog : Program) where
  -- Two views of one function, merged by the function named.
  unfoldable pub check_views : ℕ → Proposition → ℕ → App → App → Check (Unit {0})
  check_views p q function old new =
      check_that (eqb old.head new.head) 34 (p ∷ old.head ∷ new.head ∷ []) >>= λ _.
      or_refuse (last old.args) 35 (p ∷ 0 ∷ []) >>= λ old_output.
      or_refuse (last new.args) 35 (p ∷ 1 ∷ []) >>= λ new_output.
      check_that (same_words (front old.args) (front new.args)) 36 (p ∷ []) >>= λ _.
      run_merge room prog function old_output new_output >>= λ merged.
      add_node room (app old.head (front old.args ++ (merged.term ∷ []))) >>= λ view.
      check_that (among q (same view ∷ merged.pairs)) 38 (p ∷ q.lhs ∷ q.rhs ∷ [])

  abbrev pub check_both_apps : ℕ → Proposition → ℕ → ℕ → ℕ → Option App → Option App → Check (Unit {0})
  check_both_apps p q function x y none b = refuse 37 (p ∷ x ∷ y ∷ [])
  check_both_apps p q function x y (some a) none = refuse 37 (p ∷ x ∷ y ∷ [])
  check_both_apps p q function x y (some a) (some b) = check_views p q function a b

-- `ctx` holds the global pairs and bindings, `sub` checks a proof referred to; the list is the cache of checked proofs.
module _ (room : Room) (prog : Program) (proofs : List Proof) (ctx : ActionContext) (sub : ℕ → List ℕ → Check (List ℕ)) where
  -- Each fact with its premise. Too few premises are refused by 27 before.
  unfoldable pub check_premises : Bool → ℕ → List Fact → List ℕ → List Binding → List ℕ → Check (List Binding × List ℕ)
  check_premises strict name [] ps σ done = pure (σ, done)
  check_premises strict name (f ∷ fs) [] σ done = refuse 27 []
  check_premises strict name (f ∷ fs) (p ∷ ps) σ done =
      assert_body_proof_normal_form prog name f >>= λ _.
      choose (is_container_side_condition prog f)
      (check_side_condition room prog name σ strict f >>= λ σ'.
      check_premises strict name fs ps σ' done)
      (sub p done >>= λ done₁.
      check_fact_matches_proposition room prog name σ f (claim_at proofs p) >>= λ _.
      check_premises strict name fs ps σ done₁)

  unfoldable pub check_rule : Bool → ℕ → Proposition → ℕ → List ℕ → List Binding → List ℕ → Check (List ℕ)
  check_rule strict p q name ps σ done =
      or_refuse (rule_of prog.rules name) 32 (name ∷ []) >>= λ r.
      check_that (eqb (length r.facts) (length ps)) 27 (p ∷ name ∷ length r.facts ∷ length ps ∷ []) >>= λ _.
      check_premises strict name r.facts ps (σ ++ ctx.bindings) done >>= λ b.
      check_rule_produces_equality room prog r b.0 q >>= λ _.
      pure b.1

  unfoldable pub check_merge_fn : ℕ → Proposition → ℕ → ℕ → ℕ → List ℕ → Check (List ℕ)
  check_merge_fn p q function old new done =
      sub old done >>= λ done₁.
      sub new done₁ >>= λ done₂.
      let a = claim_at proofs old in
      let b = claim_at proofs new in
      check_that (eqb a.lhs a.rhs) 39 (p ∷ 0 ∷ a.lhs ∷ a.rhs ∷ []) >>= λ _.
      check_that (eqb b.lhs b.rhs) 39 (p ∷ 1 ∷ b.lhs ∷ b.rhs ∷ []) >>= λ _.
      get_terms >>= λ s.
      check_both_apps room prog p q function a.rhs b.rhs (as_app (get_term s a.rhs)) (as_app (get_term s b.rhs)) >>= λ _.
      pure done₂

  unfoldable pub check_trans : ℕ → Proposition → ℕ → ℕ → List ℕ → Check (List ℕ)
  check_trans p q left right done =
      sub left done >>= λ done₁.
      sub right done₁ >>= λ done₂.
      let a = claim_at proofs left in
      let b = claim_at proofs right in
      check_that (eqb a.rhs b.lhs) 21 (p ∷ a.rhs ∷ b.lhs ∷ []) >>= λ _.
      check_that (eqb q.lhs a.lhs && eqb q.rhs b.rhs) 20 (p ∷ q.lhs ∷ q.rhs ∷ a.lhs ∷ b.rhs ∷ []) >>= λ _.
      pure done₂

  unfoldable pub check_sym : ℕ → Proposition → ℕ → List ℕ → Check (List ℕ)
  check_sym p q inner done =
      sub inner done >>= λ done₁.
      let a = claim_at proofs inner in
      check_that (eqb q.lhs a.rhs && eqb q.rhs a.lhs) 20 (p ∷ q.lhs ∷ q.rhs ∷ a.rhs ∷ a.lhs ∷ []) >>= λ _.
      pure done₁

  unfoldable pub check_congr : ℕ → Proposition → ℕ → ℕ → ℕ → List ℕ → Check (List ℕ)
  check_congr p q base i child done =
      sub base done >>= λ done₁.
      sub child done₁ >>= λ done₂.
      let a = claim_at proofs base in
      let b = claim_at proofs child in
      get_terms >>= λ s.
      or_refuse (as_app (get_term s a.rhs)) 22 (p ∷ []) >>= λ t.
      check_that (ltb i (length t.args)) 23 (p ∷ i ∷ length t.args ∷ []) >>= λ _.
      check_that (eqb (get_or t.args i 0) b.lhs) 24 (p ∷ b.lhs ∷ get_or t.args i 0 ∷ i ∷ []) >>= λ _.
      add_node room (app t.head (set t.args i b.rhs)) >>= λ expected.
      check_that (eqb q.rhs expected) 25 (p ∷ q.rhs ∷ expected ∷ []) >>= λ _.
      check_that (eqb q.lhs a.lhs) 26 (p ∷ []) >>= λ _.
      pure done₂

  unfoldable pub check_container_normalize : ℕ → Proposition → ℕ → List ℕ → Check (List ℕ)
  check_container_normalize p q inner done =
      sub inner done >>= λ done₁.
      let a = claim_at proofs inner in
      normalize_container room prog a.rhs >>= λ n.
      check_that (eqb q.lhs a.lhs && eqb q.rhs n) 40 (p ∷ a.rhs ∷ n ∷ q.rhs ∷ cond (eqb q.lhs a.lhs) 1 0 ∷ []) >>= λ _.
      pure done₁

  unfoldable pub check_fiat : ℕ → Proposition → List ℕ → Check (List ℕ)
  check_fiat p q done =
      get_terms >>= λ s.
      check_that ((is_literal (get_term s q.lhs) && eqb q.lhs q.rhs) || among q ctx.pairs) 33 (p ∷ q.lhs ∷ q.rhs ∷ []) >>= λ _.
      pure done

  -- The proof p that claims q by its justification: the cache after it.
  abbrev pub check_justification : Bool → ℕ → Proposition → Justification → List ℕ → Check (List ℕ)
  check_justification strict p q fiat done = check_fiat p q done
  check_justification strict p q (rule name ps σ) done = check_rule strict p q name ps σ done
  check_justification strict p q (merge_fn f old new) done = check_merge_fn p q f old new done
  check_justification strict p q (trans l r) done = check_trans p q l r done
  check_justification strict p q (symm a) done = check_sym p q a done
  check_justification strict p q (congr a i b) done = check_congr p q a i b done
  check_justification strict p q (container_normalize a) done = check_container_normalize p q a done
  check_justification strict p q eval done = refuse 41 (p ∷ [])

-- `check_proof_with_context`, by fuel: a reference has a lower number, so fuel beyond the number is enough, and none left is refused.
unfoldable pub check_proof_with_context : Room → Program → List Proof → ActionContext → Bool → ℕ → ℕ → List ℕ → Check (List ℕ)
check_proof_with_context room prog proofs ctx strict zero p done = refuse 41 (p ∷ [])
check_proof_with_context room prog proofs ctx strict (suc fuel) p done =
    choose (member p done) (pure done)
    (check_justification room prog proofs ctx (check_proof_with_context room prog proofs ctx strict fuel) strict p (claim_at proofs p) (get_or proofs p no_proof).justification done >>= λ done₁.
    pure (p ∷ done₁))

-- The first rule name that has been seen before.
abbrev pub duplicate_rule_name : List ℕ → List Rule → Option ℕ
duplicate_rule_name seen [] = none
duplicate_rule_name seen (r ∷ rs) = elim (member r.name seen) [ true ↦ some r.name | false ↦ duplicate_rule_name (r.name ∷ seen) rs ]

abbrev pub no_duplicate : Option ℕ → Check (Unit {0})
no_duplicate none = pure tt
no_duplicate (some n) = refuse 44 (n ∷ [])

-- `ProofCheckContext::new`
unfoldable pub new_context : Room → Program → Check ActionContext
new_context room prog =
    no_duplicate (duplicate_rule_name [] prog.rules) >>= λ _.
    process_actions room prog name_global_actions prog.globals (start_context [])

-- `check_proof`, and beside it the strict mode, where a bare container side condition is evaluated.
unfoldable pub check_proof : Room → Program → List Proof → Bool → ℕ → Check Proposition
check_proof room prog proofs strict p =
    new_context room prog >>= λ ctx.
    check_proof_with_context room prog proofs ctx strict (suc (length proofs)) p [] >>= λ _.
    pure (claim_at proofs p)
