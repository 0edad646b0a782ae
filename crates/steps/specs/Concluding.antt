-- What a proof step other than a rule's does once the proofs that it refers to are checked, whose claims are a and b.
use Rattle.std.specs.Prelude.{ℕ, List, [], ◌∷◌, Bool, true, false, ◌&&◌, ◌||◌, cond, length, get_or, set, eqb, ltb}
use Rattle.model.specs.Term.{app, get_term}
use Rattle.model.specs.Program.{Proposition, Program, Proof, Justification, fiat, rule, merge_fn, trans, symm, congr, container_normalize, eval}
use Rattle.model.specs.Check.{Check, ◌>>=◌, pure, refuse, or_refuse, check_that, get_terms, Room, add_node}
use Rattle.model.specs.Action.{among}
use Rattle.model.specs.Normalize.{App, as_app, normalize_container}
use Rattle.model.specs.Walk.{claim_at, is_literal}
use Rattle.merges.specs.Merge.{merge_step}

-- `Trans`
unfoldable pub trans_step : ℕ → Proposition → Proposition → Proposition → Check (Unit {0})
trans_step p q a b =
    check_that (eqb a.rhs b.lhs) 21 (p ∷ a.rhs ∷ b.lhs ∷ []) >>= λ _.
    check_that (eqb q.lhs a.lhs && eqb q.rhs b.rhs) 20 (p ∷ q.lhs ∷ q.rhs ∷ a.lhs ∷ b.rhs ∷ [])

-- `Sym`
unfoldable pub sym_step : ℕ → Proposition → Proposition → Check (Unit {0})
sym_step p q a = check_that (eqb q.lhs a.rhs && eqb q.rhs a.lhs) 20 (p ∷ q.lhs ∷ q.rhs ∷ a.rhs ∷ a.lhs ∷ [])

-- `Fiat`, with the global pairs ps.
unfoldable pub fiat_step : List Proposition → ℕ → Proposition → Check (Unit {0})
fiat_step ps p q =
    get_terms >>= λ s.
    check_that ((is_literal (get_term s q.lhs) && eqb q.lhs q.rhs) || among q ps) 33 (p ∷ q.lhs ∷ q.rhs ∷ [])

-- `ContainerNormalize`
unfoldable pub normalize_step : Room → Program → ℕ → Proposition → Proposition → Check (Unit {0})
normalize_step room prog p q a =
    normalize_container room prog a.rhs >>= λ n.
    check_that (eqb q.lhs a.lhs && eqb q.rhs n) 40 (p ∷ a.rhs ∷ n ∷ q.rhs ∷ cond (eqb q.lhs a.lhs) 1 0 ∷ [])

-- The child that a congruence replaces: there is one, and it is the left side.
unfoldable pub child_matches : ℕ → ℕ → ℕ → List ℕ → Check (Unit {0})
child_matches p i lhs xs =
    check_that (ltb i (length xs)) 23 (p ∷ i ∷ length xs ∷ []) >>= λ _.
    check_that (eqb (get_or xs i 0) lhs) 24 (p ∷ lhs ∷ get_or xs i 0 ∷ i ∷ [])

-- What a congruence claims, where it gives the term t of a term equal to lhs.
unfoldable pub congr_claims : ℕ → Proposition → ℕ → ℕ → Check (Unit {0})
congr_claims p q lhs t =
    check_that (eqb q.rhs t) 25 (p ∷ q.rhs ∷ t ∷ []) >>= λ _.
    check_that (eqb q.lhs lhs) 26 (p ∷ [])

-- `Congr`, of the application t.
unfoldable pub congr_app : Room → ℕ → Proposition → Proposition → ℕ → Proposition → App → Check (Unit {0})
congr_app room p q a i b t =
    child_matches p i b.lhs t.args >>= λ _.
    add_node room (app t.head (set t.args i b.rhs)) >>= congr_claims p q a.lhs

unfoldable pub congr_step : Room → ℕ → Proposition → Proposition → ℕ → Proposition → Check (Unit {0})
congr_step room p q a i b =
    get_terms >>= λ s.
    or_refuse (as_app (get_term s a.rhs)) 22 (p ∷ []) >>= congr_app room p q a i b

-- The proof p that claims q by its justification, with the global pairs ps. A rule's step is checked elsewhere; here it is refused.
unfoldable pub concludes : Room → Program → List Proof → List Proposition → ℕ → Proposition → Justification → Check (Unit {0})
concludes room prog proofs ps p q fiat = fiat_step ps p q
concludes room prog proofs ps p q (rule name xs σ) = refuse 41 (p ∷ [])
concludes room prog proofs ps p q (merge_fn f old new) = merge_step room prog p q f (claim_at proofs old) (claim_at proofs new)
concludes room prog proofs ps p q (trans l r) = trans_step p q (claim_at proofs l) (claim_at proofs r)
concludes room prog proofs ps p q (symm a) = sym_step p q (claim_at proofs a)
concludes room prog proofs ps p q (congr a i b) = congr_step room p q (claim_at proofs a) i (claim_at proofs b)
concludes room prog proofs ps p q (container_normalize a) = normalize_step room prog p q (claim_at proofs a)
concludes room prog proofs ps p q eval = refuse 41 (p ∷ [])

-- Each proof referred to, one after the other: the cache after them.
unfoldable pub walk_each : (ℕ → List ℕ → Check (List ℕ)) → List ℕ → List ℕ → Check (List ℕ)
walk_each sub [] done = pure done
walk_each sub (p ∷ ps) done = sub p done >>= walk_each sub ps

-- A rule's step.
abbrev pub is_rule : Justification → Bool
is_rule fiat = false
is_rule (rule name xs σ) = true
is_rule (merge_fn f old new) = false
is_rule (trans l r) = false
is_rule (symm a) = false
is_rule (congr a i b) = false
is_rule (container_normalize a) = false
is_rule eval = false
