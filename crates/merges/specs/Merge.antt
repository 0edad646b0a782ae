-- What a merge step does once the proofs that it refers to are checked, whose claims are a and b.
use Rattle.std.specs.Prelude.{ℕ, List, [], ◌∷◌, ◌++◌, eqb}
use Rattle.std.proofs.Math.Option.{Option, none, some}
use Rattle.model.specs.Cell.{same_words}
use Rattle.model.specs.Term.{app, get_term}
use Rattle.model.specs.Program.{Proposition, Program}
use Rattle.model.specs.Check.{Check, ◌>>=◌, pure, refuse, or_refuse, check_that, get_terms, Room, add_node}
use Rattle.model.specs.Evaluate.{same}
use Rattle.model.specs.Action.{among, run_merge}
use Rattle.model.specs.Normalize.{App, as_app}
use Rattle.model.specs.Walk.{last, front, check_both_apps}

-- `MergeFn`: two proofs that their terms exist, whose applications are two views.
unfoldable pub merge_step : Room → Program → ℕ → Proposition → ℕ → Proposition → Proposition → Check (Unit {0})
merge_step room prog p q function a b =
    check_that (eqb a.lhs a.rhs) 39 (p ∷ 0 ∷ a.lhs ∷ a.rhs ∷ []) >>= λ _.
    check_that (eqb b.lhs b.rhs) 39 (p ∷ 1 ∷ b.lhs ∷ b.rhs ∷ []) >>= λ _.
    get_terms >>= λ s.
    check_both_apps room prog p q function a.rhs b.rhs (as_app (get_term s a.rhs)) (as_app (get_term s b.rhs))

-- Two views to merge: their function, their inputs, and their values.
pub record Merging : Type 0 where
  pub head : ℕ
  pub inputs : List ℕ
  pub old : ℕ
  pub new : ℕ

-- Two views of one function, with the same inputs.
unfoldable pub compare_views : ℕ → App → App → Check Merging
compare_views p old new =
    check_that (eqb old.head new.head) 34 (p ∷ old.head ∷ new.head ∷ []) >>= λ _.
    or_refuse (last old.args) 35 (p ∷ 0 ∷ []) >>= λ old_output.
    or_refuse (last new.args) 35 (p ∷ 1 ∷ []) >>= λ new_output.
    check_that (same_words (front old.args) (front new.args)) 36 (p ∷ []) >>= λ _.
    pure (record { head = old.head; inputs = front old.args; old = old_output; new = new_output })

abbrev pub both_views : ℕ → ℕ → ℕ → Option App → Option App → Check Merging
both_views p x y none b = refuse 37 (p ∷ x ∷ y ∷ [])
both_views p x y (some a) none = refuse 37 (p ∷ x ∷ y ∷ [])
both_views p x y (some a) (some b) = compare_views p a b

-- Two claims that are reflexive.
unfoldable pub both_reflexive : ℕ → Proposition → Proposition → Check (Unit {0})
both_reflexive p a b =
    check_that (eqb a.lhs a.rhs) 39 (p ∷ 0 ∷ a.lhs ∷ a.rhs ∷ []) >>= λ _.
    check_that (eqb b.lhs b.rhs) 39 (p ∷ 1 ∷ b.lhs ∷ b.rhs ∷ [])

-- The views that two claims are of.
unfoldable pub read_views : ℕ → Proposition → Proposition → Check Merging
read_views p a b =
    both_reflexive p a b >>= λ _.
    get_terms >>= λ s.
    both_views p a.rhs b.rhs (as_app (get_term s a.rhs)) (as_app (get_term s b.rhs))

-- The view of a merged value is added; q is the view, equal to itself, or among the pairs ps of the merge.
unfoldable pub add_view : Room → ℕ → Proposition → ℕ → List ℕ → ℕ → List Proposition → Check (Unit {0})
add_view room p q head inputs value ps =
    add_node room (app head (inputs ++ (value ∷ []))) >>= λ view.
    check_that (among q (same view ∷ ps)) 38 (p ∷ q.lhs ∷ q.rhs ∷ [])

-- Two views are merged by the function named.
unfoldable pub merge_views : Room → Program → ℕ → Proposition → ℕ → Merging → Check (Unit {0})
merge_views room prog p q function v =
    run_merge room prog function v.old v.new >>= λ merged.
    add_view room p q v.head v.inputs merged.term merged.pairs
