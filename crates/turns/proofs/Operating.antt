-- What a step refers to, as it was read; and what a condition bound.
use mathlib.Core.Path.{◌≡◌, sym, ap, subst, ◌∙◌}
use mathlib.Core.Bool.{true, false, true≢false}
use mathlib.Core.List.{List, [], ◌∷◌, Memᴰ}
use Prim.Native.Nat.{ℕ, ◌<◌, ◌≤◌}
use native.Mathlib.Omega.{arith}
use lib.ListN.{length, get_or, take, length-take}
use lib.Seq.{get_or-take}
use Rattle.model.specs.Program.{rule, references}
use Rattle.model.specs.Program as program
use Rattle.model.specs.Decode.{read_bindings}
use Rattle.model.specs.Walk.{no_proof}
use Rattle.decode.specs.View.{justification_of}
use Rattle.decode.specs.declared.Justification.{Justification}
use Rattle.decode.specs.declared.RuleStep.{RuleStep}
use Rattle.program.specs.Read.{proofs_for, proof_cell, premises_for, pairs_for, JustificationAt}
use Rattle.evaluate.proofs.Turns.{member-at}
use Rattle.steps.specs.Concluding.{is_rule}
use Rattle.turns.specs.declared.Needs.{Needs}
use Rattle.turns.specs.Walking.{Operates}

module _ {job : List ℕ} {n p : ℕ} {j x : Justification} (J : JustificationAt job n j) (np : n ≡ p) (jx : j ≡ x) where
  abbrev found : program.Justification
  found = justification_of x (premises_for job p) (pairs_for job p)

  is_found : found ≡ (get_or (proofs_for job) p no_proof).justification
  is_found = (λ i. justification_of (sym jx i) (premises_for job (sym np i)) (pairs_for job (sym np i))) ∙ J.is ∙ ap (λ (m : ℕ). (get_or (proofs_for job) m no_proof).justification) np

  -- a step that is no rule's
  pub operates_other : (r : Needs) → r.rule ≡ false → is_rule found ≡ false → take r.count (r.first ∷ r.second ∷ []) ≡ references found → r.count ≤ 2 → Operates job p r
  operates_other r e o t few = record {
    rule = λ u. absurd (true≢false (sym u ∙ e));
    other = λ _. (ap is_rule (sym is_found) ∙ o, t ∙ ap references is_found);
    few = few;
    lower = λ i h.
        let two : List ℕ = r.first ∷ r.second ∷ [] in
        let l : length (take r.count two) ≡ r.count = simp length-take (omega arith) in
        let m : Memᴰ (get_or (take r.count two) i 0) (take r.count two) = member-at (take r.count two) i (omega arith) in
        let k = J.lower (get_or (take r.count two) i 0) (subst (Memᴰ (get_or (take r.count two) i 0)) (t ∙ ap references is_found ∙ ap (λ (q : ℕ). references (get_or (proofs_for job) q no_proof).justification) (sym np)) m) in
        let g : get_or (take r.count two) i 0 ≡ get_or two i 0 = get_or-take r.count two i 0 h in
        omega arith;
  }

pub operates_rule : {job : List ℕ} {n p : ℕ} {j : Justification} {s : RuleStep} → JustificationAt job n j → n ≡ p → j ≡ Justification.Rule s
    → (r : Needs) → r.rule ≡ true → r.name ≡ s.name → r.count ≡ 0 → Operates job p r
operates_rule {job} {n} {p} {j} {s} J np js r e q o = record {
  rule = λ _. (
    ap (λ (m : ℕ). (proof_cell job m).kind) (sym np) ∙ J.is_rule s js,
    sym (is_found J np js) ∙ ap (λ (m : ℕ). rule m (premises_for job p) (read_bindings (pairs_for job p))) (sym q),
  );
  other = λ u. absurd (true≢false (sym e ∙ u));
  few = omega arith;
  lower = λ i h. absurd (no_less i (subst (λ (c : ℕ). i < c) o h));
}
  where
    no_less : (i : ℕ) → i < 0 → ⊥
    no_less i h = omega arith
