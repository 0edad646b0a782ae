-- The pair that a head claims: what the marks and the unions say is whether it is among the pairs.
use mathlib.Core.Path.{◌≡◌, refl, sym, ap, subst, subst⁻¹, ◌∙◌}
use mathlib.Core.Bool.{Bool, true, false}
use mathlib.Core.List.{List, [], ◌∷◌, map}
use Prim.Native.Nat.{ℕ, ◌*◌, ◌≤◌}
use native.Mathlib.Omega.{arith}
use lib.Dec.{eqb}
use borrow.Author.Tests.{eqb-true, eqb-false}
use lib.ListN.{length, get_or}
use Rattle.model.specs.Cell.{no_cell}
use Rattle.model.specs.Term.{Term, Extends}
use Rattle.model.specs.Program.{Proposition, Binding, Program, Action, Rule}
use Rattle.model.specs.Decode.{rule_actions}
use Rattle.model.specs.Check.{Check, and_then, check_that, Room}
use Rattle.model.specs.Action.{start_context, process_actions, among, check_rule_produces_equality}
use Rattle.index.specs.declared.Fill.{Fill}
use Rattle.termdag.specs.Store.{terms_in, room_of}
use Rattle.outcome.specs.Does.{outcome_of, Does}
use Rattle.outcome.specs.declared.Checked.{Checked}
use Rattle.outcome.proofs.Laws.{does-here, does-then, does-stop}
use Rattle.marks.specs.Marks.{zeros, is_marked, close}
use Rattle.marks.proofs.Marking.{marks-cleared, marks-closed}
use Rattle.termdag.proofs.Laws.{terms-length}
use Rattle.program.specs.Ready.{tables_for, rule_for}
use Rattle.program.specs.Read.{action_for}
use Rattle.program.proofs.Reading.{rule-for}
use Rattle.evaluate.specs.Evaluation.{Sane}
use Rattle.heads.specs.declared.Headed.{Headed}
use Rattle.heads.specs.Heading.{cleared_if, claimed_by, Heads, Produces}

-- the actions of rule r, as they are read
pub actions-for : (J : List ℕ) (r : ℕ) {xs : List ℕ} → xs ≡ rule_actions (get_or (tables_for J).rules r no_cell) → map (action_for J) xs ≡ (rule_for J r).actions
actions-for J r f = ap (map (action_for J)) f ∙ ap (λ (t : Rule). t.actions) (sym (rule-for J r))

module _ (prog : Program) (rule : Rule) (σ : List Binding) (q : Proposition) where
  -- the check of the rule, by its name and its actions
  abbrev check_of : Room → ℕ → List Action → Check (Unit {0})
  check_of room name as' s = and_then (process_actions room prog name as' (start_context σ) s) (λ c. check_that (among q c.pairs) 31 (name ∷ q.lhs ∷ q.rhs ∷ []))

  is-check : (room : Room) (s : List Term) {name : ℕ} {as' : List Action} → name ≡ rule.name → as' ≡ rule.actions → check_of room name as' s ≡ check_rule_produces_equality room prog rule σ q s
  unfolding check_rule_produces_equality
  is-check room s e f = λ i. check_of room (e i) (f i) s

  module _ {name : ℕ} {as' : List Action} {marking : Bool} {k e p ix : List ℕ} {f : Fill} {m k₁ e₁ p₁ ix₁ : List ℕ} {h : Headed} {memo₁ m₁ : List ℕ} (nq : name ≡ rule.name) (aq : as' ≡ rule.actions)
      (H : Heads prog name as' σ q marking k e p ix f m k₁ e₁ p₁ ix₁ h memo₁ m₁) where
    abbrev s₁ : List Term
    s₁ = terms_in k₁ e₁ p₁ h.fill

    pub produce-stops : {c : Checked} {v : ℕ} → (h.refusal.number ≡ 0 → ⊥) → c ≡ record { refusal = h.refusal; value = v; fill = h.fill }
        → Produces prog rule σ q k e p ix f k₁ e₁ p₁ ix₁ c memo₁
    produce-stops n d = subst⁻¹ (λ (x : Checked). Produces prog rule σ q k e p ix f k₁ e₁ p₁ ix₁ x memo₁) d (record {
      checks = record {
        does = subst (Does k e p ix f k₁ e₁ p₁ ix₁ h.fill h.refusal tt) (is-check (room_of k p) (terms_in k e p f) nq aq) (does-stop tt (λ c. check_that (among q c.pairs) 31 (name ∷ q.lhs ∷ q.rhs ∷ [])) H.does n);
        past = λ u. absurd (n u);
      };
      grows = λ u. absurd (n u);
      sane = λ u. absurd (n u);
    })

    module _ (n : h.refusal.number ≡ 0) where
      pub produce-by : {claimed : Bool} {c : Checked} → claimed ≡ among q H.context.pairs
          → (c.fill ≡ h.fill) × ((s : List Term) → outcome_of c.refusal tt s ≡ check_that claimed 31 (name ∷ q.lhs ∷ q.rhs ∷ []) s)
          → Produces prog rule σ q k e p ix f k₁ e₁ p₁ ix₁ c memo₁
      produce-by {claimed} {c} cq d = record {
        checks = record {
          does = subst (Does k e p ix f k₁ e₁ p₁ ix₁ c.fill c.refusal tt) (is-check (room_of k p) (terms_in k e p f) nq aq)
              (does-then (λ room x. check_that (among q x.pairs) 31 (name ∷ q.lhs ∷ q.rhs ∷ [])) H.does n
              (subst⁻¹ (λ (g : Fill). Does k₁ e₁ p₁ ix₁ h.fill k₁ e₁ p₁ ix₁ g c.refusal tt (check_that (among q H.context.pairs) 31 (name ∷ q.lhs ∷ q.rhs ∷ []) s₁)) d.0
              (does-here H.does.grown.indexed (d.1 s₁ ∙ ap (λ (b : Bool). check_that b 31 (name ∷ q.lhs ∷ q.rhs ∷ []) s₁) cq))));
          past = λ _. H.past n;
        };
        grows = λ _. subst⁻¹ (λ (g : Fill). Extends (terms_in k e p f) (terms_in k₁ e₁ p₁ g)) d.0 (H.grows n);
        sane = λ _. subst⁻¹ (λ (g : Fill). Sane prog σ (terms_in k₁ e₁ p₁ g)) d.0 (H.sane n);
      }

      -- the marks, from none, say whether a reflexive pair is among the pairs
      pub marked-is : marking ≡ true → q.lhs ≡ q.rhs → (w : ℕ) → m ≡ zeros w → length k₁ ≤ 32 * length m₁ → is_marked (close s₁ h.fill.cells m₁) q.lhs ≡ among q H.context.pairs
      marked-is u i w c lm =
          let x = H.marks n u (marks-cleared (terms_in k e p f) m w c) in
          let l = terms-length k₁ e₁ p₁ h.fill in
          let t = H.does.grown.indexed.stored.formed.kinds in
          marks-closed h.fill.cells l (H.sane n).ordered (omega arith) x refl q.lhs
          ∙ ap (λ (y : ℕ). among (record { lhs = q.lhs; rhs = y }) H.context.pairs) i

      pub claimed-is : eqb q.lhs q.rhs ≡ marking → (m₀ : List ℕ) → m ≡ cleared_if marking m₀ → length k₁ ≤ 32 * length m₁ → {claimed : Bool}
          → claimed ≡ claimed_by marking h.found (is_marked (close s₁ h.fill.cells m₁) q.lhs) → claimed ≡ among q H.context.pairs
      claimed-is t m₀ mq lm cq = cq ∙ go marking refl
        where
          go : (b : Bool) → marking ≡ b → claimed_by b h.found (is_marked (close s₁ h.fill.cells m₁) q.lhs) ≡ among q H.context.pairs
          go false u = sym (H.others n (eqb-false q.lhs q.rhs (t ∙ u)))
          go true u = marked-is u (eqb-true q.lhs q.rhs (t ∙ u)) (length m₀) (mq ∙ ap (λ (b : Bool). cleared_if b m₀) u) lm
