-- The stages of a step: before a proof, after it, the head or what a step of its kind does, and nothing.
use Rattle.std.specs.Prelude.{None}
use mathlib.Core.Path.{◌≡◌, refl, sym, ap, subst, subst⁻¹, ◌∙◌}
use mathlib.Core.Bool.{Bool, true, false, ◌&&◌, true≢false}
use mathlib.Core.List.{List, [], ◌∷◌, map, nil≢cons}
use mathlib.Core.Option.{none, some}
use Prim.Native.Nat.{ℕ, zero, suc, ◌+◌, ◌<◌, ◌≤◌}
use native.Mathlib.Nat.{not-suc-le-zero, le_of_suc-le-suc}
use native.Mathlib.Omega.{arith}
use lib.Dec.{eqb, ltb}
use borrow.Author.Tests.{eqb-true, ltb-true, ltb-false}
use lib.ListN.{length, get_or, take, drop, drop_of_length-le, length-drop, length-map}
use lib.Seq.{drop-cons, get_or-drop}
use Rattle.model.specs.Term.{Term, Extends}
use Rattle.model.specs.Program.{Proposition, Binding, Program, Fact, Rule, Proof}
use Rattle.model.specs.Cell.{no_cell}
use Rattle.model.specs.Decode.{rule_facts, read_bindings}
use Rattle.model.specs.Check.{ok, Check, and_then, pure, Room}
use Rattle.model.specs.Fact.{is_container_side_condition, check_fact_matches_proposition}
use Rattle.model.specs.Walk.{no_proof, claim_at}
use Rattle.model.proofs.Post.{post-ok, post-result}
use Rattle.model.proofs.Store.{extends-same, extends-then}
use Rattle.index.specs.declared.Fill.{Fill}
use Rattle.termdag.specs.Store.{terms_in, Indexed, room_of}
use Rattle.memo.specs.Memo.{Past}
use Rattle.outcome.specs.Does.{passed, Grown, Does}
use Rattle.outcome.specs.declared.Refusal.{Refusal}
use Rattle.outcome.specs.declared.Checked.{Checked}
use Rattle.outcome.proofs.Laws.{ok_of, grown-then, does-here, does-then, does-stop, does-map}
use Rattle.program.specs.Ready.{tables_for, program_for, rule_for}
use Rattle.program.specs.Read.{proofs_for, fact_for, premises_for, pairs_for}
use Rattle.evaluate.specs.Value.{bindings_in}
use Rattle.evaluate.specs.Evaluation.{Sane, Checks}
use Rattle.conditions.specs.Bound.{bound_over}
use Rattle.conditions.specs.declared.Bound as code
use Rattle.facts.proofs.Keeping.{fact-sane}
use Rattle.context.specs.Contexts.{GlobalPairs}
use Rattle.heads.specs.Heading.{Produces}
use Rattle.heads.proofs.Heading.{sane-fewer}
use Rattle.steps.specs.Step.{Concludes}
use Rattle.turns.specs.declared.Stage.{Stage}
use Rattle.turns.specs.Walking.{Ground, Walks}
use Rattle.turns.specs.Turning.{Turn, of_fact, of_proof, no_turn, fact_turns, bindings_by, after_turn, before_proof, end_if, stage_of, is_over, Planned, Advances}
use Rattle.turns.proofs.Walking.{flags-same, ground-after}
use Rattle.turns.proofs.Planning.{turns-most, turns-few}
use Rattle.turns.proofs.Tying.{numbers_of}

-- a check that does not walk; of scratch the marks of the head at hand may be written
walks-stage : {J : List ℕ} {F G U k e q ix : List ℕ} {f : Fill} {memo W k₁ e₁ p₁ ix₁ : List ℕ} {f₁ : Fill} {r : Refusal} {memo₁ W₁ : List ℕ} {b : List Binding} (c : Room → List Proposition → Check (List Binding))
    → Ground J F G k e q ix f memo W → Grown k e q ix f k₁ e₁ p₁ ix₁ f₁ → ((ps : List Proposition) → GlobalPairs ps U (take (length k) W) → Does k e q ix f k₁ e₁ p₁ ix₁ f₁ r b (c (room_of k q) ps (terms_in k e q f)))
    → (r.number ≡ 0 → Extends (terms_in k e q f) (terms_in k₁ e₁ p₁ f₁) × Sane (program_for J) (read_bindings G) (terms_in k₁ e₁ p₁ f₁) × Past memo₁) → length memo₁ ≡ length memo → length W₁ ≡ length W
    → take (length k) W₁ ≡ take (length k) W → ((i : ℕ) → get_or W₁ (length k + length k + i) 0 ≡ get_or W (length k + length k + i) 0)
    → Walks {A = List Binding × List ℕ} J F G U k e q ix f W k₁ e₁ p₁ ix₁ f₁ r memo₁ W₁ (λ d. (b, d)) (λ room ps done s. and_then (c room ps s) (λ τ. pure (τ, done)))
walks-stage {b = b} c g gr d s l_memo l_w front back = record {
  grown = gr;
  after = λ n. record { ground = ground-after g gr (s n).0 (s n).1 (s n).2 l_memo l_w back; grows = (s n).0; globals = front };
  walked = λ ps done x y. record { done = done; does = does-map (λ τ. (τ, done)) (b, done) (d ps x) (λ _. refl); flags = λ _. flags-same back y };
}

-- the turns that are left
rule-left : (fs : List Fact) (ps : List ℕ) (i : ℕ) → length (fact_turns fs ps) ≤ i → drop i (fact_turns fs ps) ≡ []
rule-left fs ps i h = drop_of_length-le (fact_turns fs ps) h

pub fact_left : (fs : List Fact) (ps : List ℕ) (i : ℕ) {f : Fact} {y : ℕ} → i < length fs → i < length ps → (d : Fact) → get_or fs i d ≡ f → get_or ps i 0 ≡ y → drop i (fact_turns fs ps) ≡ of_fact f y ∷ drop (suc i) (fact_turns fs ps)
fact_left [] ps i h k d e q = absurd (not-suc-le-zero h)
fact_left (f ∷ fs) [] i h k d e q = absurd (not-suc-le-zero k)
fact_left (f ∷ fs) (p ∷ ps) zero h k d e q = λ j. of_fact (e j) (q j) ∷ fact_turns fs ps
fact_left (f ∷ fs) (p ∷ ps) (suc i) h k d e q = fact_left fs ps i (le_of_suc-le-suc h) (le_of_suc-le-suc k) d e q

module _ (J : List ℕ) (strict : Bool) (F G U : List ℕ) (p r name second count : ℕ) (X : List ℕ) {k e q ix : List ℕ} {f : Fill} {memo W : List ℕ} (g : Ground J F G k e q ix f memo W) (S : Planned J p true r name second count)
    (w : Sane (program_for J) (bindings_in X (pairs_for J p) G) (terms_in k e q f)) where
  abbrev prog : Program
  prog = program_for J

  abbrev proofs : List Proof
  proofs = proofs_for J

  abbrev σ : List Binding
  σ = bindings_in X (pairs_for J p) G

  abbrev turns : List Turn
  turns = fact_turns (rule_for J r).facts (premises_for J p)

  abbrev stage : List Turn → ℕ → Room → List Proposition → Check (List Binding)
  stage ts v room ps = stage_of room prog proofs strict name ps p (claim_at proofs p) (get_or proofs p no_proof).justification (some (rule_for J r)) ts v σ

  -- a fact before its premise
  module _ (i : ℕ) {t : Fact} {y : ℕ} (left : drop i turns ≡ of_fact t y ∷ drop (suc i) turns) {k₁ e₁ p₁ ix₁ : List ℕ} where
    stage-before-at : (c : Stage) {memo₁ : List ℕ} → Checks k e q ix f k₁ e₁ p₁ ix₁ c.fill c.refusal (bound_over c.binds σ) memo₁ (before_proof (room_of k q) prog proofs strict name (of_fact t 0) σ (terms_in k e q f))
        → (c.refusal.number ≡ 0 → c.settled ≡ is_container_side_condition prog t) → (c.refusal.number ≡ 0 → Extends (terms_in k e q f) (terms_in k₁ e₁ p₁ c.fill) × Sane prog (bound_over c.binds σ) (terms_in k₁ e₁ p₁ c.fill))
        → (c.settled ≡ false → c.binds ≡ None) → length memo₁ ≡ length memo → Advances J strict F G U p true r name second count X k e q ix f W i 0 k₁ e₁ p₁ ix₁ c memo₁ W
    stage-before-at c {memo₁} d o s q' l_memo = record {
      walks = subst⁻¹ (λ (ts : List Turn). Walks {A = List Binding × List ℕ} J F G U k e q ix f W k₁ e₁ p₁ ix₁ c.fill c.refusal memo₁ W (λ x. (bound_over c.binds σ, x)) (λ room ps done u. and_then (stage ts 0 room ps u) (λ τ. pure (τ, done)))) left
          (walks-stage (stage (of_fact t y ∷ drop (suc i) turns) 0) g d.does.grown (λ ps x. d.does) (λ n. ((s n).0, sane-fewer g.sane (s n).0 (s n).1, d.past n)) l_memo refl refl (λ j. refl));
      over = λ n. o n ∙ sym (ap (λ (ts : List Turn). is_over prog ts 0) left);
      sane = λ _ n. (s n).1;
      plain = λ u. absurd (true≢false u);
      waits = q';
    }

    -- by the pairs that were read
    pub stage-before : {v : ℕ} → v ≡ 0 → (c : Stage) {memo₁ : List ℕ} {R : List ℕ} → R ≡ pairs_for J p
        → Checks k e q ix f k₁ e₁ p₁ ix₁ c.fill c.refusal (bound_over c.binds (bindings_in X R G)) memo₁ (before_proof (room_of k q) prog proofs strict name (of_fact t 0) (bindings_in X R G) (terms_in k e q f))
        × (c.refusal.number ≡ 0 → c.settled ≡ is_container_side_condition prog t)
        × (c.refusal.number ≡ 0 → Extends (terms_in k e q f) (terms_in k₁ e₁ p₁ c.fill) × Sane prog (bound_over c.binds (bindings_in X R G)) (terms_in k₁ e₁ p₁ c.fill))
        → (c.settled ≡ false → c.binds ≡ None) → length memo₁ ≡ length memo → Advances J strict F G U p true r name second count X k e q ix f W i v k₁ e₁ p₁ ix₁ c memo₁ W
    stage-before u c {memo₁} h x q' l_memo =
        let y = subst (λ (R : List ℕ). Checks k e q ix f k₁ e₁ p₁ ix₁ c.fill c.refusal (bound_over c.binds (bindings_in X R G)) memo₁ (before_proof (room_of k q) prog proofs strict name (of_fact t 0) (bindings_in X R G) (terms_in k e q f))
        × (c.refusal.number ≡ 0 → c.settled ≡ is_container_side_condition prog t)
        × (c.refusal.number ≡ 0 → Extends (terms_in k e q f) (terms_in k₁ e₁ p₁ c.fill) × Sane prog (bound_over c.binds (bindings_in X R G)) (terms_in k₁ e₁ p₁ c.fill))) h x in
        subst⁻¹ (λ (m : ℕ). Advances J strict F G U p true r name second count X k e q ix f W i m k₁ e₁ p₁ ix₁ c memo₁ W) u (stage-before-at c y.0 y.1 y.2 q' l_memo)

  -- a fact after its premise, if there is one, and the head where no other is left
  abbrev ends : List Turn → Room → List Proposition → Check (List Binding)
  ends ts room ps = end_if room prog proofs strict name ps p (claim_at proofs p) (get_or proofs p no_proof).justification (some (rule_for J r)) ts σ

  after_then : (ts : List Turn) (v : ℕ) → (v ≡ 0 → ts ≡ []) → (room : Room) (ps : List Proposition) (s : List Term) → and_then (after_turn room prog proofs name ts σ s) (λ _. ends (drop 1 ts) room ps) ≡ stage ts v room ps s
  after_then [] v h room ps s = refl
  after_then (t ∷ ts) zero h room ps s = absurd (nil≢cons (sym (h refl)))
  after_then (t ∷ ts) (suc v) h room ps s = refl

  over-after : (ts : List Turn) (v : ℕ) → (v ≡ 0 → ts ≡ []) → is_over prog ts v ≡ true
  over-after [] v h = refl
  over-after (t ∷ ts) zero h = absurd (nil≢cons (sym (h refl)))
  over-after (t ∷ ts) (suc v) h = refl

  module _ (i v : ℕ) (h : v ≡ 0 → count ≤ i) {k₁ e₁ p₁ ix₁ : List ℕ} (c : Checked) {memo₁ : List ℕ} (d : Checks k e q ix f k₁ e₁ p₁ ix₁ c.fill c.refusal tt memo₁ (after_turn (room_of k q) prog proofs name (drop i turns) σ (terms_in k e q f))) where
    abbrev left : List Turn
    left = drop i turns

    none_left : v ≡ 0 → left ≡ []
    none_left u = rule-left (rule_for J r).facts (premises_for J p) i (let m = S.long in let l = h u in omega arith)

    -- the store after it
    pub after_kept : c.refusal.number ≡ 0 → Extends (terms_in k e q f) (terms_in k₁ e₁ p₁ c.fill) × Sane prog σ (terms_in k₁ e₁ p₁ c.fill)
    after_kept n = go left refl
      where
        result : (ts : List Turn) → left ≡ ts → after_turn (room_of k q) prog proofs name ts σ (terms_in k e q f) ≡ ok tt (terms_in k₁ e₁ p₁ c.fill)
        result ts u = ap (λ (x : List Turn). after_turn (room_of k q) prog proofs name x σ (terms_in k e q f)) (sym u) ∙ sym d.does.outcome ∙ ok_of c.refusal tt (terms_in k₁ e₁ p₁ c.fill) n

        go : (ts : List Turn) → left ≡ ts → Extends (terms_in k e q f) (terms_in k₁ e₁ p₁ c.fill) × Sane prog σ (terms_in k₁ e₁ p₁ c.fill)
        go [] u = post-result {Q = λ _ x. Extends (terms_in k e q f) x × Sane prog σ x} (post-ok (extends-same, w)) (result [] u)
        go (of_proof y ∷ ts) u = post-result {Q = λ _ x. Extends (terms_in k e q f) x × Sane prog σ x} (post-ok (extends-same, w)) (result (of_proof y ∷ ts) u)
        go (of_fact t y ∷ ts) u = post-result (fact-sane (room_of k q) prog name σ t (claim_at proofs y) w) (result (of_fact t y ∷ ts) u)

    pub stage-stops : (c.refusal.number ≡ 0 → ⊥) → length memo₁ ≡ length memo → {x : Stage} → x ≡ record { refusal = c.refusal; settled = true; binds = None; fill = c.fill } → Advances J strict F G U p true r name second count X k e q ix f W i v k₁ e₁ p₁ ix₁ x memo₁ W
    stage-stops n l_memo x = subst⁻¹ (λ (y : Stage). Advances J strict F G U p true r name second count X k e q ix f W i v k₁ e₁ p₁ ix₁ y memo₁ W) x (record {
      walks = walks-stage (stage left v) g d.does.grown (λ ps y. subst (Does k e q ix f k₁ e₁ p₁ ix₁ c.fill c.refusal σ) (after_then left v none_left (room_of k q) ps (terms_in k e q f)) (does-stop σ (λ _. ends (drop 1 left) (room_of k q) ps) d.does n)) (λ u. absurd (n u)) l_memo refl refl (λ j. refl);
      over = λ u. absurd (n u);
      sane = λ _ u. absurd (n u);
      plain = λ u. absurd (true≢false u);
      waits = λ u. absurd (true≢false u);
    })

    pub stage-after : c.refusal.number ≡ 0 → i + 1 < count → length memo₁ ≡ length memo → {x : Stage} → x ≡ record { refusal = c.refusal; settled = true; binds = None; fill = c.fill } → Advances J strict F G U p true r name second count X k e q ix f W i v k₁ e₁ p₁ ix₁ x memo₁ W
    stage-after n l l_memo x = subst⁻¹ (λ (y : Stage). Advances J strict F G U p true r name second count X k e q ix f W i v k₁ e₁ p₁ ix₁ y memo₁ W) x (record {
      walks = walks-stage (stage left v) g d.does.grown (λ ps y. subst (Does k e q ix f k₁ e₁ p₁ ix₁ c.fill c.refusal σ)
          (ap (λ (y : Check (List Binding)). and_then (after_turn (room_of k q) prog proofs name left σ (terms_in k e q f)) (λ _. y)) (sym (going ps)) ∙ after_then left v none_left (room_of k q) ps (terms_in k e q f)) (does-map (λ _. σ) σ d.does (λ _. refl)))
          (λ u. ((after_kept u).0, sane-fewer g.sane (after_kept u).0 (after_kept u).1, d.past u)) l_memo refl refl (λ j. refl);
      over = λ _. sym (over-after left v none_left);
      sane = λ _ u. (after_kept u).1;
      plain = λ u. absurd (true≢false u);
      waits = λ u. absurd (true≢false u);
    })
      where
        going : (ps : List Proposition) → ends (drop 1 left) (room_of k q) ps ≡ pure σ
        going ps = ap (λ (ts : List Turn). ends ts (room_of k q) ps) (rest-left ∙ drop-cons turns (suc i) no_turn (let m = S.long in omega arith))
          where
            rest-left : drop 1 left ≡ drop (suc i) turns
            rest-left = ap (drop 1) (drop-cons turns i no_turn (let m = S.long in omega arith))

    pub stage-ends : c.refusal.number ≡ 0 → count ≤ i + 1 → {k₂ e₂ p₂ ix₂ : List ℕ} (c₂ : Checked) {memo₂ W₂ : List ℕ} → Produces prog (rule_for J r) σ (claim_at proofs p) k₁ e₁ p₁ ix₁ c.fill k₂ e₂ p₂ ix₂ c₂ memo₂ → length memo₂ ≡ length memo → length W₂ ≡ length W
        → take (length k) W₂ ≡ take (length k) W → ((j : ℕ) → get_or W₂ (length k + length k + j) 0 ≡ get_or W (length k + length k + j) 0)
        → {x : Stage} → x ≡ record { refusal = c₂.refusal; settled = true; binds = None; fill = c₂.fill } → Advances J strict F G U p true r name second count X k e q ix f W i v k₂ e₂ p₂ ix₂ x memo₂ W₂
    stage-ends n l {k₂} {e₂} {p₂} {ix₂} c₂ {memo₂} {W₂} P l_memo l_w front back x = subst⁻¹ (λ (y : Stage). Advances J strict F G U p true r name second count X k e q ix f W i v k₂ e₂ p₂ ix₂ y memo₂ W₂) x (record {
      walks = walks-stage (stage left v) g (grown-then d.does.grown P.checks.does.grown) (λ ps y. subst (Does k e q ix f k₂ e₂ p₂ ix₂ c₂.fill c₂.refusal σ)
          (ap (λ (ts : List Turn). and_then (after_turn (room_of k q) prog proofs name left σ (terms_in k e q f)) (λ _. ends ts (room_of k q) ps)) (sym last) ∙ after_then left v none_left (room_of k q) ps (terms_in k e q f))
          (does-then (λ room _. ends [] room ps) d.does n (does-map (λ _. σ) σ P.checks.does (λ _. refl))))
          (λ u. let b = extends-then (after_kept n).0 (P.grows u) in (b, sane-fewer g.sane b (P.sane u), P.checks.past u)) l_memo l_w front back;
      over = λ _. sym (over-after left v none_left);
      sane = λ _ u. P.sane u;
      plain = λ u. absurd (true≢false u);
      waits = λ u. absurd (true≢false u);
    })
      where
        last : drop 1 left ≡ []
        last = drop_of_length-le left {i = 1} (let m = S.long in simp length-drop (omega arith))

-- another step
module _ (J : List ℕ) (strict : Bool) (F G U : List ℕ) (p r first second count : ℕ) (X : List ℕ) {k e q ix : List ℕ} {f : Fill} {memo W : List ℕ} (g : Ground J F G k e q ix f memo W) (S : Planned J p false r first second count) where
  abbrev plain : List Turn
  plain = map of_proof (take count (first ∷ second ∷ []))

  abbrev plain_stage : List Turn → ℕ → Room → List Proposition → Check (List Binding)
  plain_stage ts v room ps = stage_of room (program_for J) (proofs_for J) strict first ps p (claim_at (proofs_for J) p) (get_or (proofs_for J) p no_proof).justification none ts v (read_bindings G)

  pub stage-end : {i v : ℕ} → count ≤ i → {k₁ e₁ p₁ ix₁ : List ℕ} (c : Checked) {memo₁ W₁ : List ℕ} → Concludes J U k e q ix f W p k₁ e₁ p₁ ix₁ c memo₁ W₁ → length memo₁ ≡ length memo → length W₁ ≡ length W
      → {t : Stage} → t ≡ record { refusal = c.refusal; settled = true; binds = None; fill = c.fill } → Advances J strict F G U p false r first second count X k e q ix f W i v k₁ e₁ p₁ ix₁ t memo₁ W₁
  stage-end {i} {v} h {k₁} {e₁} {p₁} {ix₁} c {memo₁} {W₁} d l_memo l_w t =
      let l : drop i plain ≡ [] = drop_of_length-le plain {i = i} (let m = S.long in omega arith) in
      subst⁻¹ (λ (x : Stage). Advances J strict F G U p false r first second count X k e q ix f W i v k₁ e₁ p₁ ix₁ x memo₁ W₁) t (record {
        walks = subst⁻¹ (λ (ts : List Turn). Walks {A = List Binding × List ℕ} J F G U k e q ix f W k₁ e₁ p₁ ix₁ c.fill c.refusal memo₁ W₁ (λ x. (read_bindings G, x)) (λ room ps done s. and_then (plain_stage ts v room ps s) (λ τ. pure (τ, done)))) l
            (walks-stage (plain_stage [] v) g d.grown (λ ps x. does-map (λ _. read_bindings G) (read_bindings G) (d.does ps x) (λ _. refl))
            (λ n. (d.grows n, d.sane n (read_bindings G) g.sane, d.past n)) l_memo l_w d.scratch.before back);
        over = λ _. sym (ap (λ (ts : List Turn). is_over (program_for J) ts v) l);
        sane = λ u. absurd (true≢false (sym u));
        plain = λ _. refl;
        waits = λ _. refl;
      })
    where
      back : (j : ℕ) → get_or W₁ (length k + length k + j) 0 ≡ get_or W (length k + length k + j) 0
      back j = sym (get_or-drop (length k + length k) W₁ j 0) ∙ ap (λ (xs : List ℕ). get_or xs j 0) d.scratch.behind ∙ get_or-drop (length k + length k) W j 0

-- the substitution as it was read
pub sane-pairs : (prog : Program) (X G : List ℕ) {S S' : List ℕ} {s : List Term} → S ≡ S' → Sane prog (bindings_in X S' G) s → Sane prog (bindings_in X S G) s
sane-pairs prog X G {s = s} e w = subst⁻¹ (λ (S : List ℕ). Sane prog (bindings_in X S G) s) e w

pub produces-pairs : (prog : Program) (rule : Rule) (X G : List ℕ) {S S' : List ℕ} {q claim : Proposition} {k e p ix : List ℕ} {f : Fill} {k₁ e₁ p₁ ix₁ : List ℕ} {c : Checked} {memo₁ : List ℕ} → S ≡ S' → q ≡ claim
    → Produces prog rule (bindings_in X S G) q k e p ix f k₁ e₁ p₁ ix₁ c memo₁ → Produces prog rule (bindings_in X S' G) claim k e p ix f k₁ e₁ p₁ ix₁ c memo₁
produces-pairs prog rule X G {S' = S'} {q = q} {k = k} {e = e} {p = p} {ix = ix} {f = f} {k₁ = k₁} {e₁ = e₁} {p₁ = p₁} {ix₁ = ix₁} {c = c} {memo₁ = memo₁} i j d =
    subst (λ (x : Proposition). Produces prog rule (bindings_in X S' G) x k e p ix f k₁ e₁ p₁ ix₁ c memo₁) j
    (subst (λ (S : List ℕ). Produces prog rule (bindings_in X S G) q k e p ix f k₁ e₁ p₁ ix₁ c memo₁) i d)

map_at : (g : ℕ → Fact) (ys : List ℕ) (j d : ℕ) → j < length ys → get_or (map g ys) j (g d) ≡ g (get_or ys j 0)
map_at g [] j d h = absurd (not-suc-le-zero h)
map_at g (y ∷ ys) zero d h = refl
map_at g (y ∷ ys) (suc j) d h = map_at g ys j d (le_of_suc-le-suc h)

-- a fact of the rule, as it was read, is the turn's
pub fact-turn : {J : List ℕ} {p r name second count : ℕ} → Planned J p true r name second count → {i : ℕ} → i < count → {xs : List ℕ} → xs ≡ rule_facts (get_or (tables_for J).rules r no_cell) → {y : ℕ} → get_or (premises_for J p) i 0 ≡ y
    → drop i (fact_turns (rule_for J r).facts (premises_for J p)) ≡ of_fact (fact_for J (get_or xs i 0)) y ∷ drop (suc i) (fact_turns (rule_for J r).facts (premises_for J p))
fact-turn {J} {p} {r} S {i} h {xs} e q =
    let n = numbers_of J r e in
    let l = S.long in
    let m = turns-most (rule_for J r).facts (premises_for J p) in
    let u = turns-few (rule_for J r).facts (premises_for J p) in
    let k : i < length (rule_for J r).facts = omega arith in
    let v : length xs ≡ length (rule_for J r).facts = sym (length-map xs (fact_for J)) ∙ ap length n in
    fact_left (rule_for J r).facts (premises_for J p) i k (omega arith) (fact_for J 0)
    (ap (λ (fs : List Fact). get_or fs i (fact_for J 0)) (sym n) ∙ map_at (fact_for J) xs i 0 (omega arith)) q

pub facts-count : {J : List ℕ} {p r name second count : ℕ} → Planned J p true r name second count → {xs : List ℕ} → xs ≡ rule_facts (get_or (tables_for J).rules r no_cell) → count ≤ length xs
facts-count {J} {p} {r} S {xs} e =
    let l = S.long in
    let u = turns-few (rule_for J r).facts (premises_for J p) in
    let v : length xs ≡ length (rule_for J r).facts = sym (length-map xs (fact_for J)) ∙ ap length (numbers_of J r e) in omega arith

-- whether a fact waits for its premise
pub fresh-fact : (v i n : ℕ) → (eqb v 0 && ltb i n) ≡ true → (v ≡ 0) × (i < n)
fresh-fact v i n e = go (eqb v 0) (ltb i n) refl refl e
  where
    go : (a b : Bool) → eqb v 0 ≡ a → ltb i n ≡ b → (a && b) ≡ true → (v ≡ 0) × (i < n)
    go true true p q e = (eqb-true v 0 p, ltb-true i n q)
    go true false p q e = absurd (true≢false (sym e))
    go false b p q e = absurd (true≢false (sym e))

pub late-fact : (v i n : ℕ) → (eqb v 0 && ltb i n) ≡ false → v ≡ 0 → n ≤ i
late-fact v i n e u = ltb-false i n (sym (ap (λ (m : ℕ). eqb m 0 && ltb i n) u) ∙ e)

-- a fact after its premise, by the turns that are left
pub after_none : {J : List ℕ} {p r name second count : ℕ} → Planned J p true r name second count → {i : ℕ} → count ≤ i → (σ : List Binding) {k e q ix : List ℕ} {f : Fill} {memo : List ℕ} → Indexed k e q ix f → Past memo
    → {c : Checked} → c ≡ record { refusal = passed; value = 0; fill = f }
    → Checks k e q ix f k e q ix c.fill c.refusal tt memo (after_turn (room_of k q) (program_for J) (proofs_for J) name (drop i (fact_turns (rule_for J r).facts (premises_for J p))) σ (terms_in k e q f))
after_none {J} {p} {r} {name} S {i} h σ {k} {e} {q} {ix} {f} {memo} x m {c} u =
    let l : drop i (fact_turns (rule_for J r).facts (premises_for J p)) ≡ [] = rule-left (rule_for J r).facts (premises_for J p) i (let m = S.long in omega arith) in
    subst⁻¹ (λ (y : Checked). Checks k e q ix f k e q ix y.fill y.refusal tt memo (after_turn (room_of k q) (program_for J) (proofs_for J) name (drop i (fact_turns (rule_for J r).facts (premises_for J p))) σ (terms_in k e q f))) u
    (record { does = does-here x (ap (λ (ts : List Turn). after_turn (room_of k q) (program_for J) (proofs_for J) name ts σ (terms_in k e q f)) (sym l)); past = λ _. m })

pub after-fact : (J : List ℕ) (p r name i : ℕ) (σ : List Binding) {t : Fact} {y : ℕ} → drop i (fact_turns (rule_for J r).facts (premises_for J p)) ≡ of_fact t y ∷ drop (suc i) (fact_turns (rule_for J r).facts (premises_for J p))
    → {q : Proposition} → q ≡ claim_at (proofs_for J) y → {k e p₀ ix : List ℕ} {f : Fill} {k₁ e₁ p₁ ix₁ : List ℕ} {f₁ : Fill} {x : Refusal} {m : List ℕ} → Checks k e p₀ ix f k₁ e₁ p₁ ix₁ f₁ x tt m (check_fact_matches_proposition (room_of k p₀) (program_for J) name σ t q (terms_in k e p₀ f))
    → Checks k e p₀ ix f k₁ e₁ p₁ ix₁ f₁ x tt m (after_turn (room_of k p₀) (program_for J) (proofs_for J) name (drop i (fact_turns (rule_for J r).facts (premises_for J p))) σ (terms_in k e p₀ f))
after-fact J p r name i σ {t} l z {k} {e} {p₀} {ix} {f} {k₁} {e₁} {p₁} {ix₁} {f₁} {x} {m} d =
    subst (Checks k e p₀ ix f k₁ e₁ p₁ ix₁ f₁ x tt m) (ap (λ (w : Proposition). check_fact_matches_proposition (room_of k p₀) (program_for J) name σ t w (terms_in k e p₀ f)) z
    ∙ ap (λ (ts : List Turn). after_turn (room_of k p₀) (program_for J) (proofs_for J) name ts σ (terms_in k e p₀ f)) (sym l)) d

-- by the pairs that were read
pub after-pairs : (J : List ℕ) (p r name i : ℕ) (X G : List ℕ) {R R' : List ℕ} {k e q ix : List ℕ} {f : Fill} {k₁ e₁ p₁ ix₁ : List ℕ} {f₁ : Fill} {x : Refusal} {m : List ℕ} → R ≡ R'
    → Checks k e q ix f k₁ e₁ p₁ ix₁ f₁ x tt m (after_turn (room_of k q) (program_for J) (proofs_for J) name (drop i (fact_turns (rule_for J r).facts (premises_for J p))) (bindings_in X R G) (terms_in k e q f))
    → Checks k e q ix f k₁ e₁ p₁ ix₁ f₁ x tt m (after_turn (room_of k q) (program_for J) (proofs_for J) name (drop i (fact_turns (rule_for J r).facts (premises_for J p))) (bindings_in X R' G) (terms_in k e q f))
after-pairs J p r name i X G {k = k} {e = e} {q = q} {ix = ix} {f = f} {k₁ = k₁} {e₁ = e₁} {p₁ = p₁} {ix₁ = ix₁} {f₁ = f₁} {x = x} {m = m} u d =
    subst (λ (R : List ℕ). Checks k e q ix f k₁ e₁ p₁ ix₁ f₁ x tt m (after_turn (room_of k q) (program_for J) (proofs_for J) name (drop i (fact_turns (rule_for J r).facts (premises_for J p))) (bindings_in X R G) (terms_in k e q f))) u d

-- by what the code knows of the kind of step
pub planned-by : (J : List ℕ) (p r first second count : ℕ) {b b' : Bool} → b ≡ b' → Planned J p b r first second count → Planned J p b' r first second count
planned-by J p r first second count e S = subst (λ (x : Bool). Planned J p x r first second count) e S

pub sane-by : (J : List ℕ) (p : ℕ) (X G : List ℕ) {b b' : Bool} {s : List Term} → b ≡ b' → Sane (program_for J) (bindings_by J p b X G) s → Sane (program_for J) (bindings_by J p b' X G) s
sane-by J p X G {s = s} e w = subst (λ (x : Bool). Sane (program_for J) (bindings_by J p x X G) s) e w

pub advances-by : (J : List ℕ) (strict : Bool) (F G U : List ℕ) (p r first second count : ℕ) (X : List ℕ) {b b' : Bool} {k e q ix : List ℕ} {f : Fill} {W : List ℕ} {i v : ℕ} {k₁ e₁ p₁ ix₁ : List ℕ} {c : Stage} {memo₁ W₁ : List ℕ} → b ≡ b'
    → Advances J strict F G U p b' r first second count X k e q ix f W i v k₁ e₁ p₁ ix₁ c memo₁ W₁ → Advances J strict F G U p b r first second count X k e q ix f W i v k₁ e₁ p₁ ix₁ c memo₁ W₁
advances-by J strict F G U p r first second count X {k = k} {e = e} {q = q} {ix = ix} {f = f} {W = W} {i = i} {v = v} {k₁ = k₁} {e₁ = e₁} {p₁ = p₁} {ix₁ = ix₁} {c = c} {memo₁ = memo₁} {W₁ = W₁} h d =
    subst⁻¹ (λ (x : Bool). Advances J strict F G U p x r first second count X k e q ix f W i v k₁ e₁ p₁ ix₁ c memo₁ W₁) h d
