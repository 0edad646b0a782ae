-- How a step is taken: the laws of plans, of turns by their number, and of a fact before its premise.
use Rattle.std.specs.Prelude as prelude
use Rattle.std.specs.Prelude.{Some, None}
use mathlib.Core.Path.{◌≡◌, refl, sym, ap, subst, ◌∙◌}
use mathlib.Core.Bool.{Bool, true, false, true≢false}
use mathlib.Core.List.{List, [], ◌∷◌, ◌++◌, map}
use mathlib.Core.Option.{Option, none, some}
use Prim.Native.Nat.{ℕ, zero, suc, ◌<◌, ◌≤◌}
use native.Mathlib.Nat.{not-suc-le-zero, le_of_suc-le-suc}
use native.Mathlib.Omega.{arith}
use lib.Dec.{eqb}
use lib.Seq.{get_or-take}
use lib.ListN.{length, get_or, take, length-map, length-take}
use borrow.Author.Tests.{eq-eqb, ne_eqb}
use Rattle.model.specs.Layout.{sizes_of}
use Rattle.model.specs.Term.{Term}
use Rattle.model.specs.Program.{Proposition, Binding, Program, Fact, Rule, Proof, Justification, fiat, rule, merge_fn, trans, symm, congr, container_normalize, eval, references}
use Rattle.model.specs.Decode.{read_bindings}
use Rattle.model.specs.Check.{Outcome, refused, Check, and_then, ◌>>=◌, pure, choose, or_refuse, check_that, Room}
use Rattle.model.specs.Fact.{assert_body_proof_normal_form, is_container_side_condition, check_side_condition}
use Rattle.model.specs.Walk.{no_proof, claim_at, rule_of, check_rule, check_justification}
use Rattle.model.specs.Height.{follow_unless, followed_premises, followed_by, followed}
use Rattle.outcome.specs.Does.{passed, refusal, outcome_of}
use Rattle.outcome.specs.declared.Refusal.{Refusal}
use Rattle.outcome.proofs.Laws.{ok_of, refused-of}
use Rattle.program.specs.Ready.{program_for, rule_for, rule_at, FindsRule}
use Rattle.program.specs.Read.{proofs_for, premises_for, pairs_for}
use Rattle.steps.specs.Concluding.{is_rule}
use Rattle.turns.specs.declared.Needs.{Needs}
use Rattle.turns.specs.declared.Plan.{Plan}
use Rattle.turns.specs.Walking.{context_of, check_body, Operates}
use Rattle.turns.specs.Turning.{of_fact, of_proof, proof_of, no_turn, fact_turns, followed_turns, turns_by, take_turns, finish_step, before_proof, RuleStep, Planned, Plans}
use Rattle.turns.proofs.Turns.{rule-by-turns, step-by-turns}

-- the turns of a rule's step, by their number
pub turns-long : (fs : List Fact) (ps : List ℕ) → length fs ≡ length ps → length (fact_turns fs ps) ≡ length ps
turns-long [] [] l = refl
turns-long [] (p ∷ ps) l = absurd (omega arith)
turns-long (f ∷ fs) [] l = absurd (omega arith)
turns-long (f ∷ fs) (p ∷ ps) l = ap suc (turns-long fs ps (omega arith))

pub turn-proof : (fs : List Fact) (ps : List ℕ) (i : ℕ) → i < length (fact_turns fs ps) → proof_of (get_or (fact_turns fs ps) i no_turn) ≡ get_or ps i 0
turn-proof [] ps i h = absurd (not-suc-le-zero h)
turn-proof (f ∷ fs) [] i h = absurd (not-suc-le-zero h)
turn-proof (f ∷ fs) (p ∷ ps) zero h = refl
turn-proof (f ∷ fs) (p ∷ ps) (suc i) h = turn-proof fs ps i (le_of_suc-le-suc h)

pub turns-most : (fs : List Fact) (ps : List ℕ) → length (fact_turns fs ps) ≤ length ps
turns-most [] ps = omega arith
turns-most (f ∷ fs) [] = omega arith
turns-most (f ∷ fs) (p ∷ ps) = let h = turns-most fs ps in omega arith

pub turns-few : (fs : List Fact) (ps : List ℕ) → length (fact_turns fs ps) ≤ length fs
turns-few [] ps = omega arith
turns-few (f ∷ fs) [] = omega arith
turns-few (f ∷ fs) (p ∷ ps) = let h = turns-few fs ps in omega arith

-- the proofs of another step
pub proof-at : (xs : List ℕ) (i : ℕ) → i < length xs → proof_of (get_or (map of_proof xs) i no_turn) ≡ get_or xs i 0
proof-at [] i h = absurd (not-suc-le-zero h)
proof-at (x ∷ xs) zero h = refl
proof-at (x ∷ xs) (suc i) h = proof-at xs i (le_of_suc-le-suc h)

-- the proofs that turns walk are those that the step follows
turns-followed : (prog : Program) (fs : List Fact) (ps : List ℕ) → followed_turns prog (fact_turns fs ps) ≡ followed_premises prog fs ps
turns-followed prog [] ps = refl
turns-followed prog (f ∷ fs) [] = refl
turns-followed prog (f ∷ fs) (p ∷ ps) = ap (follow_unless (is_container_side_condition prog f) p) (turns-followed prog fs ps)

proofs-followed : (prog : Program) (xs : List ℕ) → followed_turns prog (map of_proof xs) ≡ xs
proofs-followed prog [] = refl
proofs-followed prog (x ∷ xs) = ap (λ (ys : List ℕ). x ∷ ys) (proofs-followed prog xs)

plain-followed : (prog : Program) (j : Justification) → is_rule j ≡ false → references j ≡ followed prog j
plain-followed prog fiat o = refl
plain-followed prog (rule n ps σ) o = absurd (true≢false o)
plain-followed prog (merge_fn f a b) o = refl
plain-followed prog (trans a b) o = refl
plain-followed prog (symm a) o = refl
plain-followed prog (congr a i b) o = refl
plain-followed prog (container_normalize a) o = refl
plain-followed prog eval o = refl

-- a fact before its premise
module _ (room : Room) (prog : Program) (proofs : List Proof) (strict : Bool) (name : ℕ) (f : Fact) (y : ℕ) (σ : List Binding) (s : List Term) where
  before-by : {o : Outcome (Unit {0})} {c : Bool} → assert_body_proof_normal_form prog name f s ≡ o → is_container_side_condition prog f ≡ c
      → and_then o (λ _. choose c (check_side_condition room prog name σ strict f) (pure σ)) ≡ before_proof room prog proofs strict name (of_fact f y) σ s
  before-by p q = λ i. and_then (sym p i) (λ _. choose (sym q i) (check_side_condition room prog name σ strict f) (pure σ))

  pub before_offends : (r : Refusal) (a : List Binding) → ((u : List Term) → outcome_of r tt u ≡ assert_body_proof_normal_form prog name f u) → (r.number ≡ 0 → ⊥)
      → outcome_of r a s ≡ before_proof room prog proofs strict name (of_fact f y) σ s
  before_offends r a h n = refused-of r a s n ∙ before-by (sym (h s) ∙ refused-of r tt s n) refl

  pub before-waits : (r : Refusal) → ((u : List Term) → outcome_of r tt u ≡ assert_body_proof_normal_form prog name f u) → r.number ≡ 0 → is_container_side_condition prog f ≡ false
      → outcome_of r σ s ≡ before_proof room prog proofs strict name (of_fact f y) σ s
  before-waits r h n c = ok_of r σ s n ∙ before-by (sym (h s) ∙ ok_of r tt s n) c

  pub before-condition : (r : Refusal) → ((u : List Term) → outcome_of r tt u ≡ assert_body_proof_normal_form prog name f u) → r.number ≡ 0 → is_container_side_condition prog f ≡ true
      → check_side_condition room prog name σ strict f s ≡ before_proof room prog proofs strict name (of_fact f y) σ s
  before-condition r h n c = before-by (sym (h s) ∙ ok_of r tt s n) c

-- a rule's step
module _ {J : List ℕ} {p name : ℕ} (R : RuleStep J p name) where
  abbrev prog : Program
  prog = program_for J

  abbrev proofs : List Proof
  proofs = proofs_for J

  abbrev premises : List ℕ
  premises = premises_for J p

  module _ (room : Room) (strict : Bool) (G : List ℕ) (ps : List Proposition) (sub : ℕ → List ℕ → Check (List ℕ)) (done : List ℕ) (s : List Term) where
    abbrev found : Option Rule → Check (List ℕ)
    found o =
        or_refuse o 32 (name ∷ []) >>= λ r.
        check_that (eqb (length r.facts) (length premises)) 27 (p ∷ name ∷ length r.facts ∷ length premises ∷ []) >>= λ _.
        check_body room prog proofs (context_of G ps) sub strict name r premises (read_bindings (pairs_for J p) ++ read_bindings G) (claim_at proofs p) done

    is-rule : found (rule_of prog.rules name) s ≡ check_justification room prog proofs (context_of G ps) sub strict p (claim_at proofs p) (get_or proofs p no_proof).justification done s
    unfolding check_rule check_body
    is-rule = ap (λ (j : _). check_justification room prog proofs (context_of G ps) sub strict p (claim_at proofs p) j done s) (sym R.is)

    pub rule-unknown : none ≡ rule_of prog.rules name → refused (record { number = 32; fields = name ∷ [] }) s
        ≡ check_justification room prog proofs (context_of G ps) sub strict p (claim_at proofs p) (get_or proofs p no_proof).justification done s
    unfolding or_refuse
    rule-unknown h = ap (λ (o : Option Rule). found o s) h ∙ is-rule

    module _ (r : Rule) (h : some r ≡ rule_of prog.rules name) where
      by_count : (b : Bool) → eqb (length r.facts) (length premises) ≡ b
          → and_then (check_that b 27 (p ∷ name ∷ length r.facts ∷ length premises ∷ []) s) (λ _. check_body room prog proofs (context_of G ps) sub strict name r premises (read_bindings (pairs_for J p) ++ read_bindings G) (claim_at proofs p) done)
          ≡ check_justification room prog proofs (context_of G ps) sub strict p (claim_at proofs p) (get_or proofs p no_proof).justification done s
      unfolding or_refuse
      by_count b e =
          ap (λ (x : Bool). and_then (check_that x 27 (p ∷ name ∷ length r.facts ∷ length premises ∷ []) s) (λ _. check_body room prog proofs (context_of G ps) sub strict name r premises (read_bindings (pairs_for J p) ++ read_bindings G) (claim_at proofs p) done)) (sym e)
          ∙ ap (λ (o : Option Rule). found o s) h ∙ is-rule

      pub rule-uneven : {n m : ℕ} → n ≡ length r.facts → m ≡ length premises → (n ≡ m → ⊥) → refused (record { number = 27; fields = p ∷ name ∷ n ∷ m ∷ [] }) s
          ≡ check_justification room prog proofs (context_of G ps) sub strict p (claim_at proofs p) (get_or proofs p no_proof).justification done s
      unfolding check_that
      rule-uneven a b ne = (λ i. refused (record { number = 27; fields = p ∷ name ∷ a i ∷ b i ∷ [] }) s) ∙ by_count false (ne_eqb _ _ (λ u. ne (a ∙ u ∙ sym b)))

      pub rule-even : length r.facts ≡ length premises
          → (take_turns room prog proofs strict name sub (fact_turns r.facts premises) (read_bindings (pairs_for J p) ++ read_bindings G, done)
          >>= finish_step room prog proofs ps p (claim_at proofs p) (get_or proofs p no_proof).justification (some r)) s
          ≡ check_justification room prog proofs (context_of G ps) sub strict p (claim_at proofs p) (get_or proofs p no_proof).justification done s
      unfolding check_that
      rule-even l = rule-by-turns room prog proofs (context_of G ps) sub strict name r premises p (claim_at proofs p) (get_or proofs p no_proof).justification l (read_bindings (pairs_for J p) ++ read_bindings G) done s ∙ by_count true (eq-eqb _ _ l)

  pub plans-rule : {r : ℕ} → r < (sizes_of J).rules → some (rule_for J r) ≡ rule_of prog.rules name → length (rule_for J r).facts ≡ length premises
      → {n : ℕ} → n ≡ length premises → n ≤ 16 → ((i : ℕ) → i < length premises → get_or premises i 0 < p) → Planned J p true r name 0 n
  plans-rule {r} h f l {n} e few lower = record {
    long = turns-long (rule_for J r).facts premises l ∙ sym e;
    few = few;
    lower = λ i k. let t = turns-long (rule_for J r).facts premises l in let q = turn-proof (rule_for J r).facts premises i (omega arith) in let y = lower i (omega arith) in omega arith;
    kind = λ _. R.kind;
    inside = λ _. h;
    plain = λ u. absurd (true≢false u);
    follows = turns-followed prog (rule_for J r).facts premises ∙ ap (λ (o : Option Rule). followed_by prog o premises) f ∙ ap (followed prog) (sym R.is);
    step = λ room strict G ps sub done s. rule-even room strict G ps sub done s (rule_for J r) f l;
  }

-- another step
pub plans-plain : {J : List ℕ} {p : ℕ} (o : Needs) → Operates J p o → o.rule ≡ false → Planned J p false 0 o.first o.second o.count
plans-plain {J} {p} o O e =
    let two : List ℕ = o.first ∷ o.second ∷ [] in
    let c = O.few in
    let l : length (take o.count two) ≡ o.count = simp length-take (omega arith) in record {
      long = length-map (take o.count two) of_proof ∙ l;
      few = omega arith;
      lower = λ i h. let q = proof-at (take o.count two) i (omega arith) in let y = O.lower i h in let g = taken i h in omega arith;
      kind = λ u. absurd (true≢false (sym u));
      inside = λ u. absurd (true≢false (sym u));
      plain = λ _. c;
      follows = ap (λ (xs : List ℕ). followed_turns (program_for J) (map of_proof xs)) (O.other e).1 ∙ proofs-followed (program_for J) (references (get_or (proofs_for J) p no_proof).justification)
          ∙ plain-followed (program_for J) (get_or (proofs_for J) p no_proof).justification (O.other e).0;
      step = λ room strict G ps sub done s.
          ap (λ (xs : List ℕ). (take_turns room (program_for J) (proofs_for J) strict o.first sub (map of_proof xs) (read_bindings G, done)
          >>= finish_step room (program_for J) (proofs_for J) ps p (claim_at (proofs_for J) p) (get_or (proofs_for J) p no_proof).justification none) s) (O.other e).1
          ∙ step-by-turns room (program_for J) (proofs_for J) (context_of G ps) sub strict o.first p (claim_at (proofs_for J) p) (get_or (proofs_for J) p no_proof).justification (O.other e).0 (read_bindings G) done s;
    }
  where
    taken : (i : ℕ) → i < o.count → get_or (take o.count (o.first ∷ o.second ∷ [])) i 0 ≡ get_or (o.first ∷ o.second ∷ []) i 0
    taken i h = get_or-take o.count (o.first ∷ o.second ∷ []) i 0 h

-- the proof of a turn, as it is read
module _ {J : List ℕ} {p : ℕ} {rule : Bool} {r first second count : ℕ} where
  pub reference-inside : rule ≡ true → Planned J p rule r first second count → {xs : List ℕ} → xs ≡ premises_for J p → count ≤ length xs
  reference-inside e S {xs} q =
      let l = subst (λ (b : Bool). length (turns_by J p b r first second count) ≡ count) e S.long in
      let m = turns-most (rule_for J r).facts (premises_for J p) in
      let n = ap length q in omega arith

  pub rule-reference : rule ≡ true → Planned J p rule r first second count → {i : ℕ} → i < count → {xs : List ℕ} → xs ≡ premises_for J p
      → get_or xs i 0 ≡ proof_of (get_or (turns_by J p rule r first second count) i no_turn)
  rule-reference e S {i} h q =
      let l = subst (λ (b : Bool). length (turns_by J p b r first second count) ≡ count) e S.long in
      ap (λ (l : List ℕ). get_or l i 0) q ∙ sym (turn-proof (rule_for J r).facts (premises_for J p) i (omega arith))
      ∙ ap (λ (b : Bool). proof_of (get_or (turns_by J p b r first second count) i no_turn)) (sym e)

  pub plain-reference : rule ≡ false → Planned J p rule r first second count → {i : ℕ} → i < count
      → get_or (first ∷ second ∷ []) i 0 ≡ proof_of (get_or (turns_by J p rule r first second count) i no_turn)
  plain-reference e S {i} h =
      let two : List ℕ = first ∷ second ∷ [] in
      let c = S.plain e in
      let l : length (take count two) ≡ count = simp length-take (omega arith) in
      sym (get_or-take count two i 0 h) ∙ sym (proof-at (take count two) i (omega arith))
      ∙ ap (λ (b : Bool). proof_of (get_or (turns_by J p b r first second count) i no_turn)) (sym e)

-- the plans of the code
pub rule-none : {rs : List Rule} {n x : ℕ} {r : prelude.Option ℕ} → FindsRule rs n x r → r ≡ None → none ≡ rule_of rs x
rule-none {rs} F e = ap (rule_at rs) (sym e) ∙ F.is

pub rule-some : (J : List ℕ) {x i : ℕ} {r : prelude.Option ℕ} → FindsRule (program_for J).rules (sizes_of J).rules x r → r ≡ Some i → some (rule_for J i) ≡ rule_of (program_for J).rules x
rule-some J F e = ap (rule_at (program_for J).rules) (sym e) ∙ F.is

module _ {J : List ℕ} {p name : ℕ} (R : RuleStep J p name) where
  pub unknown-plan : none ≡ rule_of (program_for J).rules name
      → Plans J p (record { refusal = refusal 32 1 (name ∷ 0 ∷ 0 ∷ 0 ∷ 0 ∷ 0 ∷ []); rule = true; r = 0; count = 0; first = 0; second = 0 })
  unknown-plan h = record { stops = λ _ room strict G ps sub done u. rule-unknown R room strict G ps sub done u h; goes = λ e. absurd (omega arith) }

  module _ (i : ℕ) (h : some (rule_for J i) ≡ rule_of (program_for J).rules name) {n m : ℕ} (a : n ≡ length (rule_for J i).facts) (b : m ≡ length (premises_for J p)) where
    pub uneven-plan : (n ≡ m → ⊥) → Plans J p (record { refusal = refusal 27 4 (p ∷ name ∷ n ∷ m ∷ 0 ∷ 0 ∷ []); rule = true; r = 0; count = 0; first = 0; second = 0 })
    uneven-plan ne = record { stops = λ _ room strict G ps sub done u. rule-uneven R room strict G ps sub done u (rule_for J i) h a b ne; goes = λ e. absurd (omega arith) }

    pub even-plan : n ≡ m → i < (sizes_of J).rules → n ≤ 16 → ((j : ℕ) → j < length (premises_for J p) → get_or (premises_for J p) j 0 < p)
        → Plans J p (record { refusal = passed; rule = true; r = i; count = n; first = name; second = 0 })
    even-plan e l few lower = record { stops = λ u. absurd (u refl); goes = λ _. plans-rule R l h (sym a ∙ e ∙ b) (e ∙ b) few lower }

pub plain-plans : {J : List ℕ} {p : ℕ} {o : Needs} {s : Plan} → Operates J p o → o.rule ≡ false
    → s ≡ record { refusal = passed; rule = false; r = 0; count = o.count; first = o.first; second = o.second } → Plans J p s
plain-plans {J} {p} {o} O e q = subst (Plans J p) (sym q) (record { stops = λ u. absurd (u refl); goes = λ _. plans-plain o O e })

pub premise-lower : {p : ℕ} {xs ys : List ℕ} → xs ≡ ys → ((i : ℕ) → i < length xs → get_or xs i 0 < p) → (i : ℕ) → i < length ys → get_or ys i 0 < p
premise-lower {p} e h = subst (λ (l : List ℕ). (i : ℕ) → i < length l → get_or l i 0 < p) e h
