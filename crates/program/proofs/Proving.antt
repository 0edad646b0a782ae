-- Laws of the readers of proofs: what an admitted job's proofs have, and the bounds of the numbers in them.
use mathlib.Core.Path.{◌≡◌, refl, sym, ap, subst, ◌∙◌}
use mathlib.Core.Logic.{◌⊎◌, inl, inr}
use mathlib.Core.Bool.{true, false, not, ◌&&◌}
use mathlib.Core.List.Memᴰ
use mathlib.Core.List.{List, [], ◌∷◌, map, Memᴰ}
use Prim.Native.Nat.{ℕ, zero, suc, ◌+◌, ◌≤◌, ◌<◌, ◌%◌}
use native.Mathlib.Omega.{arith}
use lib.Dec.{eqb, leb, ltb, lit<}
use lib.ListN.{length, get_or, drop, length-map, length-take, length-drop}
use Rattle.model.specs.Cell.{Cell}
use Rattle.model.specs.Program as program
use Rattle.model.specs.Program.{Binding, references, substitution}
use Rattle.model.specs.Decode.{word, read_bindings, read_justification, read_proof}
use Rattle.model.specs.Load.{counts, below, rule_proof_fits, proof_fits, proof_refers}
use Rattle.model.specs.Walk.{no_proof}
use Rattle.model.proofs.Valid.{read_at, below_of}
use Rattle.model.proofs.Tests.{or_cases, not-true, eq_of, lt_of, le_of, and_left, and_right, never}
use Rattle.decode.specs.View.{cell, proposition_of, justification_of, rule_premises, rule_pairs, Justifies}
use Rattle.decode.specs.declared.Proposition.{Proposition}
use Rattle.decode.specs.declared.Justification.{Justification}
use Rattle.model.specs.Layout.{sizes_of}
use Rattle.program.specs.Ready.{Ready, tables_for}
use Rattle.program.specs.Read.{proofs_for, proof_cell, premises_for, pairs_for, ClaimAt, JustificationAt, PremisesAt, SubstitutionAt}
use Rattle.program.proofs.Laws.{table-long, fits}
use Rattle.program.proofs.Reading.{below_at, refers}

-- the operand counts of the kinds of proofs but a rule's, and the least that a justification needs
abbrev proof_counts : List ℕ
proof_counts = 2 ∷ 0 ∷ 5 ∷ 4 ∷ 3 ∷ 5 ∷ 3 ∷ 2 ∷ []

abbrev least_words : List ℕ
least_words = 0 ∷ 4 ∷ 5 ∷ 4 ∷ 3 ∷ 5 ∷ 3 ∷ []

-- the cell of a proof by a rule that fits
rule-proof-long : (c : Cell) → rule_proof_fits c ≡ true → (4 + word c 3 ≤ length c.words) × (length (rule_premises c) ≤ 4096) × (length (rule_pairs c) ≤ 64)
rule-proof-long c q =
    let front = and_left _ (eqb (length (rule_pairs c) % 2) 0) q in
    let inner = and_left _ (leb (length (rule_pairs c)) 64) front in
    let start = and_left _ (leb (word c 3) 4096) inner in
    let four = le_of 4 (length c.words) (and_left _ (leb (word c 3) (length (drop 4 c.words))) start) in
    let long = le_of (word c 3) (length (drop 4 c.words)) (and_right (leb 4 (length c.words)) _ start) in
    let few = le_of (word c 3) 4096 (and_right (leb 4 (length c.words) && leb (word c 3) (length (drop 4 c.words))) _ inner) in
    let most = le_of (length (rule_pairs c)) 64 (and_right (leb 4 (length c.words) && leb (word c 3) (length (drop 4 c.words)) && leb (word c 3) 4096) _ front) in
    (omega (arith, length-drop 4 c.words), omega (arith, length-take (word c 3) (drop 4 c.words)), most)

-- a proof's cell that fits: by a rule, or with its kind's count
proof-cases : (c : Cell) → proof_fits c ≡ true → ((c.kind ≡ 1) × (rule_proof_fits c ≡ true)) ⊎ ((eqb c.kind 1 ≡ false) × (counts proof_counts c ≡ true))
proof-cases c e = go (or_cases (eqb c.kind 1 && rule_proof_fits c) _ e)
  where
    go : ((eqb c.kind 1 && rule_proof_fits c) ≡ true) ⊎ ((not (eqb c.kind 1) && counts proof_counts c) ≡ true)
        → ((c.kind ≡ 1) × (rule_proof_fits c ≡ true)) ⊎ ((eqb c.kind 1 ≡ false) × (counts proof_counts c ≡ true))
    go (inl h) = inl (eq_of c.kind 1 (and_left _ _ h), and_right (eqb c.kind 1) _ h)
    go (inr h) = inr (not-true (eqb c.kind 1) (and_left _ _ h), and_right (not (eqb c.kind 1)) _ h)

proof-long : (c : Cell) → proof_fits c ≡ true → (2 ≤ length c.words) × (get_or least_words c.kind 0 ≤ length c.words)
proof-long c e = go (proof-cases c e)
  where
    by_kind : (k : ℕ) (ws : List ℕ) → eqb k 1 ≡ false → counts proof_counts (cell k ws) ≡ true → (2 ≤ length ws) × (get_or least_words k 0 ≤ length ws)
    by_kind zero ws n h = let l = eq_of (length ws) 2 (and_right (ltb 0 8) _ h) in (omega arith, omega arith)
    by_kind (suc zero) ws n h = never (sym n)
    by_kind (suc (suc zero)) ws n h = let l = eq_of (length ws) 5 (and_right (ltb 2 8) _ h) in (omega arith, omega arith)
    by_kind (suc (suc (suc zero))) ws n h = let l = eq_of (length ws) 4 (and_right (ltb 3 8) _ h) in (omega arith, omega arith)
    by_kind (suc (suc (suc (suc zero)))) ws n h = let l = eq_of (length ws) 3 (and_right (ltb 4 8) _ h) in (omega arith, omega arith)
    by_kind (suc (suc (suc (suc (suc zero))))) ws n h = let l = eq_of (length ws) 5 (and_right (ltb 5 8) _ h) in (omega arith, omega arith)
    by_kind (suc (suc (suc (suc (suc (suc zero)))))) ws n h = let l = eq_of (length ws) 3 (and_right (ltb 6 8) _ h) in (omega arith, omega arith)
    by_kind (suc (suc (suc (suc (suc (suc (suc zero))))))) ws n h = let l = eq_of (length ws) 2 (and_right (ltb 7 8) _ h) in (omega arith, omega arith)
    by_kind (suc (suc (suc (suc (suc (suc (suc (suc k)))))))) ws n h =
        absurd (omega (arith, lt_of (suc (suc (suc (suc (suc (suc (suc (suc k)))))))) 8 (and_left _ (eqb (length ws) 0) h)))

    go : ((c.kind ≡ 1) × (rule_proof_fits c ≡ true)) ⊎ ((eqb c.kind 1 ≡ false) × (counts proof_counts c ≡ true)) → (2 ≤ length c.words) × (get_or least_words c.kind 0 ≤ length c.words)
    go (inl h) =
        let l = (rule-proof-long c h.1).0 in
        let k : get_or least_words c.kind 0 ≡ 4 = ap (λ (n : ℕ). get_or least_words n 0) h.0 in
        (omega arith, omega arith)
    go (inr h) = by_kind c.kind c.words h.0 h.1

rule_fits_lem : (c : Cell) → c.kind ≡ 1 → proof_fits c ≡ true → rule_proof_fits c ≡ true
rule_fits_lem c k e = go (proof-cases c e)
  where
    go : ((c.kind ≡ 1) × (rule_proof_fits c ≡ true)) ⊎ ((eqb c.kind 1 ≡ false) × (counts proof_counts c ≡ true)) → rule_proof_fits c ≡ true
    go (inl h) = h.1
    go (inr h) = never (sym h.0 ∙ ap (λ (n : ℕ). eqb n 1) k)

-- a rule step's cell is of kind 1
rule-kind : (c : Cell) {f : ℕ} {ps : List ℕ} {σ : List Binding} → program.rule f ps σ ≡ read_justification c → c.kind ≡ 1
rule-kind c e = go c.kind c.words e
  where
    go : (k : ℕ) (ws : List ℕ) {f : ℕ} {ps : List ℕ} {σ : List Binding} → program.rule f ps σ ≡ read_justification (cell k ws) → k ≡ 1
    go zero ws e = let z : ◌≡◌ {A = ℕ} 0 1 = cc in absurd (omega arith)
    go (suc zero) ws e = refl
    go (suc (suc zero)) ws e = let z : ◌≡◌ {A = ℕ} 0 1 = cc in absurd (omega arith)
    go (suc (suc (suc zero))) ws e = let z : ◌≡◌ {A = ℕ} 0 1 = cc in absurd (omega arith)
    go (suc (suc (suc (suc zero)))) ws e = let z : ◌≡◌ {A = ℕ} 0 1 = cc in absurd (omega arith)
    go (suc (suc (suc (suc (suc zero))))) ws e = let z : ◌≡◌ {A = ℕ} 0 1 = cc in absurd (omega arith)
    go (suc (suc (suc (suc (suc (suc zero)))))) ws e = let z : ◌≡◌ {A = ℕ} 0 1 = cc in absurd (omega arith)
    go (suc (suc (suc (suc (suc (suc (suc k))))))) ws e = let z : ◌≡◌ {A = ℕ} 0 1 = cc in absurd (omega arith)

-- the parts of a proof's test
module _ (terms i : ℕ) (q : program.Proof) (e : proof_refers terms i q ≡ true) where
  front : (ltb q.claim.lhs terms && ltb q.claim.rhs terms && below i (references q.justification)) ≡ true
  front = and_left _ (below terms (map (λ b. b.term) (substitution q.justification))) e

  sides : (ltb q.claim.lhs terms && ltb q.claim.rhs terms) ≡ true
  sides = and_left _ (below i (references q.justification)) front

  lhs-within : q.claim.lhs < terms
  lhs-within = lt_of q.claim.lhs terms (and_left _ (ltb q.claim.rhs terms) sides)

  rhs-within : q.claim.rhs < terms
  rhs-within = lt_of q.claim.rhs terms (and_right (ltb q.claim.lhs terms) _ sides)

  pub references-below : below i (references q.justification) ≡ true
  references-below = and_right (ltb q.claim.lhs terms && ltb q.claim.rhs terms) _ front

  substitution-within : (b : Binding) → Memᴰ b (substitution q.justification) → b.term < terms
  substitution-within b m = below_of terms (map (λ b. b.term) (substitution q.justification))
      (and_right (ltb q.claim.lhs terms && ltb q.claim.rhs terms && below i (references q.justification)) _ e) b.term (Memᴰ.map (λ (c : Binding). c.term) m)

-- as many proofs as the size says
pub proofs-long : (J : List ℕ) → length (proofs_for J) ≡ (sizes_of J).proofs
proofs-long J = length-map (tables_for J).proofs read_proof ∙ table-long J 9 (lit< tt)

-- the proofs of an admitted job, as they are read
module _ {J : List ℕ} (R : Ready J) (p : ℕ) (h : p < (sizes_of J).proofs) where
  -- proof p, from its cell
  pub proof-for : get_or (proofs_for J) p no_proof ≡ read_proof (proof_cell J p)
  proof-for = read_at read_proof (tables_for J).proofs no_proof p (rw (table-long J 9 (lit< tt)) h)

  proof-fits : proof_fits (proof_cell J p) ≡ true
  proof-fits = fits R 9 (lit< tt) p h

  proof-refers : proof_refers (sizes_of J).terms p (read_proof (proof_cell J p)) ≡ true
  proof-refers = refers R 9 (lit< tt) p h

  module _ {us : List ℕ} (q : us ≡ (proof_cell J p).words) where
    pub claim-words : 2 ≤ length us
    claim-words = subst (λ (ws : List ℕ). 2 ≤ length ws) (sym q) (proof-long (proof_cell J p) proof-fits).0

    pub claim-read : {r : Proposition} → ((k : ℕ) → proposition_of r ≡ (read_proof (cell k us)).claim) → ClaimAt J p r
    claim-read {r} v =
        let s : proposition_of r ≡ (read_proof (proof_cell J p)).claim = v (proof_cell J p).kind ∙ ap (λ (ws : List ℕ). (read_proof (cell (proof_cell J p).kind ws)).claim) q in
        record {
          is = s ∙ ap (λ (x : program.Proof). x.claim) (sym proof-for);
          lhs = subst (λ (x : program.Proposition). x.lhs < (sizes_of J).terms) (sym s) (lhs-within (sizes_of J).terms p (read_proof (proof_cell J p)) proof-refers);
          rhs = subst (λ (x : program.Proposition). x.rhs < (sizes_of J).terms) (sym s) (rhs-within (sizes_of J).terms p (read_proof (proof_cell J p)) proof-refers);
        }

  module _ {c : Cell} (q : c ≡ proof_cell J p) where
    pub justification-words : get_or (0 ∷ 4 ∷ 5 ∷ 4 ∷ 3 ∷ 5 ∷ 3 ∷ []) c.kind 0 ≤ length c.words
    justification-words = subst (λ (x : Cell). get_or least_words x.kind 0 ≤ length x.words) (sym q) (proof-long (proof_cell J p) proof-fits).1

    pub justification-read : {r : Justification} → Justifies r c → JustificationAt J p r
    justification-read {r} j =
        let s : justification_of r (premises_for J p) (pairs_for J p) ≡ read_justification (proof_cell J p) = subst (λ (x : Cell). justification_of r (rule_premises x) (rule_pairs x) ≡ read_justification x) q j.is in
        record {
          is = s ∙ ap (λ (x : program.Proof). x.justification) (sym proof-for);
          lower = below_of p (references (get_or (proofs_for J) p no_proof).justification)
              (ap (λ (x : program.Proof). below p (references x.justification)) proof-for ∙ references-below (sizes_of J).terms p (read_proof (proof_cell J p)) proof-refers);
          is_rule = λ t e. rule-kind (proof_cell J p) (ap (λ (x : Justification). justification_of x (premises_for J p) (pairs_for J p)) (sym e) ∙ s);
        }

  -- where it is by a rule
  module _ (k : (proof_cell J p).kind ≡ 1) where
    by-rule : read_justification (proof_cell J p) ≡ program.rule (word (proof_cell J p) 2) (premises_for J p) (read_bindings (pairs_for J p))
    by-rule = ap (λ (n : ℕ). read_justification (cell n (proof_cell J p).words)) k

    rule-proof : (4 + word (proof_cell J p) 3 ≤ length (proof_cell J p).words) × (length (premises_for J p) ≤ 4096) × (length (pairs_for J p) ≤ 64)
    rule-proof = rule-proof-long (proof_cell J p) (rule_fits_lem (proof_cell J p) k proof-fits)

    module _ {us : List ℕ} (q : us ≡ (proof_cell J p).words) where
      pub step_words : 4 + get_or us 3 0 ≤ length us
      step_words = subst (λ (ws : List ℕ). 4 + get_or ws 3 0 ≤ length ws) (sym q) rule-proof.0

      pub premises-read : {xs : List ℕ} → xs ≡ rule_premises (cell 1 us) → PremisesAt J p xs
      premises-read {xs} r = let s = r ∙ ap (λ (ws : List ℕ). rule_premises (cell 1 ws)) q in
          record {
            is = s;
            few = subst (λ (ys : List ℕ). length ys ≤ 4096) (sym s) rule-proof.1;
            lower = below_at p xs (ap (below p) s ∙ ap (λ (j : program.Justification). below p (references j)) (sym by-rule) ∙ references-below (sizes_of J).terms p (read_proof (proof_cell J p)) proof-refers);
          }

      pub substitution-read : {xs : List ℕ} → xs ≡ rule_pairs (cell 1 us) → SubstitutionAt J p xs
      substitution-read {xs} r = let s = r ∙ ap (λ (ws : List ℕ). rule_pairs (cell 1 ws)) q in
          record {
            is = s;
            few = subst (λ (ys : List ℕ). length ys ≤ 64) (sym s) rule-proof.2;
            within = λ b m. substitution-within (sizes_of J).terms p (read_proof (proof_cell J p)) proof-refers b
                (subst (λ (j : program.Justification). Memᴰ b (substitution j)) (sym by-rule) (subst (λ (ws : List ℕ). Memᴰ b (read_bindings ws)) s m));
          }
