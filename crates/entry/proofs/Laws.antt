-- What the entry hands to the check of a proof, and what it tells of it.
use mathlib.Core.Path.{◌≡◌, refl, sym, ap, subst, ◌∙◌}
use mathlib.Core.List.{List, map}
use Prim.Native.Nat.{ℕ, zero, suc, ◌<◌, ◌^◌}
use native.Mathlib.Omega.{arith}
use lib.ListN.{length, get_or}
use Rattle.model.specs.Term.{read_term, Extends}
use Rattle.model.specs.Program.{Program, Proof}
use Rattle.model.specs.Layout.{sizes_of, tables_of}
use Rattle.model.specs.Decode.{read_job}
use Rattle.model.specs.Load.{is_strict}
use Rattle.model.specs.Walk.{claim_at, check_proof}
use Rattle.model.specs.Height.{height}
use Rattle.model.specs.Answer.{refusal_words, left, entry}
use Rattle.model.proofs.Store.{extends-same}
use Rattle.decode.specs.declared.Proposition.{Proposition}
use Rattle.index.specs.declared.Fill.{Fill}
use Rattle.termdag.specs.Store.{terms_in, room_of}
use Rattle.outcome.specs.Does.{refusal_of, Does}
use Rattle.outcome.specs.declared.Refusal.{Refusal}
use Rattle.answer.specs.Answers.{passed_words}
use Rattle.program.specs.Ready.{Ready, tables_for, program_for}
use Rattle.program.specs.Read.{proofs_for, ClaimAt}
use Rattle.prepare.specs.declared.Prepared.{Prepared}
use Rattle.prepare.specs.Prepares.{arrays_of, Prepares}
use Rattle.entry.proofs.Ending.{left_by, entry-refused, entry-passed, entry-stopped}
use Rattle.check_proof.specs.Checking.{Given}
use Rattle.entry.specs.Told.{told_by, told_words}

-- the words of a refusal, and of a proof that passes
pub told-refusal : {A : List ℕ} (r : Refusal) (terms : ℕ) (prog : Program) (proofs : List Proof) (p : ℕ) → (r.number ≡ 0 → ⊥) → A ≡ refusal_words (refusal_of r) terms → A ≡ told_words r terms prog proofs p
unfolding told_words
told-refusal r terms prog proofs p h w = w ∙ go r.number h
  where
    go : (n : ℕ) → (n ≡ 0 → ⊥) → refusal_words (refusal_of r) terms ≡ told_by n r terms prog proofs p
    go zero l = absurd (l refl)
    go (suc n) l = refl

pub told-passed : {A J : List ℕ} {p : ℕ} {q : Proposition} (r : Refusal) (terms h : ℕ) → r.number ≡ 0 → ClaimAt J p q → h ≡ height (program_for J) (proofs_for J) p
    → A ≡ passed_words terms q.lhs q.rhs h → A ≡ told_words r terms (program_for J) (proofs_for J) p
unfolding told_words
told-passed {J = J} {p = p} r terms h n C e w =
    w ∙ (λ i. passed_words terms (C.is i).lhs (C.is i).rhs (e i)) ∙ ap (λ (m : ℕ). told_by m r terms (program_for J) (proofs_for J) p) (sym n)

-- the height of the asked proof, by its number as it was read
pub height-asked : (J : List ℕ) {d asked h n : ℕ} → d ≡ asked → (n ≡ 0 → h ≡ height (program_for J) (proofs_for J) asked) → n ≡ 0 → h ≡ height (program_for J) (proofs_for J) d
height-asked J e k z = k z ∙ ap (height (program_for J) (proofs_for J)) (sym e)

module _ {ws : List ℕ} {asked mode : ℕ} {K E P I : List ℕ} {scratch : ℕ} {K₁ E₁ P₁ I₁ : List ℕ} {p : Prepared} (S : Prepares ws asked mode K E P I scratch K₁ E₁ P₁ I₁ p) where
  -- below 20
  pub refuses : {x : ℕ} {A : List ℕ} (answer : List ℕ) → length answer ≡ 8 → (p.refusal.number ≡ 0 → ⊥) → A ≡ refusal_words (refusal_of p.refusal) 0 → x ≡ get_or A 0 0
      → record { number = x; answer = A; arrays = arrays_of K₁ E₁ P₁ } ≡ entry ws asked mode (arrays_of K E P) (length I) scratch answer
  refuses answer eight h w f = left_by (arrays_of K₁ E₁ P₁) w f ∙ entry-refused S answer eight h

  module _ (n : p.refusal.number ≡ 0) where
    terms-first : Extends (map read_term (tables_for ws).terms) (terms_in K₁ E₁ P₁ p.fill)
    unfolding read_job tables_of
    terms-first = subst (Extends (map read_term (tables_for ws).terms)) (sym (S.started n).terms) extends-same

    pub job-asked : asked < (sizes_of ws).proofs
    job-asked = S.there n

    -- what the check of the proof is handed
    pub job-given : {W : List ℕ} → length W ≡ scratch → Given ws K₁ E₁ P₁ I₁ p.fill W
    job-given {W} long =
        let T = S.started n in
        let h = S.enough n in
        record {
          ready = T.ready;
          indexed = T.indexed;
          sane = T.sane;
          terms = terms-first;
          long = let m = T.len_k in omega arith;
        }

    pub job-ready : Ready ws
    job-ready = (S.started n).ready

    module _ {K₂ E₂ P₂ I₂ : List ℕ} {g : Fill} {r : Refusal}
        (D : Does K₁ E₁ P₁ I₁ p.fill K₂ E₂ P₂ I₂ g r (claim_at (proofs_for ws) asked) (check_proof (room_of K₁ P₁) (program_for ws) (proofs_for ws) (is_strict mode) asked (terms_in K₁ E₁ P₁ p.fill))) where
      -- the terms at the end are few
      pub terms-word : g.cells < 2 ^ 32
      terms-word = let F = D.grown.indexed.stored.formed in let a = F.kinds in let b = F.few in omega arith

      -- from 20 on, and what passes
      told : (answer : List ℕ) → length answer ≡ 8 → left (told_words r g.cells (program_for ws) (proofs_for ws) asked) (arrays_of K₂ E₂ P₂) ≡ entry ws asked mode (arrays_of K E P) (length I) scratch answer
      unfolding told_words
      told answer eight = go r.number refl
        where
          go : (m : ℕ) → r.number ≡ m → left (told_by m r g.cells (program_for ws) (proofs_for ws) asked) (arrays_of K₂ E₂ P₂) ≡ entry ws asked mode (arrays_of K E P) (length I) scratch answer
          go zero h = entry-passed S answer eight n D h
          go (suc m) h = entry-stopped S answer eight n D (λ o. let q : suc m ≡ 0 = sym h ∙ o in omega arith)

      pub tells : {x d : ℕ} {A : List ℕ} (answer : List ℕ) → length answer ≡ 8 → d ≡ asked → A ≡ told_words r g.cells (program_for ws) (proofs_for ws) d → x ≡ get_or A 0 0
          → record { number = x; answer = A; arrays = arrays_of K₂ E₂ P₂ } ≡ entry ws asked mode (arrays_of K E P) (length I) scratch answer
      tells answer eight q w f = left_by (arrays_of K₂ E₂ P₂) (w ∙ ap (told_words r g.cells (program_for ws) (proofs_for ws)) q) f ∙ told answer eight
