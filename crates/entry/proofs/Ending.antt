-- The end of the entry: what it leaves, from what was prepared and from what the check of the proof does.
use mathlib.Core.Path.{◌≡◌, refl, sym, ap, ◌∙◌}
use mathlib.Core.Bool.{Bool, true, false}
use mathlib.Core.List.{List, [], ◌∷◌}
use mathlib.Core.Option.{none, some}
use Prim.Native.Nat.{ℕ, zero, suc}
use lib.Dec.{eqb}
use lib.ListN.{length, get_or}
use borrow.Author.Tests.{eq-eqb, ne_eqb}
use Rattle.model.specs.Term.{Term}
use Rattle.model.specs.Program.{Proposition}
use Rattle.model.specs.Decode.{job_of}
use Rattle.model.specs.Load.{is_strict, load_refusal}
use Rattle.model.specs.Walk.{check_proof}
use Rattle.model.specs.Height.{height}
use Rattle.model.specs.Answer.{refusal_words, Arrays, stored, left, checked_by, checked, loaded, lent_by, check, entry}
use Rattle.index.specs.declared.Fill.{Fill}
use Rattle.termdag.proofs.Laws.{terms-length}
use Rattle.termdag.specs.Store.{terms_in, room_of}
use Rattle.termdag.proofs.Loading.{drop-later}
use Rattle.termdag.proofs.Words.{store_words}
use Rattle.outcome.specs.Does.{refusal_of, outcome_of, Grown, Does}
use Rattle.outcome.specs.declared.Refusal.{Refusal}
use Rattle.outcome.proofs.Laws.{ok_of, refused-of}
use Rattle.program.specs.Ready.{program_for}
use Rattle.program.specs.Read.{proofs_for}
use Rattle.prepare.specs.declared.Prepared.{Prepared}
use Rattle.prepare.specs.Prepares.{arrays_of, refusal_by, Started, Prepares}
use Rattle.prepare.proofs.Jobs.{job-program, job-proofs}

-- the store at the end holds its terms, over what was lent
pub grown-stored : {ws K E P K₁ E₁ P₁ I₁ : List ℕ} {f : Fill} {K₂ E₂ P₂ I₂ : List ℕ} {g : Fill} → Started ws K E P K₁ E₁ P₁ I₁ f → Grown K₁ E₁ P₁ I₁ f K₂ E₂ P₂ I₂ g
    → arrays_of K₂ E₂ P₂ ≡ stored (terms_in K₂ E₂ P₂ g) (arrays_of K E P)
grown-stored {K = K} {E = E} {P = P} {K₁ = K₁} {E₁ = E₁} {P₁ = P₁} {f = f} {g = g} S G =
    store_words (arrays_of K E P) G.indexed.stored
    (G.kinds ∙ drop-later f.cells g.cells K₁ K G.more_cells S.kinds)
    (G.ends ∙ drop-later f.cells g.cells E₁ E G.more_cells S.ends)
    (G.pool ∙ drop-later f.words g.words P₁ P G.more_words S.pool)

-- what is left, where the number returned is the answer's first word
pub left_by : {x : ℕ} {A words : List ℕ} (a : Arrays) → A ≡ words → x ≡ get_or A 0 0 → record { number = x; answer = A; arrays = a } ≡ left words a
left_by {x} {A} a w h = (λ i. record { number = h i; answer = A; arrays = a }) ∙ ap (λ (l : List ℕ). left l a) w

-- an answer's buffer of eight words, and of any other length
entry-by : (ws : List ℕ) (asked mode : ℕ) (a : Arrays) (index scratch : ℕ) (answer : List ℕ) (b : Bool) → eqb (length answer) 8 ≡ b
    → entry ws asked mode a index scratch answer ≡ elim b [ true ↦ check ws asked mode a index scratch | false ↦ record { number = 10; answer = answer; arrays = a } ]
unfolding entry
entry-by ws asked mode a index scratch answer b h = ap (λ (t : Bool). elim t [ true ↦ check ws asked mode a index scratch | false ↦ record { number = 10; answer = answer; arrays = a } ]) h

pub entry-check : (ws : List ℕ) (asked mode : ℕ) (a : Arrays) (index scratch : ℕ) (answer : List ℕ) → length answer ≡ 8 → entry ws asked mode a index scratch answer ≡ check ws asked mode a index scratch
entry-check ws asked mode a index scratch answer h = entry-by ws asked mode a index scratch answer true (eq-eqb (length answer) 8 h)

pub entry-unwritten : (ws : List ℕ) (asked mode : ℕ) (a : Arrays) (index scratch : ℕ) (answer : List ℕ) → (length answer ≡ 8 → ⊥)
    → record { number = 10; answer = answer; arrays = a } ≡ entry ws asked mode a index scratch answer
entry-unwritten ws asked mode a index scratch answer h = sym (entry-by ws asked mode a index scratch answer false (ne_eqb (length answer) 8 h))

module _ {ws : List ℕ} {asked mode : ℕ} {K E P I : List ℕ} {scratch : ℕ} {K₁ E₁ P₁ I₁ : List ℕ} {p : Prepared} (S : Prepares ws asked mode K E P I scratch K₁ E₁ P₁ I₁ p) where
  -- the job loads where the number is 0
  pub prepared-none : p.refusal.number ≡ 0 → load_refusal ws asked mode (lent_by (arrays_of K E P) (length I) scratch) ≡ none
  prepared-none h = sym S.refusal ∙ ap (λ (n : ℕ). refusal_by n p.refusal) h

  some-by : (n : ℕ) (r : Refusal) → (n ≡ 0 → ⊥) → refusal_by n r ≡ some (refusal_of r)
  some-by zero r h = absurd (h refl)
  some-by (suc n) r h = refl

  pub prepared-some : (p.refusal.number ≡ 0 → ⊥) → load_refusal ws asked mode (lent_by (arrays_of K E P) (length I) scratch) ≡ some (refusal_of p.refusal)
  prepared-some h = sym S.refusal ∙ some-by p.refusal.number p.refusal h

  module _ (answer : List ℕ) (eight : length answer ≡ 8) where
    -- below 20
    pub entry-refused : (p.refusal.number ≡ 0 → ⊥) → left (refusal_words (refusal_of p.refusal) 0) (arrays_of K₁ E₁ P₁) ≡ entry ws asked mode (arrays_of K E P) (length I) scratch answer
    unfolding check
    entry-refused h =
        ap (left (refusal_words (refusal_of p.refusal) 0)) (S.kept h)
        ∙ ap (loaded (job_of ws) asked (is_strict mode) (arrays_of K E P)) (sym (prepared-some h))
        ∙ sym (entry-check ws asked mode (arrays_of K E P) (length I) scratch answer eight)

    module _ {K₂ E₂ P₂ I₂ : List ℕ} {g : Fill} {r : Refusal} {q : Proposition} (n : p.refusal.number ≡ 0)
        (D : Does K₁ E₁ P₁ I₁ p.fill K₂ E₂ P₂ I₂ g r q (check_proof (room_of K₁ P₁) (program_for ws) (proofs_for ws) (is_strict mode) asked (terms_in K₁ E₁ P₁ p.fill))) where
      abbrev s : List Term
      s = terms_in K₂ E₂ P₂ g

      job-outcome : outcome_of r q s ≡ check_proof (record { cells = length K; words = length P }) (job_of ws).program (job_of ws).proofs (is_strict mode) asked (job_of ws).terms
      job-outcome =
          let T = S.started n in
          D.outcome ∙ (λ i. check_proof (record { cells = T.len_k i; words = T.len_p i }) (job-program ws i) (job-proofs ws i) (is_strict mode) asked (T.terms i))

      entry-outcome : checked_by (job_of ws) asked (arrays_of K E P) (outcome_of r q s) ≡ entry ws asked mode (arrays_of K E P) (length I) scratch answer
      unfolding check checked
      entry-outcome =
          ap (checked_by (job_of ws) asked (arrays_of K E P)) job-outcome
          ∙ ap (loaded (job_of ws) asked (is_strict mode) (arrays_of K E P)) (sym (prepared-none n))
          ∙ sym (entry-check ws asked mode (arrays_of K E P) (length I) scratch answer eight)

      over-lent : stored s (arrays_of K E P) ≡ arrays_of K₂ E₂ P₂
      over-lent = sym (grown-stored (S.started n) D.grown)

      -- the proof passes
      pub entry-passed : r.number ≡ 0 → left (0 ∷ g.cells ∷ q.lhs ∷ q.rhs ∷ height (program_for ws) (proofs_for ws) asked ∷ 0 ∷ 0 ∷ 0 ∷ []) (arrays_of K₂ E₂ P₂) ≡ entry ws asked mode (arrays_of K E P) (length I) scratch answer
      entry-passed h =
          (λ i. left (0 ∷ sym (terms-length K₂ E₂ P₂ g) i ∷ q.lhs ∷ q.rhs ∷ height (job-program ws i) (job-proofs ws i) asked ∷ 0 ∷ 0 ∷ 0 ∷ []) (sym over-lent i))
          ∙ ap (checked_by (job_of ws) asked (arrays_of K E P)) (sym (ok_of r q s h))
          ∙ entry-outcome

      -- the proof is refused
      pub entry-stopped : (r.number ≡ 0 → ⊥) → left (refusal_words (refusal_of r) g.cells) (arrays_of K₂ E₂ P₂) ≡ entry ws asked mode (arrays_of K E P) (length I) scratch answer
      entry-stopped h =
          (λ i. left (refusal_words (refusal_of r) (sym (terms-length K₂ E₂ P₂ g) i)) (sym over-lent i))
          ∙ ap (checked_by (job_of ws) asked (arrays_of K E P)) (sym (refused-of r q s h))
          ∙ entry-outcome
