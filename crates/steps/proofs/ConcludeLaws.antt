-- What a step concludes, by its justification.
use mathlib.Core.Path.{◌≡◌, refl, sym, ap, ap₂, subst, ◌∙◌}
use mathlib.Core.Bool.{true}
use mathlib.Core.List.{List, [], ◌∷◌}
use Prim.Native.Nat.{ℕ, ◌+◌, ◌-◌, ◌<◌}
use native.Mathlib.Omega.{arith}
use lib.ListN.{length, get_or, take, drop}
use Rattle.model.specs.Layout.{sizes_of}
use types.Run.{OneOf, miss}
use denote.Enum.Declared.{tag_of}
use Rattle.model.specs.Term.{Term, Extends}
use Rattle.model.specs.Program as program
use Rattle.model.specs.Program.{Program, Binding}
use Rattle.model.specs.Check.{Outcome}
use Rattle.model.specs.Walk.{no_proof, claim_at}
use Rattle.model.proofs.Post.{post-result}
use Rattle.model.proofs.Store.{extends-same}
use Rattle.index.specs.declared.Fill.{Fill}
use Rattle.decode.specs.View.{proposition_of, justification_of}
use Rattle.decode.specs.declared.Proposition.{Proposition}
use Rattle.decode.specs.declared.Justification.{Justification}
use Rattle.decode.specs.declared.MergeStep.{MergeStep}
use Rattle.decode.specs.declared.CongrStep.{CongrStep}
use Rattle.decode.specs.contracts.Justification.{the_type}
use Rattle.termdag.specs.Store.{terms_in, room_of}
use Rattle.outcome.specs.Does.{refusal, Does}
use Rattle.outcome.specs.declared.Refusal.{Refusal}
use Rattle.outcome.specs.declared.Checked.{Checked}
use Rattle.outcome.proofs.Laws.{ok_of, does-here, grown-same}
use Rattle.program.specs.Ready.{program_for}
use Rattle.program.specs.Read.{proofs_for, premises_for, pairs_for, ClaimAt, JustificationAt}
use Rattle.evaluate.specs.Evaluation.{Sane, Checks}
use Rattle.actions.specs.Acting.{Standing}
use Rattle.merges.specs.Merge.{merge_step}
use Rattle.merges.proofs.Keeping.{merge_keeps}
use Rattle.steps.specs.Concluding.{congr_step, concludes}
use Rattle.marks.specs.Marks.{words_for}
use Rattle.marks.proofs.Bits.{words-hold, words-few}
use Rattle.steps.specs.Step.{is_plain, PlainStep, SecondPart, Prepared, Concludes}
use Rattle.steps.proofs.JobLaws.{first-long, claim-inside, second-long, part_same}
use Rattle.steps.proofs.Keeping.{congr-keeps}

-- the arm of the steps that add no term
pub plain-arm : (j : Justification) → OneOf (0 ∷ 1 ∷ 3 ∷ 4 ∷ 6 ∷ 7 ∷ []) (tag_of the_type j) → is_plain j ≡ true
plain-arm Justification.Fiat h = refl
plain-arm (Justification.Rule s) h = refl
plain-arm (Justification.MergeFn s) h = absurd (miss (0 ∷ 1 ∷ 3 ∷ 4 ∷ 6 ∷ 7 ∷ []) 2 tt h)
plain-arm (Justification.Trans a b) h = refl
plain-arm (Justification.Sym a) h = refl
plain-arm (Justification.Congr s) h = absurd (miss (0 ∷ 1 ∷ 3 ∷ 4 ∷ 6 ∷ 7 ∷ []) 5 tt h)
plain-arm (Justification.ContainerNormalize a) h = refl
plain-arm Justification.Eval h = refl

-- the claims that were read
pub congr-as : (p : ℕ) (q : program.Proposition) (i : ℕ) {a b c d : program.Proposition} {k e l ix : List ℕ} {f : Fill} {k₁ e₁ l₁ ix₁ : List ℕ} {f₁ : Fill} {r : Refusal} → a ≡ c → b ≡ d
    → Does k e l ix f k₁ e₁ l₁ ix₁ f₁ r tt (congr_step (room_of k l) p q a i b (terms_in k e l f)) → Does k e l ix f k₁ e₁ l₁ ix₁ f₁ r tt (congr_step (room_of k l) p q c i d (terms_in k e l f))
congr-as p q i {k = k} {e = e} {l = l} {ix = ix} {f = f} {k₁ = k₁} {e₁ = e₁} {l₁ = l₁} {ix₁ = ix₁} {f₁ = f₁} {r = r} g h D =
    subst (Does k e l ix f k₁ e₁ l₁ ix₁ f₁ r tt) (ap₂ (λ (x y : program.Proposition). congr_step (room_of k l) p q x i y (terms_in k e l f)) g h) D

pub merge-as : (prog : Program) (p : ℕ) (q : program.Proposition) (function : ℕ) {a b c d : program.Proposition} {k e l ix : List ℕ} {f : Fill} {k₁ e₁ l₁ ix₁ : List ℕ} {f₁ : Fill} {r : Refusal} {m : List ℕ} → a ≡ c → b ≡ d
    → Checks k e l ix f k₁ e₁ l₁ ix₁ f₁ r tt m (merge_step (room_of k l) prog p q function a b (terms_in k e l f)) → Checks k e l ix f k₁ e₁ l₁ ix₁ f₁ r tt m (merge_step (room_of k l) prog p q function c d (terms_in k e l f))
merge-as prog p q function {k = k} {e = e} {l = l} {ix = ix} {f = f} {k₁ = k₁} {e₁ = e₁} {l₁ = l₁} {ix₁ = ix₁} {f₁ = f₁} {r = r} {m = m} g h D =
    subst (Checks k e l ix f k₁ e₁ l₁ ix₁ f₁ r tt m) (ap₂ (λ (x y : program.Proposition). merge_step (room_of k l) prog p q function x y (terms_in k e l f)) g h) D

-- what a merge may be handed
pub merge-stands : {job F : List ℕ} {k e l ix : List ℕ} {f : Fill} {memo W : List ℕ} {n : ℕ} → n ≡ words_for (length k) → Prepared job F k e l ix f memo W
    → Standing job F [] k e l ix f memo (take (length k + n - length k) (drop (length k) W))
merge-stands {k = k} {W = W} {n = n} q S = record {
  ready = S.ready;
  keyed = S.keyed;
  indexed = S.indexed;
  sane = S.sane;
  fits = S.fits;
  past = S.past;
  cells = rw (second-long (length k) n W S.long (words-few (length k) q)) (words-hold (length k) q);
}

-- the step of proof p
module _ (job F : List ℕ) (U k e l ix : List ℕ) (f : Fill) (memo W : List ℕ) (p : ℕ) (S : Prepared job F k e l ix f memo W) {n : ℕ} (np : n ≡ p) (q : Proposition) (j : Justification)
    (C : ClaimAt job n q) (J : JustificationAt job n j) where
  abbrev prog : Program
  prog = program_for job

  abbrev proofs : List program.Proof
  proofs = proofs_for job

  abbrev s : List Term
  s = terms_in k e l f

  abbrev whole : List program.Proposition → Outcome (Unit {0})
  whole ps = concludes (room_of k l) prog proofs ps p (claim_at proofs p) (get_or proofs p no_proof).justification s

  pub claim-here : ClaimAt job p q
  claim-here = subst (λ (i : ℕ). ClaimAt job i q) np C

  pub justified-here : JustificationAt job p j
  justified-here = subst (λ (i : ℕ). JustificationAt job i j) np J

  is_whole : (ps : List program.Proposition) → concludes (room_of k l) prog proofs ps p (proposition_of q) (justification_of j (premises_for job p) (pairs_for job p)) s ≡ whole ps
  is_whole ps = ap₂ (λ (x : program.Proposition) (y : program.Justification). concludes (room_of k l) prog proofs ps p x y s) claim-here.is justified-here.is

  is-by : (ps : List program.Proposition) (g : Justification) → j ≡ g → concludes (room_of k l) prog proofs ps p (proposition_of q) (justification_of g (premises_for job p) (pairs_for job p)) s ≡ whole ps
  is-by ps g d = ap (λ (x : Justification). concludes (room_of k l) prog proofs ps p (proposition_of q) (justification_of x (premises_for job p) (pairs_for job p)) s) (sym d) ∙ is_whole ps

  pub concludes-plain : {r : Refusal} → is_plain j ≡ true → PlainStep job U (take (length k) W) s p (proposition_of q) j r
      → Concludes job U k e l ix f W p k e l ix (record { refusal = r; value = 0; fill = f }) memo W
  concludes-plain h D = record {
    grown = grown-same S.indexed;
    does = λ ps g. does-here S.indexed (D.outcome (room_of k l) ps g h ∙ is_whole ps);
    past = λ _. S.past;
    grows = λ _. extends-same;
    sane = λ _ σ w. w;
    scratch = part_same (length k) W;
  }

  pub concludes-merge : {t : MergeStep} (c : Checked) {k₁ e₁ l₁ ix₁ memo₁ W₁ : List ℕ} → j ≡ Justification.MergeFn t
      → Checks k e l ix f k₁ e₁ l₁ ix₁ c.fill c.refusal tt memo₁ (merge_step (room_of k l) prog p (proposition_of q) t.function (claim_at proofs t.old_proof) (claim_at proofs t.new_proof) s)
      → SecondPart (length k) W W₁ → Concludes job U k e l ix f W p k₁ e₁ l₁ ix₁ c memo₁ W₁
  unfolding concludes
  concludes-merge {t} c {k₁} {e₁} {l₁} {ix₁} {memo₁} {W₁} d M w =
      let kept : c.refusal.number ≡ 0 → (σ : List Binding) → Sane prog σ s → Extends s (terms_in k₁ e₁ l₁ c.fill) × Sane prog σ (terms_in k₁ e₁ l₁ c.fill) =
      λ u σ v. post-result (merge_keeps prog σ (room_of k l) p (proposition_of q) t.function (claim_at proofs t.old_proof) (claim_at proofs t.new_proof) v)
      (sym M.does.outcome ∙ ok_of c.refusal tt (terms_in k₁ e₁ l₁ c.fill) u) in
      record {
        grown = M.does.grown;
        does = λ ps g. subst (Does k e l ix f k₁ e₁ l₁ ix₁ c.fill c.refusal tt) (is-by ps (Justification.MergeFn t) d) M.does;
        past = M.past;
        grows = λ u. (kept u [] S.sane).0;
        sane = λ u σ v. (kept u σ v).1;
        scratch = w;
      }

  pub concludes-congr : {t : CongrStep} (c : Checked) {k₁ e₁ l₁ ix₁ : List ℕ} → j ≡ Justification.Congr t → t.child_proof < (sizes_of job).proofs
      → Does k e l ix f k₁ e₁ l₁ ix₁ c.fill c.refusal tt (congr_step (room_of k l) p (proposition_of q) (claim_at proofs t.proof) t.child_index (claim_at proofs t.child_proof) s)
      → Concludes job U k e l ix f W p k₁ e₁ l₁ ix₁ c memo W
  unfolding concludes
  concludes-congr {t} c {k₁} {e₁} {l₁} {ix₁} d h M =
      let inside : (claim_at proofs t.child_proof).rhs < length s = let i = claim-inside S.ready t.child_proof h in let m = first-long S.ready S.terms in omega arith in
      let kept : c.refusal.number ≡ 0 → (σ : List Binding) → Sane prog σ s → Extends s (terms_in k₁ e₁ l₁ c.fill) × Sane prog σ (terms_in k₁ e₁ l₁ c.fill) =
      λ u σ v. post-result (congr-keeps prog σ (room_of k l) p (proposition_of q) (claim_at proofs t.proof) t.child_index (claim_at proofs t.child_proof) v inside)
      (sym M.outcome ∙ ok_of c.refusal tt (terms_in k₁ e₁ l₁ c.fill) u) in
      record {
        grown = M.grown;
        does = λ ps g. subst (Does k e l ix f k₁ e₁ l₁ ix₁ c.fill c.refusal tt) (is-by ps (Justification.Congr t) d) M;
        past = λ _. S.past;
        grows = λ u. (kept u [] S.sane).0;
        sane = λ u σ v. (kept u σ v).1;
        scratch = part_same (length k) W;
      }
