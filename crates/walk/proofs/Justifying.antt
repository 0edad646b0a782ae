-- A rule's step, any other step, and the walk itself.
use mathlib.Core.Path.{◌≡◌, refl, sym, ap, subst, subst⁻¹, ◌∙◌}
use mathlib.Core.Bool.{Bool, true, false}
use mathlib.Core.List.Memᴰ
use mathlib.Core.List.{List, ◌∷◌, map, Memᴰ}
use Prim.Native.Nat.{ℕ, suc, ◌+◌, ◌<◌, ◌≤◌}
use native.Mathlib.Omega.{arith}
use lib.Dec.{ltb, lit<}
use borrow.Author.Tests.{ltb-true, ltb-false, lt-ltb}
use lib.ListN.{length, get_or, set, take, length-set, get_or-eq_default}
use lib.Seq.{take-set-le}
use Rattle.model.specs.Layout.{sizes_of}
use Rattle.model.specs.Term.{Term, Below}
use Rattle.model.specs.Program.{Proposition, Program, Proof, Justification, references}
use Rattle.model.specs.Decode.{read_proof}
use Rattle.model.specs.Check.{Outcome, Check, and_then, ◌>>=◌, pure, choose, Room}
use Rattle.model.specs.Walk.{no_proof, claim_at, member, check_justification, check_proof_with_context}
use Rattle.model.specs.Height.{followed, maximum, height}
use Rattle.model.specs.Load.{below}
use Rattle.model.specs.Action.{ActionContext}
use Rattle.model.proofs.Fuel.{walk-fuel}
use Rattle.model.proofs.Height.{height-most, height-is}
use Rattle.index.specs.declared.Fill.{Fill}
use Rattle.termdag.specs.Store.{terms_in, room_of}
use Rattle.outcome.specs.Does.{passed, refusal, Does}
use Rattle.outcome.specs.declared.Refusal.{Refusal}
use Rattle.outcome.proofs.Laws.{ok_of, does-here, does-stop}
use Rattle.program.specs.Ready.{Ready, program_for}
use Rattle.program.specs.Read.{proofs_for, proof_cell}
use Rattle.program.proofs.Reading.{refers}
use Rattle.model.proofs.Valid.{below_of}
use Rattle.program.proofs.Proving.{references-below, proofs-long, proof-for}
use Rattle.turns.specs.Walking.{Flags, Heights, Ground, Walks, context_of}
use Rattle.turns.proofs.Walking.{walks-here, flags-set, heights-set}

-- a proof's word
pub word_at : (W : List ℕ) (c : ℕ) {n p h : ℕ} → n ≡ p → h ≡ get_or W (c + c + n) 0 → h ≡ get_or W (c + c + p) 0
word_at W c i e = e ∙ ap (λ (m : ℕ). get_or W (c + c + m) 0) i

pub set_at : (W : List ℕ) (c h : ℕ) {W₁ : List ℕ} {n p : ℕ} → W₁ ≡ set W (c + c + n) h → n ≡ p → W₁ ≡ set W (c + c + p) h
set_at W c h e i = e ∙ ap (λ (m : ℕ). set W (c + c + m) h) i

-- references are lower
lower-for : {J : List ℕ} → Ready J → (p : ℕ) → Below p (references (get_or (proofs_for J) p no_proof).justification)
lower-for {J} R p = go (ltb p (sizes_of J).proofs) refl
  where
    go : (b : Bool) → ltb p (sizes_of J).proofs ≡ b → Below p (references (get_or (proofs_for J) p no_proof).justification)
    go true e x m =
        let h = ltb-true p (sizes_of J).proofs e in
        below_of p _ (ap (λ (x : Proof). below p (references x.justification)) (proof-for R p h) ∙ references-below (sizes_of J).terms p (read_proof (proof_cell J p)) (refers R 9 (lit< tt) p h)) x m
    go false e x m =
        let h = ltb-false p (sizes_of J).proofs e in
        let l = proofs-long J in
        absurd (Memᴰ.not-nil (subst (λ (q : Proof). Memᴰ x (references q.justification)) (get_or-eq_default (proofs_for J) no_proof {n = p} (omega arith)) m))

-- the height of a proof, by the proofs that it follows
pub height-for : {J : List ℕ} → Ready J → (p : ℕ) → p < (sizes_of J).proofs
    → height (program_for J) (proofs_for J) p ≡ suc (maximum (map (height (program_for J) (proofs_for J)) (followed (program_for J) (get_or (proofs_for J) p no_proof).justification)))
height-for {J} R p h = height-is (program_for J) (proofs_for J) (lower-for R) p (let l = proofs-long J in omega arith)

pub height-few : {J : List ℕ} → Ready J → (p : ℕ) → height (program_for J) (proofs_for J) p ≤ 4096
height-few {J} R p = let m = height-most (program_for J) (proofs_for J) (length (proofs_for J)) p in let l = proofs-long J in let h = R.held.limits.proofs in omega arith

module _ (J : List ℕ) (strict : Bool) (F G U : List ℕ) (p : ℕ) where
  abbrev prog : Program
  prog = program_for J

  abbrev proofs : List Proof
  proofs = proofs_for J

  abbrev claim : Proposition
  claim = claim_at proofs p

  abbrev sub : Room → List Proposition → ℕ → List ℕ → Check (List ℕ)
  sub room ps = check_proof_with_context room prog proofs (context_of G ps) strict p

  abbrev j : Justification
  j = (get_or proofs p no_proof).justification

  abbrev step_of : Room → List Proposition → List ℕ → Check (List ℕ)
  step_of room ps done = check_justification room prog proofs (context_of G ps) (sub room ps) strict p claim j done

  -- the walk
  abbrev walk_of : Room → List Proposition → List ℕ → Check (List ℕ)
  walk_of room ps done = check_proof_with_context room prog proofs (context_of G ps) strict (suc p) p done

  is-walk : (room : Room) (ps : List Proposition) (done : List ℕ) (s : List Term) (b : Bool) → member p done ≡ b
      → choose b (pure done) (step_of room ps done >>= λ d. pure (p ∷ d)) s ≡ walk_of room ps done s
  unfolding check_proof_with_context
  is-walk room ps done s b h = ap (λ (x : Bool). choose x (pure done) (step_of room ps done >>= λ d. pure (p ∷ d)) s) (sym h)

  module _ {k e q ix : List ℕ} {f : Fill} {memo W : List ℕ} (g : Ground J F G k e q ix f memo W) (lt : p < (sizes_of J).proofs) where
    pub walk-known : {h : ℕ} → h ≡ get_or W (length k + length k + p) 0 → (h ≡ 0 → ⊥) → Walks J F G U k e q ix f W k e q ix f passed memo W (λ d. d) walk_of × (h ≡ height prog proofs p)
    walk-known {h} w z = (
      walks-here g (λ ps done y. does-here g.indexed (is-walk (room_of k q) ps done (terms_in k e q f) true (sym (y.is p lt) ∙ ap (ltb 0) (sym w) ∙ lt-ltb 0 h (omega arith)))),
      w ∙ g.heights.is p lt (omega arith),
    )

    module _ (z : get_or W (length k + length k + p) 0 ≡ 0) {k₁ e₁ p₁ ix₁ : List ℕ} {f₁ : Fill} {r : Refusal} {memo₁ W₁ : List ℕ} (w : Walks J F G U k e q ix f W k₁ e₁ p₁ ix₁ f₁ r memo₁ W₁ (λ d. d) step_of) where
      unknown : ltb 0 (get_or W (length k + length k + p) 0) ≡ false
      unknown = ap (ltb 0) z

      pub walk-stops : (r.number ≡ 0 → ⊥) → Walks J F G U k e q ix f W k₁ e₁ p₁ ix₁ f₁ r memo₁ W₁ (λ d. d) walk_of
      walk-stops n = record {
        grown = w.grown;
        after = w.after;
        walked = λ ps done x y. let d = w.walked ps done x y in record {
          done = d.done;
          does = subst (Does k e q ix f k₁ e₁ p₁ ix₁ f₁ r d.done) (is-walk (room_of k q) ps done (terms_in k e q f) false (sym (y.is p lt) ∙ unknown)) (does-stop d.done (λ t. pure (p ∷ t)) d.does n);
          flags = λ u. absurd (n u);
        };
      }

      pub walk_ends : {W₂ : List ℕ} {h : ℕ} → r.number ≡ 0 → W₂ ≡ set W₁ (length k + length k + p) h → h ≡ height prog proofs p → Walks J F G U k e q ix f W k₁ e₁ p₁ ix₁ f₁ r memo₁ W₂ (λ d. d) walk_of
      walk_ends {W₂} {h} n s i = record {
        grown = w.grown;
        after = λ _. record {
          ground = ground-same (w.after n).ground;
          grows = (w.after n).grows;
          globals = ap (take (length k)) s ∙ take-set-le (length k) W₁ (length k + length k + p) h (omega arith) ∙ (w.after n).globals;
        };
        walked = λ ps done x y. let t = w.walked ps done x y in record {
          done = p ∷ t.done;
          does = subst (Does k e q ix f k₁ e₁ p₁ ix₁ f₁ r (p ∷ t.done)) (is-walk (room_of k q) ps done (terms_in k e q f) false (sym (y.is p lt) ∙ unknown)) (passed_on t.does);
          flags = λ _. subst⁻¹ (λ (X : List ℕ). Flags (length k) X (sizes_of J).proofs (p ∷ t.done)) s (flags-set p lt (long-enough (w.after n).ground) positive (t.flags n));
        };
      }
        where
          positive : 0 < h
          positive = let a = height-for g.ready p lt in omega arith

          len_w : length W₂ ≡ length W₁
          len_w = ap length s ∙ length-set W₁ (length k + length k + p) h

          long-enough : Ground J F G k₁ e₁ p₁ ix₁ f₁ memo₁ W₁ → length k + length k + (sizes_of J).proofs ≤ length W₁
          long-enough u = let a = u.long in let b = w.grown.len_k in omega arith

          noted : Ground J F G k₁ e₁ p₁ ix₁ f₁ memo₁ W₁ → Heights J (length k₁) W₂
          noted u = subst⁻¹ (λ (m : ℕ). Heights J m W₂) w.grown.len_k (subst⁻¹ (Heights J (length k)) s
              (heights-set p lt (long-enough u) refl i (subst (λ (m : ℕ). Heights J m W₁) w.grown.len_k u.heights)))

          ground-same : Ground J F G k₁ e₁ p₁ ix₁ f₁ memo₁ W₁ → Ground J F G k₁ e₁ p₁ ix₁ f₁ memo₁ W₂
          ground-same u = record { ready = u.ready; searched = u.searched; keyed = u.keyed; indexed = u.indexed; sane = u.sane; terms = u.terms; fits = u.fits; past = u.past; long = let a = u.long in let b = len_w in omega arith; heights = noted u }

          passed_on : {t : List ℕ} {o : Outcome (List ℕ)} → Does k e q ix f k₁ e₁ p₁ ix₁ f₁ r t o → Does k e q ix f k₁ e₁ p₁ ix₁ f₁ r (p ∷ t) (and_then o (λ d. pure (p ∷ d)))
          passed_on {t} {o} v = record {
            outcome = ok_of r (p ∷ t) (terms_in k₁ e₁ p₁ f₁) n ∙ ap (λ (x : Outcome (List ℕ)). and_then x (λ d. pure (p ∷ d))) (sym (ok_of r t (terms_in k₁ e₁ p₁ f₁) n) ∙ v.outcome);
            grown = v.grown;
          }

-- fuel beyond the number changes nothing
pub fuel-for : {J : List ℕ} → Ready J → (ctx : ActionContext) (strict : Bool) (room : Room) (x p : ℕ) → x < p → (done : List ℕ) (s : List Term)
    → check_proof_with_context room (program_for J) (proofs_for J) ctx strict (suc x) x done s ≡ check_proof_with_context room (program_for J) (proofs_for J) ctx strict p x done s
fuel-for {J} R ctx strict room x p h done s = walk-fuel room (program_for J) (proofs_for J) ctx (lower-for R) strict (suc x) p x (omega arith) h done s
