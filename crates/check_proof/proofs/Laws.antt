-- The global actions, then the walk from no proof checked.
use mathlib.Core.Path.{◌≡◌, refl, sym, ap, subst, subst⁻¹, ◌∙◌}
use mathlib.Core.Bool.{Bool}
use mathlib.Core.Logic.{inl}
use mathlib.Core.List.{List, [], ◌++◌}
use Prim.Native.Nat.{ℕ, suc, ◌+◌, ◌<◌, ◌≤◌}
use native.Mathlib.Omega.{arith}
use lib.Dec.{ltb}
use borrow.Author.Tests.{ltb-false}
use lib.ListN.{length, get_or, take, drop, length-drop, length-append, length-replicate, get_or-append}
use lib.Seq.{get_or-drop, take-take, take_at, drop_at, length-take-le}
use borrow.Rule.Slice.PartMut.{mid_of, put_mid, same_len_mid, take_put}
use Rattle.model.specs.Layout.{sizes_of}
use Rattle.model.specs.Term.{Term}
use Rattle.model.specs.Program as program
use Rattle.model.specs.Program.{Binding, Program, Proof}
use Rattle.model.specs.Decode.{read_bindings}
use Rattle.model.specs.Check.{Check, and_then, ◌>>=◌, pure, Room}
use Rattle.model.specs.Action.{ActionContext}
use Rattle.model.specs.Walk.{claim_at, new_context, check_proof_with_context, check_proof}
use Rattle.model.proofs.Store.{extends-then}
use Rattle.index.specs.declared.Fill.{Fill}
use Rattle.termdag.specs.Store.{terms_in, room_of}
use Rattle.memo.specs.Memo.{Past}
use Rattle.outcome.specs.Does.{Does}
use Rattle.outcome.specs.declared.Refusal.{Refusal}
use Rattle.outcome.proofs.Laws.{does-then, does-stop, does-map}
use Rattle.marks.specs.Marks.{zeros}
use Rattle.marks.proofs.Bits.{zeros-word}
use Rattle.program.specs.Ready.{program_for}
use Rattle.program.specs.Read.{proofs_for}
use Rattle.program.proofs.Proving.{proofs-long}
use Rattle.chains.specs.Chains.{Within}
use Rattle.lookups.specs.Keyed.{Keyed}
use Rattle.normal_form.specs.Search.{Searched}
use Rattle.evaluate.specs.Evaluation.{Sane}
use Rattle.context.specs.Contexts.{GlobalPairs, Context}
use Rattle.context.specs.declared.Globals.{Globals}
use Rattle.turns.specs.Walking.{Flags, Heights, Ground, Walks, context_of}
use Rattle.walk.proofs.Justifying.{fuel-for}
use Rattle.check_proof.specs.Checking.{Given}

-- the offences stay where words behind them are written
pub searched-kept : {J : List ℕ} {m : ℕ} {F F' : List ℕ} → (sizes_of J).expressions ≤ 4096 → Within 4096 m F F' → Searched J F → Searched J F'
searched-kept {J} {F = F} {F' = F'} h w S = record {
  long = omega (arith, S.long, w.even);
  low = λ e l. rw (same e l) (S.low e l);
  says = λ e l. rw (same e l) (S.says e l);
  calls = λ e l. rw (same e l) (S.calls e l);
}
  where
    same : (e : ℕ) → e < (sizes_of J).expressions → get_or F' e 0 ≡ get_or F e 0
    same e l = w.same e (inl (omega arith))

-- no proof is checked yet
pub flags-none : (W : List ℕ) (c k n m : ℕ) → c + c ≤ length W → n ≤ m → Flags c (put_mid (c + c) k W (zeros m)) n []
flags-none W c k n m h b = record { is = λ p l. ap (ltb 0) (word p l) }
  where
    behind : drop (c + c) (put_mid (c + c) k W (zeros m)) ≡ zeros m ++ drop k (drop (c + c) W)
    behind = drop_at (take (c + c) W) (zeros m ++ drop k (drop (c + c) W)) (c + c) (length-take-le (c + c) W h)

    word : (p : ℕ) → p < n → get_or (put_mid (c + c) k W (zeros m)) (c + c + p) 0 ≡ 0
    word p l = sym (get_or-drop (c + c) (put_mid (c + c) k W (zeros m)) p 0) ∙ ap (λ (x : List ℕ). get_or x p 0) behind
        ∙ get_or-append (zeros m) (drop k (drop (c + c) W)) 0 p (omega (arith, length-replicate {A = ℕ} m 0)) ∙ zeros-word m p

-- so no height is noted
pub height-none : {c : ℕ} {W : List ℕ} {n p : ℕ} → Flags c W n [] → p < n → get_or W (c + c + p) 0 ≡ 0
height-none {c} {W} {n} {p} w l = let x = ltb-false 0 (get_or W (c + c + p) 0) (w.is p l) in omega arith

pub heights-none : {J : List ℕ} {c : ℕ} {W : List ℕ} → Flags c W (sizes_of J).proofs [] → Heights J c W
heights-none w = record { is = λ p l z. let x = height-none w l in absurd (omega arith) }

-- the marks of the global pairs stay
pub marks-kept : (M R Z : List ℕ) (c k : ℕ) → length M ≡ c → c + c ≤ length (M ++ R) → take c (put_mid (c + c) k (M ++ R) Z) ≡ M
marks-kept M R Z c k l h =
    sym (take-take c (c + c) (put_mid (c + c) k (M ++ R) Z) (omega arith)) ∙ ap (take c) (take_put (c + c) k (M ++ R) Z h) ∙ take-take c (c + c) (M ++ R) (omega arith) ∙ take_at M R c l

module _ {J : List ℕ} {k e p ix : List ℕ} {f : Fill} {W : List ℕ} (g : Given J k e p ix f W) (strict : Bool) (asked : ℕ) (h : asked < (sizes_of J).proofs)
    {k₁ e₁ p₁ ix₁ : List ℕ} {r : Globals} {memo₁ m₁ T U : List ℕ} (C : Context (program_for J) k e p ix f k₁ e₁ p₁ ix₁ r memo₁ m₁ T U) where
  abbrev prog : Program
  prog = program_for J

  abbrev proofs : List Proof
  proofs = proofs_for J

  abbrev next : Room → ActionContext → Check program.Proposition
  next room ctx = check_proof_with_context room prog proofs ctx strict (suc (length proofs)) asked [] >>= λ _. pure (claim_at proofs asked)

  is-check : (room : Room) (s : List Term) → and_then (new_context room prog s) (next room) ≡ check_proof room prog proofs strict asked s
  unfolding check_proof
  is-check room s = refl

  pub check-stops : (r.refusal.number ≡ 0 → ⊥) → Does k e p ix f k₁ e₁ p₁ ix₁ r.fill r.refusal (claim_at proofs asked) (check_proof (room_of k p) prog proofs strict asked (terms_in k e p f))
  check-stops n = subst (Does k e p ix f k₁ e₁ p₁ ix₁ r.fill r.refusal (claim_at proofs asked)) (is-check (room_of k p) (terms_in k e p f)) (does-stop (claim_at proofs asked) (next (room_of k p)) C.does n)

  module _ (n : r.refusal.number ≡ 0) {G : List ℕ} (gq : G ≡ drop r.bindings T) where
    same-context : context_of G C.context.pairs ≡ C.context
    same-context = ap {B = ActionContext} (λ (σ : List Binding). record { bindings = σ; pairs = C.context.pairs }) (ap read_bindings gq ∙ sym (C.bindings n))

    pub check-ground : {F memo W₁ : List ℕ} → Searched J F → Keyed J F → memo ≡ memo₁ → (sizes_of J).expressions + (sizes_of J).expressions < length memo → length W₁ ≡ length W → Flags (length k₁) W₁ (sizes_of J).proofs [] → Ground J F G k₁ e₁ p₁ ix₁ r.fill memo W₁
    check-ground {memo = memo} F K mq fits l_w fl = record {
      ready = g.ready;
      searched = F;
      keyed = K;
      indexed = C.does.grown.indexed;
      sane = subst⁻¹ (λ (σ : List Binding). Sane prog σ (terms_in k₁ e₁ p₁ r.fill)) (ap read_bindings gq ∙ sym (C.bindings n)) (C.sane n);
      terms = extends-then g.terms (C.grows n);
      fits = fits;
      past = subst⁻¹ Past mq (C.past n);
      long = let a = g.long in let b = C.does.grown.len_k in omega arith;
      heights = heights-none fl;
    }

    pub check-walks : {F W₁ k₂ e₂ p₂ ix₂ : List ℕ} {f₂ : Fill} {c : Refusal} {memo₂ W₂ : List ℕ} → take (length k₁) W₁ ≡ m₁ → Flags (length k₁) W₁ (sizes_of J).proofs []
        → Walks J F G (take r.unions U) k₁ e₁ p₁ ix₁ r.fill W₁ k₂ e₂ p₂ ix₂ f₂ c memo₂ W₂ (λ d. d) (λ room ps done. check_proof_with_context room prog proofs (context_of G ps) strict (suc asked) asked done)
        → Does k e p ix f k₂ e₂ p₂ ix₂ f₂ c (claim_at proofs asked) (check_proof (room_of k p) prog proofs strict asked (terms_in k e p f))
    check-walks {W₁ = W₁} {k₂ = k₂} {e₂ = e₂} {p₂ = p₂} {ix₂ = ix₂} {f₂ = f₂} {c = c} mq fl w =
        let x = w.walked C.context.pairs [] (subst⁻¹ (GlobalPairs C.context.pairs (take r.unions U)) mq (C.pairs n)) fl in
        subst (Does k e p ix f k₂ e₂ p₂ ix₂ f₂ c (claim_at proofs asked)) (is-check (room_of k p) (terms_in k e p f))
        (does-then next C.does n (does-map (λ _. claim_at proofs asked) (claim_at proofs asked)
        (subst (Does k₁ e₁ p₁ ix₁ r.fill k₂ e₂ p₂ ix₂ f₂ c x.done) (fuel ∙ ap (λ (ctx : ActionContext). check_proof_with_context (room_of k₁ p₁) prog proofs ctx strict (suc (length proofs)) asked [] (terms_in k₁ e₁ p₁ r.fill)) same-context) x.does)
        (λ _. refl)))
      where
        fuel : check_proof_with_context (room_of k₁ p₁) prog proofs (context_of G C.context.pairs) strict (suc asked) asked [] (terms_in k₁ e₁ p₁ r.fill)
            ≡ check_proof_with_context (room_of k₁ p₁) prog proofs (context_of G C.context.pairs) strict (suc (length proofs)) asked [] (terms_in k₁ e₁ p₁ r.fill)
        fuel = fuel-for g.ready (context_of G C.context.pairs) strict (room_of k₁ p₁) asked (suc (length proofs)) (omega (arith, proofs-long J)) [] (terms_in k₁ e₁ p₁ r.fill)

-- a memo that is cleared
pub past-cleared : (n : ℕ) → Past (zeros n)
past-cleared n = record { each = λ k. let a = zeros-word n (k + k + 1) in let b = zeros-word n 0 in omega arith }

-- scratch at the walk's start: the marks of the global pairs, and no proof checked, by k words
module _ (W M Z : List ℕ) (c l k : ℕ) (l_m : length M ≡ c) (h : c + c + k ≤ length (M ++ drop c W)) (q : l ≡ c) where
  abbrev W₁ : List ℕ
  W₁ = put_mid (c + c) k (M ++ drop c W) Z

  pub start-marks : take l W₁ ≡ M
  start-marks = ap (λ (n : ℕ). take n W₁) q ∙ marks-kept M (drop c W) Z c k l_m (omega arith)

  pub start-flags : {n : ℕ} → n ≤ k → Z ≡ zeros (length (mid_of (c + c) k (M ++ drop c W))) → Flags l W₁ n []
  start-flags {n} b e =
      let m : length (mid_of (c + c) k (M ++ drop c W)) ≡ k = length-take-le k (drop (c + c) (M ++ drop c W)) (simp length-drop (omega arith)) in
      subst⁻¹ (λ (j : ℕ). Flags j W₁ n []) q
      (subst⁻¹ (λ (X : List ℕ). Flags c (put_mid (c + c) k (M ++ drop c W) X) n []) e (flags-none (M ++ drop c W) c k n (length (mid_of (c + c) k (M ++ drop c W))) (omega arith) (omega (arith, m))))

  pub start-long : c ≤ length W → length Z ≡ length (mid_of (c + c) k (M ++ drop c W)) → length W₁ ≡ length W
  start-long b e = same_len_mid (c + c) k (M ++ drop c W) Z e ∙ simp (length-append, length-drop) (omega arith)
