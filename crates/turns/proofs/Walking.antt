-- One check that walks after another, and what happens in between.
use mathlib.Core.Path.{◌≡◌, refl, sym, ap, subst, subst⁻¹, ◌∙◌}
use mathlib.Core.Bool.{Bool, true, false, ◌||◌}
use mathlib.Core.List.{List, ◌∷◌}
use Prim.Native.Nat.{ℕ, ◌+◌, ◌<◌, ◌≤◌}
use native.Mathlib.Omega.{arith}
use lib.Dec.{eqb, ltb}
use borrow.Author.Tests.{eqb-true, eqb-false, eq-eqb, ne_eqb, lt-ltb}
use lib.ListN.{length, get_or, set, take}
use lib.Seq.{get_or-set_same, get_or-set_other}
use Rattle.model.specs.Layout.{sizes_of}
use Rattle.model.specs.Program.{Proposition}
use Rattle.model.specs.Decode.{read_bindings}
use Rattle.model.specs.Check.{Check, and_then, Room}
use Rattle.model.specs.Walk.{member}
use Rattle.model.specs.Height.{height}
use Rattle.model.specs.Term.{Extends}
use Rattle.model.proofs.Store.{extends-same, extends-then}
use Rattle.index.specs.declared.Fill.{Fill}
use Rattle.termdag.specs.Store.{terms_in, room_of}
use Rattle.memo.specs.Memo.{Past}
use Rattle.outcome.specs.Does.{passed, Grown, Does}
use Rattle.outcome.specs.declared.Refusal.{Refusal}
use Rattle.outcome.proofs.Laws.{ok_of, grown-same, grown-then, does-then, does-stop}
use Rattle.program.specs.Ready.{program_for}
use Rattle.program.specs.Read.{proofs_for}
use Rattle.evaluate.specs.Evaluation.{Sane}
use Rattle.context.specs.Contexts.{GlobalPairs}
use Rattle.turns.specs.Walking.{Flags, Heights, Ground, After, Walks}

after_same : {J : List ℕ} {F G k e p ix : List ℕ} {f : Fill} {memo W : List ℕ} → Ground J F G k e p ix f memo W → After J F G k e p ix f W k e p ix f memo W
after_same g = record { ground = g; grows = extends-same; globals = refl }

after_then : {J : List ℕ} {F G k e p ix : List ℕ} {f : Fill} {W k₁ e₁ p₁ ix₁ : List ℕ} {f₁ : Fill} {memo₁ W₁ k₂ e₂ p₂ ix₂ : List ℕ} {f₂ : Fill} {memo₂ W₂ : List ℕ} → length k₁ ≡ length k
    → After J F G k e p ix f W k₁ e₁ p₁ ix₁ f₁ memo₁ W₁ → After J F G k₁ e₁ p₁ ix₁ f₁ W₁ k₂ e₂ p₂ ix₂ f₂ memo₂ W₂ → After J F G k e p ix f W k₂ e₂ p₂ ix₂ f₂ memo₂ W₂
after_then {W₁ = W₁} {W₂ = W₂} l x y = record {
  ground = y.ground;
  grows = extends-then x.grows y.grows;
  globals = ap (λ (n : ℕ). take n W₂) (sym l) ∙ y.globals ∙ ap (λ (n : ℕ). take n W₁) l ∙ x.globals;
}

module _ {J : List ℕ} {F G U k e p ix : List ℕ} {f : Fill} {W : List ℕ} where
  -- a check that does not walk, and leaves everything as it is
  pub walks-here : {memo : List ℕ} {A : Type 0} {r : Refusal} {a : List ℕ → A} {o : Room → List Proposition → List ℕ → Check A} → Ground J F G k e p ix f memo W
      → ((ps : List Proposition) (done : List ℕ) → Flags (length k) W (sizes_of J).proofs done → Does k e p ix f k e p ix f r (a done) (o (room_of k p) ps done (terms_in k e p f)))
      → Walks J F G U k e p ix f W k e p ix f r memo W a o
  walks-here g d = record {
    grown = grown-same g.indexed;
    after = λ _. after_same g;
    walked = λ ps done x w. record { done = done; does = d ps done w; flags = λ _. w };
  }

  module _ {k₁ e₁ p₁ ix₁ : List ℕ} {f₁ : Fill} {memo₁ W₁ : List ℕ} where
    -- one after the other
    module _ {A B : Type 0} {r : Refusal} {a : List ℕ → A} {o : Room → List Proposition → List ℕ → Check A} (w : Walks J F G U k e p ix f W k₁ e₁ p₁ ix₁ f₁ r memo₁ W₁ a o) where
      pub walks-stop : (b : List ℕ → B) (c : Room → List Proposition → A → Check B) → (r.number ≡ 0 → ⊥)
          → Walks J F G U k e p ix f W k₁ e₁ p₁ ix₁ f₁ r memo₁ W₁ b (λ room ps done s. and_then (o room ps done s) (c room ps))
      walks-stop b c n = record {
        grown = w.grown;
        after = w.after;
        walked = λ ps done x y. let d = w.walked ps done x y in record { done = d.done; does = does-stop (b d.done) (c (room_of k p) ps) d.does n; flags = d.flags };
      }

      pub walks-then : {b : List ℕ → B} (c : Room → List Proposition → A → Check B) {k₂ e₂ p₂ ix₂ : List ℕ} {f₂ : Fill} {r₂ : Refusal} {memo₂ W₂ : List ℕ} → r.number ≡ 0
          → Walks J F G U k₁ e₁ p₁ ix₁ f₁ W₁ k₂ e₂ p₂ ix₂ f₂ r₂ memo₂ W₂ b (λ room ps done. c room ps (a done))
          → Walks J F G U k e p ix f W k₂ e₂ p₂ ix₂ f₂ r₂ memo₂ W₂ b (λ room ps done s. and_then (o room ps done s) (c room ps))
      walks-then c {W₂ = W₂} n v = record {
        grown = grown-then w.grown v.grown;
        after = λ u. after_then w.grown.len_k (w.after n) (v.after u);
        walked = λ ps done x y.
            let d = w.walked ps done x y in
            let x₁ : GlobalPairs ps U (take (length k₁) W₁) = subst⁻¹ (GlobalPairs ps U) (ap (λ (m : ℕ). take m W₁) w.grown.len_k ∙ (w.after n).globals) x in
            let y₁ : Flags (length k₁) W₁ (sizes_of J).proofs d.done = subst⁻¹ (λ (m : ℕ). Flags m W₁ (sizes_of J).proofs d.done) w.grown.len_k (d.flags n) in
            let t = v.walked ps d.done x₁ y₁ in record {
              done = t.done;
              does = does-then (λ room. c room ps) d.does n t.does;
              flags = λ u. subst (λ (m : ℕ). Flags m W₂ (sizes_of J).proofs t.done) w.grown.len_k (t.flags u);
            };
      }

-- a check that walks, by another name of its outcome
pub walks-as : {J : List ℕ} {F G U k e p ix : List ℕ} {f : Fill} {W k₁ e₁ p₁ ix₁ : List ℕ} {f₁ : Fill} {memo₁ W₁ : List ℕ} {A : Type 0} {r : Refusal} {a : List ℕ → A}
    {o o' : Room → List Proposition → List ℕ → Check A} → ((ps : List Proposition) (done : List ℕ) → o (room_of k p) ps done (terms_in k e p f) ≡ o' (room_of k p) ps done (terms_in k e p f))
    → Walks J F G U k e p ix f W k₁ e₁ p₁ ix₁ f₁ r memo₁ W₁ a o → Walks J F G U k e p ix f W k₁ e₁ p₁ ix₁ f₁ r memo₁ W₁ a o'
walks-as {k = k} {e = e} {p = p} {ix = ix} {f = f} {k₁ = k₁} {e₁ = e₁} {p₁ = p₁} {ix₁ = ix₁} {f₁ = f₁} {r = r} {a = a} q w = record {
  grown = w.grown;
  after = w.after;
  walked = λ ps done x y. let d = w.walked ps done x y in record { done = d.done; does = subst (Does k e p ix f k₁ e₁ p₁ ix₁ f₁ r (a d.done)) (q ps done) d.does; flags = d.flags };
}

-- the flags of scratch whose last part is as it was
pub flags-same : {c : ℕ} {W W' : List ℕ} {n : ℕ} {done : List ℕ} → ((i : ℕ) → get_or W' (c + c + i) 0 ≡ get_or W (c + c + i) 0) → Flags c W n done → Flags c W' n done
flags-same h w = record { is = λ i l. ap (ltb 0) (h i) ∙ w.is i l }

-- and the heights
heights-same : {J : List ℕ} {c d : ℕ} {W W' : List ℕ} → d ≡ c → ((i : ℕ) → get_or W' (c + c + i) 0 ≡ get_or W (c + c + i) 0) → Heights J c W → Heights J d W'
heights-same {J} {c} {d} {W} {W'} q h w = subst⁻¹ (λ (m : ℕ). Heights J m W') q (record { is = λ i l u. h i ∙ w.is i l (subst (λ (x : ℕ). 0 < x) (h i) u) })

-- a proof's word is set, and the others stay
word_set : (c : ℕ) (W : List ℕ) (h : ℕ) {n : ℕ} (p : ℕ) → p < n → c + c + n ≤ length W → (Q : ℕ → ℕ → Type 0) → Q p h → ((i : ℕ) → (i ≡ p → ⊥) → i < n → Q i (get_or W (c + c + i) 0))
    → (i : ℕ) → i < n → Q i (get_or (set W (c + c + p) h) (c + c + i) 0)
word_set c W h p lt l Q same others i u = go (eqb i p) refl
  where
    go : (b : Bool) → eqb i p ≡ b → Q i (get_or (set W (c + c + p) h) (c + c + i) 0)
    go true q = subst⁻¹ (λ (m : ℕ). Q m (get_or (set W (c + c + p) h) (c + c + m) 0)) (eqb-true i p q) (subst⁻¹ (Q p) (get_or-set_same W (c + c + p) h 0 (omega arith)) same)
    go false q = let j = eqb-false i p q in subst⁻¹ (Q i) (get_or-set_other W (c + c + p) (c + c + i) h 0 (λ y. j (omega arith))) (others i j u)

-- a proof that is checked, and its height
module _ {c : ℕ} {W : List ℕ} {n h : ℕ} (p : ℕ) (lt : p < n) (l : c + c + n ≤ length W) where
  pub flags-set : {done : List ℕ} → 0 < h → Flags c W n done → Flags c (set W (c + c + p) h) n (p ∷ done)
  flags-set {done} z w = record {
    is = word_set c W h p lt l (λ i x. ltb 0 x ≡ (eqb i p || member i done))
        (lt-ltb 0 h z ∙ ap (λ (b : Bool). b || member p done) (sym (eq-eqb p p refl)))
        (λ i j u. w.is i u ∙ ap (λ (b : Bool). b || member i done) (sym (ne_eqb i p j)));
  }

  pub heights-set : {J : List ℕ} → n ≡ (sizes_of J).proofs → h ≡ height (program_for J) (proofs_for J) p → Heights J c W → Heights J c (set W (c + c + p) h)
  heights-set {J} m e w = record {
    is = λ i u. word_set c W h p lt l (λ k x. 0 < x → x ≡ height (program_for J) (proofs_for J) k) (λ _. e) (λ k j v. w.is k (omega arith)) i (omega arith);
  }

-- a check that passed
pub walks-passed : {J : List ℕ} {F G U k e p ix : List ℕ} {f : Fill} {W k₁ e₁ p₁ ix₁ : List ℕ} {f₁ : Fill} {memo₁ W₁ : List ℕ} {A : Type 0} {r : Refusal} {a : List ℕ → A} {o : Room → List Proposition → List ℕ → Check A}
    → r.number ≡ 0 → Walks J F G U k e p ix f W k₁ e₁ p₁ ix₁ f₁ r memo₁ W₁ a o → Walks J F G U k e p ix f W k₁ e₁ p₁ ix₁ f₁ passed memo₁ W₁ a o
walks-passed {k₁ = k₁} {e₁ = e₁} {p₁ = p₁} {ix₁ = ix₁} {f₁ = f₁} {r = r} {a = a} n w = record {
  grown = w.grown;
  after = λ _. w.after n;
  walked = λ ps done x y. let d = w.walked ps done x y in record {
    done = d.done;
    does = record { outcome = sym (ok_of r (a d.done) (terms_in k₁ e₁ p₁ f₁) n) ∙ d.does.outcome; grown = d.does.grown };
    flags = λ _. d.flags n;
  };
}

-- what is handed on
pub ground-after : {J : List ℕ} {F G k e p ix : List ℕ} {f : Fill} {memo W k₁ e₁ p₁ ix₁ : List ℕ} {f₁ : Fill} {memo₁ W₁ : List ℕ} → Ground J F G k e p ix f memo W
    → Grown k e p ix f k₁ e₁ p₁ ix₁ f₁ → Extends (terms_in k e p f) (terms_in k₁ e₁ p₁ f₁) → Sane (program_for J) (read_bindings G) (terms_in k₁ e₁ p₁ f₁) → Past memo₁ → length memo₁ ≡ length memo → length W₁ ≡ length W
    → ((i : ℕ) → get_or W₁ (length k + length k + i) 0 ≡ get_or W (length k + length k + i) 0) → Ground J F G k₁ e₁ p₁ ix₁ f₁ memo₁ W₁
ground-after g w x s q a b back = record {
  ready = g.ready;
  searched = g.searched;
  keyed = g.keyed;
  indexed = w.indexed;
  sane = s;
  terms = extends-then g.terms x;
  fits = let u = g.fits in omega arith;
  past = q;
  long = let u = g.long in let v = w.len_k in omega arith;
  heights = heights-same w.len_k back g.heights;
}
