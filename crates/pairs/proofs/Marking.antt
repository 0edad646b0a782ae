-- What the marks of an evaluation's values stand for: its pairs.
use Prim.Native.Nat.{ℕ, zero, suc, ◌*◌, ◌/◌, ◌<◌, ◌≤◌}
use native.Mathlib.Omega.{arith}
use native.Mathlib.Nat.{not-suc-le-zero}
use mathlib.Core.Path.{◌≡◌, refl, sym, subst, ◌∙◌}
use mathlib.Core.Logic.{◌⊎◌, inl, inr, ◌↔◌}
use mathlib.Core.List.{List, Memᴰ}
use mathlib.Core.Bool.{Bool, true, false}
use lib.ListN.{length}
use lib.Dec.{eqb}
use borrow.Author.Tests.{eqb-true, eqb-false}
use Rattle.model.specs.Term.{Term}
use Rattle.model.specs.Program.{Proposition}
use Rattle.model.specs.Check.{ok, Check}
use Rattle.model.specs.Evaluate.{same}
use Rattle.memo.specs.Memo.{value_at, is_noted}
use Rattle.marks.specs.Covering.{Under, Marked, Covered}
use Rattle.marks.proofs.Bits.{with-marked, with-keeps, with_cases}
use Rattle.marks.proofs.Marking.{AddsMarks}
use Rattle.evaluate.specs.Value.{Reaches}
use Rattle.pairs.specs.Marking.{mark_if, mark_values}
use Rattle.pairs.proofs.Laws.{length-values}
use Rattle.evaluate.proofs.Settling.{same-value}
use Rattle.pairs.proofs.Values.{Valued}

-- t is the value of an expression below n that is noted
pub record NotedValue (memo : List ℕ) (n t : ℕ) : Type 0 where
  pub at : ℕ
  pub below : at < n
  pub noted : is_noted memo at ≡ true
  pub is : t ≡ value_at memo at

if-keeps : (b : Bool) (m : List ℕ) (x t : ℕ) → Marked m t → Marked (mark_if b m x) t
if-keeps true m x t h = with-keeps m x t h
if-keeps false m x t h = h

module _ (memo m : List ℕ) where
  pub values-keep : (n t : ℕ) → Marked m t → Marked (mark_values memo n m) t
  unfolding mark_values
  values-keep zero t h = h
  values-keep (suc k) t h = if-keeps (is_noted memo k) (mark_values memo k m) (value_at memo k) t (values-keep k t h)

  pub values-mark : (n k : ℕ) → k < n → is_noted memo k ≡ true → value_at memo k / 32 < length m → Marked (mark_values memo n m) (value_at memo k)
  unfolding mark_values
  values-mark zero k h b l = absurd (not-suc-le-zero h)
  values-mark (suc i) k h b l = go (eqb k i) refl (values-mark i k)
    where
      here : Marked (mark_if (is_noted memo k) (mark_values memo i m) (value_at memo k)) (value_at memo k)
      here = rw b (with-marked (mark_values memo i m) (value_at memo k) (rw (length-values memo i m) l))

      go : (d : Bool) → eqb k i ≡ d → (k < i → is_noted memo k ≡ true → value_at memo k / 32 < length m → Marked (mark_values memo i m) (value_at memo k))
          → Marked (mark_if (is_noted memo i) (mark_values memo i m) (value_at memo i)) (value_at memo k)
      go true e r = subst (λ (j : ℕ). Marked (mark_if (is_noted memo j) (mark_values memo i m) (value_at memo j)) (value_at memo k)) (eqb-true k i e) here
      go false e r = let ne : k ≡ i → ⊥ = eqb-false k i e in
          if-keeps (is_noted memo i) (mark_values memo i m) (value_at memo i) (value_at memo k) (r (omega arith) b l)

  pub values-cases : (n t : ℕ) → Marked (mark_values memo n m) t → NotedValue memo n t ⊎ Marked m t
  unfolding mark_values
  values-cases zero t h = inr h
  values-cases (suc k) t h = go (is_noted memo k) refl h (values-cases k t)
    where
      more : NotedValue memo k t ⊎ Marked m t → NotedValue memo (suc k) t ⊎ Marked m t
      more (inl v) = let l = v.below in inl (record { at = v.at; below = omega arith; noted = v.noted; is = v.is })
      more (inr h) = inr h

      last : is_noted memo k ≡ true → (t ≡ value_at memo k) ⊎ Marked (mark_values memo k m) t → (Marked (mark_values memo k m) t → NotedValue memo k t ⊎ Marked m t)
          → NotedValue memo (suc k) t ⊎ Marked m t
      last b (inl q) r = inl (record { at = k; below = omega arith; noted = b; is = q })
      last b (inr h) r = more (r h)

      go : (b : Bool) → is_noted memo k ≡ b → Marked (mark_if b (mark_values memo k m) (value_at memo k)) t → (Marked (mark_values memo k m) t → NotedValue memo k t ⊎ Marked m t)
          → NotedValue memo (suc k) t ⊎ Marked m t
      go true b h r = last b (with_cases (mark_values memo k m) (value_at memo k) t h) r
      go false b h r = more (r h)

-- a memo in which e and all below it are noted, of the first n expressions, with their values in this store, and else only what is marked
pub record NotedBelow (args : ℕ → List ℕ) (eval : ℕ → Check ℕ) (n e : ℕ) (s : List Term) (memo m : List ℕ) : Type 0 where
  pub value : (k : ℕ) → k < n → is_noted memo k ≡ true → eval k s ≡ ok (value_at memo k) s
  pub below : (k : ℕ) → Reaches args k e → (k < n) × (is_noted memo k ≡ true)
  pub only : (k : ℕ) → k < n → is_noted memo k ≡ true → Marked m (value_at memo k) ⊎ Reaches args k e
  pub inside : (k t : ℕ) → eval k s ≡ ok t s → t < length s

module _ {args : ℕ → List ℕ} {eval : ℕ → Check ℕ} {n e : ℕ} {s : List Term} {memo m : List ℕ} (w : NotedBelow args eval n e s memo m) where
  -- once the values are marked, the marks stand for the pairs as well
  pub values-adds : {ps : List Proposition} → ((t : ℕ) → Marked m t → t < length s) → length s ≤ 32 * length m
      → ((x : ℕ) → Memᴰ (same x) ps ↔ Valued args eval s e x) → AddsMarks s m (mark_values memo n m) ps
  values-adds {ps} i l p = record {
    inside = λ t h. in-cases t (values-cases memo m n t h);
    keeps = λ x c. record { root = c.root; marked = values-keep memo m n c.root c.marked; under = c.under };
    pairs = λ x k. covers x ((p x).0 k);
    only = λ x c. only-cases x c.root c.under (values-cases memo m n c.root c.marked);
  }
    where
      in-cases : (t : ℕ) → NotedValue memo n t ⊎ Marked m t → t < length s
      in-cases t (inl v) = rw v.is (w.inside v.at (value_at memo v.at) (w.value v.at v.below v.noted))
      in-cases t (inr h) = i t h

      covers : (x : ℕ) → Valued args eval s e x → Covered s (mark_values memo n m) x
      covers x d =
          let b = w.below d.at d.reaches in
          let q : d.term ≡ value_at memo d.at = same-value (sym d.value ∙ w.value d.at b.0 b.1) in
          let h : d.term < length s = w.inside d.at d.term d.value in
          record { root = value_at memo d.at; marked = values-mark memo m n d.at b.0 b.1 (omega arith); under = subst (Under s x) q d.under }

      only-cases : (x t : ℕ) → Under s x t → NotedValue memo n t ⊎ Marked m t → Covered s m x ⊎ Memᴰ (same x) ps
      only-cases x t u (inl v) = noted-cases (w.only v.at v.below v.noted)
        where
          noted-cases : Marked m (value_at memo v.at) ⊎ Reaches args v.at e → Covered s m x ⊎ Memᴰ (same x) ps
          noted-cases (inl h) = inl (record { root = value_at memo v.at; marked = h; under = subst (Under s x) v.is u })
          noted-cases (inr r) = inr ((p x).1 (record {
            at = v.at;
            reaches = r;
            term = value_at memo v.at;
            value = w.value v.at v.below v.noted;
            under = subst (Under s x) v.is u;
          }))
      only-cases x t u (inr h) = inl (record { root = t; marked = h; under = u })
