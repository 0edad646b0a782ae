-- Marks that stand for the reflexive pairs of an evaluation, step by step.
use Prim.Native.Nat.{ℕ, ◌*◌, ◌<◌, ◌≤◌}
use native.Mathlib.Omega.{arith}
use mathlib.Core.Path.{◌≡◌, refl, sym, ◌∙◌}
use mathlib.Core.Logic.{◌⊎◌, inl, inr, ◌↔◌}
use mathlib.Core.List.Memᴰ
use mathlib.Core.List.{List, [], ◌++◌, Memᴰ}
use mathlib.Core.Bool.{Bool, true, false, true≢false}
use lib.ListN.{length}
use Rattle.model.specs.Term.{Term, Extends, Ordered}
use Rattle.model.specs.Program.{Proposition}
use Rattle.model.specs.Evaluate.{same}
use Rattle.model.specs.Action.{among}
use Rattle.model.proofs.Store.{extends-length}
use Rattle.marks.specs.Marks.{zeros, is_marked, close}
use Rattle.marks.proofs.Subterms.{under-extends, under_back, among-member, member-among}
use Rattle.marks.specs.Covering.{Marked, Covered, Marks}
use Rattle.marks.proofs.Bits.{zeros-at}
use Rattle.marks.proofs.Closing.{close-keeps, close-is}

-- what a step did to the marks: m' stands for what m stood for and for the reflexive pairs ps
pub record AddsMarks (s : List Term) (m m' : List ℕ) (ps : List Proposition) : Type 0 where
  pub inside : (t : ℕ) → Marked m' t → t < length s
  pub keeps : (x : ℕ) → Covered s m x → Covered s m' x
  pub pairs : (x : ℕ) → Memᴰ (same x) ps → Covered s m' x
  pub only : (x : ℕ) → Covered s m' x → Covered s m x ⊎ Memᴰ (same x) ps

-- no mark, no pair
pub marks-none : (s : List Term) (m : List ℕ) → ((t : ℕ) → is_marked m t ≡ false) → Marks s m []
marks-none s m z = record {
  inside = λ t h. absurd (true≢false (sym h ∙ z t));
  sound = λ x c. absurd (true≢false (sym c.marked ∙ z c.root));
  complete = λ x k. absurd (Memᴰ.not-nil k);
}

pub marks-cleared : (s : List Term) (m : List ℕ) (n : ℕ) → m ≡ zeros n → Marks s m []
marks-cleared s m n e = rw e (marks-none s (zeros n) (zeros-at n))

-- a step after others
pub marks-adds : {s : List Term} {m m' : List ℕ} {ps qs : List Proposition} → Marks s m ps → AddsMarks s m m' qs → Marks s m' (ps ++ qs)
marks-adds {s} {m} {m'} {ps} {qs} w a = record {
  inside = a.inside;
  sound = λ x c. go x (a.only x c);
  complete = λ x k. pair-cases x (Memᴰ.append_cases ps k);
}
  where
    go : (x : ℕ) → Covered s m x ⊎ Memᴰ (same x) qs → Memᴰ (same x) (ps ++ qs)
    go x (inl c) = Memᴰ.append_left qs (w.sound x c)
    go x (inr k) = Memᴰ.append_right ps k

    pair-cases : (x : ℕ) → Memᴰ (same x) ps ⊎ Memᴰ (same x) qs → Covered s m' x
    pair-cases x (inl k) = a.keeps x (w.complete x k)
    pair-cases x (inr k) = a.pairs x k

-- the same reflexive pairs
pub marks-same : {s : List Term} {m : List ℕ} {ps qs : List Proposition} → ((x : ℕ) → Memᴰ (same x) ps → Memᴰ (same x) qs)
    → ((x : ℕ) → Memᴰ (same x) qs → Memᴰ (same x) ps) → Marks s m ps → Marks s m qs
marks-same to back w = record { inside = w.inside; sound = λ x c. to x (w.sound x c); complete = λ x k. w.complete x (back x k) }

-- the store may grow
pub covered-extends : {s s' : List Term} {m : List ℕ} → Ordered s → Extends s s' → ((t : ℕ) → Marked m t → t < length s) → (x : ℕ) → Covered s m x → Covered s' m x
covered-extends {s} {s'} o e i x c = record { root = c.root; marked = c.marked; under = under-extends s s' o e x c.root (i c.root c.marked) c.under }

pub covered-back : {s s' : List Term} {m : List ℕ} → Ordered s → Extends s s' → ((t : ℕ) → Marked m t → t < length s) → (x : ℕ) → Covered s' m x → Covered s m x
covered-back {s} {s'} o e i x c = record { root = c.root; marked = c.marked; under = under_back s s' o e x c.root (i c.root c.marked) c.under }

pub marks-extends : {s s' : List Term} {m : List ℕ} {ps : List Proposition} → Ordered s → Extends s s' → Marks s m ps → Marks s' m ps
marks-extends {s} {s'} o e w = let l : length s ≤ length s' = extends-length e in record {
  inside = λ t k. let h = w.inside t k in omega arith;
  sound = λ x c. w.sound x (covered-back o e w.inside x c);
  complete = λ x k. covered-extends o e w.inside x (w.complete x k);
}

-- what is marked needs no closing
pub closed-marked : (s : List Term) (n : ℕ) (m : List ℕ) (x : ℕ) → Marked m x → true ≡ is_marked (close s n m) x
closed-marked s n m x h = sym (close-keeps s n m x h)

-- the test of the code: once the marks are closed, a reflexive pair is among the pairs just when its term is marked
pub marks-test : {s : List Term} {m : List ℕ} {ps : List Proposition} → Ordered s → length s ≤ 32 * length m → Marks s m ps
    → (x : ℕ) → is_marked (close s (length s) m) x ≡ among (same x) ps
marks-test {s} {m} {ps} o l w x = go (is_marked (close s (length s) m) x) refl (among (same x) ps) refl
  where
    is : Marked (close s (length s) m) x ↔ Covered s m x
    is = close-is s o (length s) m l w.inside x

    go : (a : Bool) → is_marked (close s (length s) m) x ≡ a → (b : Bool) → among (same x) ps ≡ b → a ≡ b
    go true e true f = refl
    go false e false f = refl
    go true e false f = sym (member-among x ps (w.sound x (is.0 e))) ∙ f
    go false e true f = sym e ∙ is.1 (w.complete x (among-member x ps f))

pub marks-closed : {s : List Term} {m m' : List ℕ} {ps : List Proposition} (n : ℕ) → length s ≡ n → Ordered s → n ≤ 32 * length m → Marks s m ps → m' ≡ close s n m
    → (x : ℕ) → is_marked m' x ≡ among (same x) ps
marks-closed n q o l w e x = rw (e, ← q) (marks-test o (omega arith) w x)
