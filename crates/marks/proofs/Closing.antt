-- Marks, and what they stand for: closing them from the top down.
use Prim.Native.Nat.{ℕ, zero, suc, ◌*◌, ◌/◌, ◌<◌, ◌≤◌}
use native.Mathlib.Omega.{arith}
use native.Mathlib.Nat.{not-suc-le-zero}
use mathlib.Core.Path.{◌≡◌, refl, subst, ◌∙◌}
use mathlib.Core.Logic.{◌⊎◌, inl, inr, ◌↔◌}
use mathlib.Core.List.{List, [], ◌∷◌, Memᴰ}
use mathlib.Core.Bool.{Bool, true, false}
use lib.ListN.{length}
use lib.Dec.{eqb}
use borrow.Author.Tests.{eqb-true, eqb-false}
use Rattle.model.specs.Term.{Term, get_term, Ordered}
use Rattle.model.specs.Evaluate.{children}
use Rattle.model.proofs.Again.{child-lower}
use Rattle.marks.specs.Marks.{is_marked, with_mark, mark_all, close_at, close}
use Rattle.marks.specs.Covering.{Under, here, down, Marked, Covered}
use Rattle.marks.proofs.Bits.{length-with, with-marked, with-keeps, with_cases}

-- several terms marked
pub length-all : (xs m : List ℕ) → length (mark_all xs m) ≡ length m
unfolding mark_all
length-all [] m = refl
length-all (x ∷ xs) m = length-all xs (with_mark m x) ∙ length-with m x

all-keeps : (xs m : List ℕ) (t : ℕ) → Marked m t → Marked (mark_all xs m) t
unfolding mark_all
all-keeps [] m t h = h
all-keeps (x ∷ xs) m t h = all-keeps xs (with_mark m x) t (with-keeps m x t h)

all-marks : (xs m : List ℕ) (t : ℕ) → Memᴰ t xs → t / 32 < length m → Marked (mark_all xs m) t
unfolding mark_all
all-marks [] m t k h = absurd (mathlib.Core.List.Memᴰ.not-nil k)
all-marks (x ∷ xs) m t k h = go (mathlib.Core.List.Memᴰ.cases_cons k) (all-marks xs (with_mark m x) t)
  where
    go : (t ≡ x) ⊎ Memᴰ t xs → (Memᴰ t xs → t / 32 < length (with_mark m x) → Marked (mark_all xs (with_mark m x)) t) → Marked (mark_all xs (with_mark m x)) t
    go (inl e) r = all-keeps xs (with_mark m x) t (subst (λ (y : ℕ). Marked (with_mark m y) t) e (with-marked m t h))
    go (inr k) r = r k (rw (length-with m x) h)

all-cases : (xs m : List ℕ) (t : ℕ) → Marked (mark_all xs m) t → Memᴰ t xs ⊎ Marked m t
unfolding mark_all
all-cases [] m t h = inr h
all-cases (x ∷ xs) m t h = go (all-cases xs (with_mark m x) t h)
  where
    first : (t ≡ x) ⊎ Marked m t → Memᴰ t (x ∷ xs) ⊎ Marked m t
    first (inl e) = inl (mathlib.Core.List.Memᴰ.head e)
    first (inr k) = inr k

    go : Memᴰ t xs ⊎ Marked (with_mark m x) t → Memᴰ t (x ∷ xs) ⊎ Marked m t
    go (inl k) = inl (mathlib.Core.List.Memᴰ.tail k)
    go (inr k) = first (with_cases m x t k)

-- closing at one number: a mark of the next array stands for no more than one of this array
at-covered : (s : List Term) (i : ℕ) (m : List ℕ) (b : Bool) → is_marked m i ≡ b → (x : ℕ) → Covered s (close_at s i m b) x → Covered s m x
at-covered s i m false e x c = c
at-covered s i m true e x c = go (all-cases (children (get_term s i)) m c.root c.marked)
  where
    go : Memᴰ c.root (children (get_term s i)) ⊎ Marked m c.root → Covered s m x
    go (inl k) = record { root = i; marked = e; under = down k c.under }
    go (inr k) = record { root = c.root; marked = k; under = c.under }

pub at_length : (s : List Term) (i : ℕ) (m : List ℕ) (b : Bool) → length (close_at s i m b) ≡ length m
at_length s i m true = length-all (children (get_term s i)) m
at_length s i m false = refl

at-keeps : (s : List Term) (i : ℕ) (m : List ℕ) (b : Bool) (t : ℕ) → Marked m t → Marked (close_at s i m b) t
at-keeps s i m true t h = all-keeps (children (get_term s i)) m t h
at-keeps s i m false t h = h

-- closing
pub close-keeps : (s : List Term) (n : ℕ) (m : List ℕ) (t : ℕ) → Marked m t → Marked (close s n m) t
unfolding close
close-keeps s zero m t h = h
close-keeps s (suc i) m t h = close-keeps s i _ t (at-keeps s i m (is_marked m i) t h)

pub close-sound : (s : List Term) (n : ℕ) (m : List ℕ) (x : ℕ) → Marked (close s n m) x → Covered s m x
unfolding close
close-sound s zero m x h = record { root = x; marked = h; under = here refl }
close-sound s (suc i) m x h = at-covered s i m (is_marked m i) refl x (close-sound s i _ x h)

close-under : (s : List Term) → Ordered s → (n : ℕ) (m : List ℕ) → n ≤ 32 * length m → (t x : ℕ) → t < n → Marked m t → Under s x t → Marked (close s n m) x
unfolding close
close-under s o zero m l t x h k u = absurd (not-suc-le-zero h)
close-under s o (suc i) m l t x h k u = go (eqb t i) refl u
    (λ c. close-under s o i (close_at s i m (is_marked m i)) (rw (at_length s i m (is_marked m i)) (omega arith)) c x)
  where
    next : List ℕ
    next = close_at s i m (is_marked m i)

    go : (b : Bool) → eqb t i ≡ b → Under s x t → ((c : ℕ) → c < i → Marked next c → Under s x c → Marked (close s i next) x) → Marked (close s i next) x
    go false e u r =
        let ne : t ≡ i → ⊥ = eqb-false t i e in
        r t (omega arith) (at-keeps s i m (is_marked m i) t k) u
    go true e (here q) r = close-keeps s i next x (at-keeps s i m (is_marked m i) x (rw q k))
    go true e (down {c = c} d u) r =
        let q : t ≡ i = eqb-true t i e in
        let d' : Memᴰ c (children (get_term s i)) = subst (λ (y : ℕ). Memᴰ c (children (get_term s y))) q d in
        let z : c < i = child-lower s o i c d' in
        let y : is_marked m i ≡ true = subst (Marked m) q k in
        r c z (rw y (all-marks (children (get_term s i)) m c d' (omega arith))) u

-- closed from the top, the marks are the subterms of the marked terms
pub close-is : (s : List Term) → Ordered s → (n : ℕ) (m : List ℕ) → n ≤ 32 * length m → ((t : ℕ) → Marked m t → t < n) → (x : ℕ) → Marked (close s n m) x ↔ Covered s m x
close-is s o n m l inside x = (close-sound s n m x, λ c. close-under s o n m l c.root x (inside c.root c.marked) c.marked c.under)
