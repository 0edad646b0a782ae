-- The terms of a store: look-ups, and what adding a term does.
use Prim.Native.Nat.{ℕ, zero, suc, ◌+◌, ◌<◌, ◌≤◌}
use native.Mathlib.Omega.{arith}
use native.Mathlib.Nat.{not-suc-le-zero, le_of_suc-le-suc}
use mathlib.Core.Path.{◌≡◌, refl, sym, ap, subst, ◌∙◌}
use mathlib.Core.Logic.{◌⊎◌, inl, inr}
use mathlib.Core.List.{List, [], ◌∷◌, ◌++◌, append_assoc, append-nil}
use mathlib.Core.Bool.{Bool, true, false, ◌&&◌, true≢false}
use mathlib.Core.Option.{Option, none, some, none-ne-some, some-injective}
use lib.ListN.{length, length-append}
use lib.Dec.{leb, ltb}
use Rattle.model.specs.Term.{Term, lit, var, app, same_term, width, widths, find_term, get_term, Extends, Below, Ordered}
use Rattle.model.specs.Check.{ok, refuse, Room, add_node}
use Rattle.model.specs.Tree.{Tree, leaf, named, apply}
use Rattle.model.proofs.Tests.{term-eq, term-same}
use Rattle.model.proofs.Represent.{Rep, Keeps, Distinct}
use Rattle.model.proofs.Agree.{Agree, agree-ok}

-- a store that grows
pub extends-same : {s : List Term} → Extends s s
extends-same {s} = record { more = []; is = sym (append-nil s) }

pub extends-then : {s s' s'' : List Term} → Extends s s' → Extends s' s'' → Extends s s''
extends-then {s} a b = record { more = a.more ++ b.more; is = b.is ∙ ap (λ (l : List Term). l ++ b.more) a.is ∙ append_assoc s a.more b.more }

pub extends-length : {s s' : List Term} → Extends s s' → length s ≤ length s'
extends-length {s} a = rw (a.is, length-append s a.more) (omega arith)

abbrev pub Children : ℕ → Term → Type 0
Children n (lit l) = Unit {0}
Children n (var x) = Unit {0}
Children n (app f xs) = Below n xs

-- look-ups
pub get-last : (s : List Term) (t : Term) → get_term (s ++ (t ∷ [])) (length s) ≡ some t
unfolding get_term
get-last [] t = refl
get-last (x ∷ s) t = get-last s t

pub get-inside : (s : List Term) (n : ℕ) (t : Term) → get_term s n ≡ some t → n < length s
unfolding get_term
get-inside [] n t e = absurd (none-ne-some t e)
get-inside (x ∷ s) zero t e = omega arith
get-inside (x ∷ s) (suc n) t e = let h = get-inside s n t e in omega arith

pub get-below : (s : List Term) (n : ℕ) → n < length s → (t : Term) × (get_term s n ≡ some t)
unfolding get_term
get-below [] n h = absurd (not-suc-le-zero h)
get-below (t ∷ s) zero h = (t, refl)
get-below (t ∷ s) (suc n) h = get-below s n (le_of_suc-le-suc h)

pub get-cases : (s : List Term) (t : Term) (n : ℕ) (u : Term) → get_term (s ++ (t ∷ [])) n ≡ some u → (get_term s n ≡ some u) ⊎ ((n ≡ length s) × (u ≡ t))
unfolding get_term
get-cases [] t zero u e = inr (refl, some-injective u t (sym e))
get-cases [] t (suc n) u e = absurd (none-ne-some u e)
get-cases (x ∷ s) t zero u e = inl e
get-cases (x ∷ s) t (suc n) u e = go (get-cases s t n u e)
  where
    go : (get_term s n ≡ some u) ⊎ ((n ≡ length s) × (u ≡ t)) → (get_term s n ≡ some u) ⊎ ((suc n ≡ suc (length s)) × (u ≡ t))
    go (inl a) = inl a
    go (inr b) = inr (ap suc b.0, b.1)

get-append : (s u : List Term) (n : ℕ) → n < length s → get_term (s ++ u) n ≡ get_term s n
unfolding get_term
get-append [] u n h = absurd (not-suc-le-zero h)
get-append (t ∷ s) u zero h = refl
get-append (t ∷ s) u (suc n) h = get-append s u n (le_of_suc-le-suc h)

-- a number of the store has the same term in every later one
pub get-extends : (s s' : List Term) → Extends s s' → (n : ℕ) → n < length s → get_term s' n ≡ get_term s n
get-extends s s' x n h = rw x.is (get-append s x.more n h)

pub extends-keeps : {s s' : List Term} → Extends s s' → Keeps s s'
extends-keeps {s} {s'} x = record { at = λ n t e. get-extends s s' x n (get-inside s n t e) ∙ e }

pub find-some : (s : List Term) (t : Term) (k i : ℕ) → find_term s t k ≡ some i → (j : ℕ) × (i ≡ k + j) × (get_term s j ≡ some t)
unfolding find_term get_term
find-some [] t k i e = absurd (none-ne-some i e)
find-some (u ∷ us) t k i e = go (same_term u t) refl e (find-some us t (suc k) i)
  where
    go : (b : Bool) → same_term u t ≡ b → elim b [ true ↦ some k | false ↦ find_term us t (suc k) ] ≡ some i
        → (find_term us t (suc k) ≡ some i → (j : ℕ) × (i ≡ suc k + j) × (get_term us j ≡ some t))
        → (j : ℕ) × (i ≡ k + j) × (get_term (u ∷ us) j ≡ some t)
    go true h e r = let c = some-injective k i e in (zero, omega arith, ap {B = Option Term} some (term-eq u t h))
    go false h e r = let c = r e in (suc c.0, omega arith, c.2)

pub find_none : (s : List Term) (t : Term) (k n : ℕ) → find_term s t k ≡ none → get_term s n ≡ some t → ⊥
unfolding find_term get_term
find_none [] t k n e g = absurd (none-ne-some t g)
find_none (u ∷ us) t k n e g = go (same_term u t) refl e n g (λ m. find_none us t (suc k) m)
  where
    go : (b : Bool) → same_term u t ≡ b → ◌≡◌ {A = Option ℕ} (elim b [ true ↦ some k | false ↦ find_term us t (suc k) ]) none
        → (n : ℕ) → get_term (u ∷ us) n ≡ some t → ((m : ℕ) → find_term us t (suc k) ≡ none → get_term us m ≡ some t → ⊥) → ⊥
    go true h e n g r = none-ne-some k (sym e)
    go false h e zero g r = true≢false (sym (subst (λ (x : Term). same_term u x ≡ true) (some-injective u t g) (term-same u)) ∙ h)
    go false h e (suc n) g r = r n e g

-- the first place of a term stays its first place
find-left : (s u : List Term) (t : Term) (k i : ℕ) → find_term s t k ≡ some i → find_term (s ++ u) t k ≡ some i
unfolding find_term
find-left [] u t k i e = absurd (none-ne-some i e)
find-left (x ∷ s) u t k i e = go (same_term x t) e (find-left s u t (suc k) i)
  where
    go : (b : Bool) → elim b [ true ↦ some k | false ↦ find_term s t (suc k) ] ≡ some i
        → (find_term s t (suc k) ≡ some i → find_term (s ++ u) t (suc k) ≡ some i)
        → elim b [ true ↦ some k | false ↦ find_term (s ++ u) t (suc k) ] ≡ some i
    go true e r = e
    go false e r = r e

find-last : (s : List Term) (t : Term) (k : ℕ) → find_term s t k ≡ none → find_term (s ++ (t ∷ [])) t k ≡ some (k + length s)
unfolding find_term
find-last [] t k e = rw (term-same t, find_term) (ap {B = Option ℕ} some (omega arith))
find-last (x ∷ s) t k e = go (same_term x t) e (find-last s t (suc k))
  where
    go : (b : Bool) → ◌≡◌ {A = Option ℕ} (elim b [ true ↦ some k | false ↦ find_term s t (suc k) ]) none
        → (find_term s t (suc k) ≡ none → find_term (s ++ (t ∷ [])) t (suc k) ≡ some (suc k + length s))
        → elim b [ true ↦ some k | false ↦ find_term (s ++ (t ∷ [])) t (suc k) ] ≡ some (k + suc (length s))
    go true e r = absurd (none-ne-some k (sym e))
    go false e r = r e ∙ ap {B = Option ℕ} some (omega arith)

pub find-extends : (s s' : List Term) (t : Term) (i : ℕ) → Extends s s' → find_term s t 0 ≡ some i → find_term s' t 0 ≡ some i
find-extends s s' t i x e = rw x.is (find-left s x.more t 0 i e)

-- adding a term
distinct-add : (s : List Term) (t : Term) → find_term s t 0 ≡ none → Distinct s → Distinct (s ++ (t ∷ []))
distinct-add s t e d = record { one = λ m n u a b. go m n u a b (get-cases s t m u a) (get-cases s t n u b) }
  where
    fresh : (n : ℕ) (u : Term) → get_term s n ≡ some u → u ≡ t → ⊥
    fresh n u g h = find_none s t 0 n e (rw h at g)

    go : (m n : ℕ) (u : Term) → get_term (s ++ (t ∷ [])) m ≡ some u → get_term (s ++ (t ∷ [])) n ≡ some u
        → (get_term s m ≡ some u) ⊎ ((m ≡ length s) × (u ≡ t)) → (get_term s n ≡ some u) ⊎ ((n ≡ length s) × (u ≡ t)) → m ≡ n
    go m n u a b (inl p) (inl q) = d.one m n u p q
    go m n u a b (inl p) (inr q) = absurd (fresh m u p q.1)
    go m n u a b (inr p) (inl q) = absurd (fresh n u q p.1)
    go m n u a b (inr p) (inr q) = p.0 ∙ sym q.0

ordered-add : (s : List Term) (t : Term) → Children (length s) t → Ordered s → Ordered (s ++ (t ∷ []))
ordered-add s t h o = record { lower = λ n f xs g. go n f xs (get-cases s t n (app f xs) g) }
  where
    go : (n f : ℕ) (xs : List ℕ) → (get_term s n ≡ some (app f xs)) ⊎ ((n ≡ length s) × (app f xs ≡ t)) → Below n xs
    go n f xs (inl g) = o.lower n f xs g
    go n f xs (inr (e, q)) = rw e (subst (Children (length s)) (sym q) h)

-- what adding a term does: it is there, an equal one is found again, and nothing else changes
pub record Added (room : Room) (t : Term) (s : List Term) (n : ℕ) (s' : List Term) : Type 0 where
  pub grows : Extends s s'
  pub there : get_term s' n ≡ some t
  pub found : find_term s' t 0 ≡ some n
  pub distinct : Distinct s → Distinct s'
  pub ordered : Children (length s) t → Ordered s → Ordered s'

module _ {B : Type 0} where
  -- adding a term beside a tree that is there: the one refusal is for want of room
  pub add-agrees : (room : Room) (t : Term) (s : List Term) (b : B) {P : ℕ → List Term → B → Type 0}
      → ((n : ℕ) (s' : List Term) → Added room t s n s' → P n s' b) → Agree (add_node room t s) (some b) P
  unfolding add_node
  add-agrees room t s b {P} k = go (find_term s t 0) refl (ltb (length s) room.cells && leb (widths s + width t) room.words)
    where
      go : (o : Option ℕ) → find_term s t 0 ≡ o → (c : Bool)
          → Agree (elim o [ some i ↦ ok i s | none ↦ elim c [ true ↦ ok (length s) (s ++ (t ∷ [])) | false ↦ refuse 53 (widths s ∷ []) s ] ]) (some b) P
      go (some i) e c = let f = find-some s t 0 i e in agree-ok (k i s (record {
        grows = extends-same;
        there = subst (λ (j : ℕ). get_term s j ≡ some t) (omega arith) f.2;
        found = e;
        distinct = λ d. d;
        ordered = λ h o. o;
      }))
      go none e true = agree-ok (k (length s) (s ++ (t ∷ [])) (record {
        grows = record { more = t ∷ []; is = refl };
        there = get-last s t;
        found = find-last s t 0 e ∙ ap {B = Option ℕ} some (omega arith);
        distinct = distinct-add s t e;
        ordered = ordered-add s t;
      }))
      go none e false = record { agrees = refl }

-- a term that is there is found, and nothing is added
pub add-found : (room : Room) (t : Term) (s : List Term) (i : ℕ) → find_term s t 0 ≡ some i → add_node room t s ≡ ok i s
unfolding add_node
add-found room t s i e = rw (e, add_node)

-- a number that has a tree lies in the store
pub rep-inside : (T : Tree) (s : List Term) (t : ℕ) → Rep T s t → t < length s
rep-inside (leaf l) s t r = get-inside s t (lit l) r
rep-inside (named x) s t r = get-inside s t (var x) r
rep-inside (apply f ts) s t r = get-inside s t (app f r.0) r.1
