-- Laws of chains: numbers linked one by one from the last on, and the way along a chain.
use Rattle.std.specs.Prelude as prelude
use Rattle.std.specs.Prelude.{Some, None}
use mathlib.Core.Path.{◌≡◌, refl, sym, ap, ap₂, subst, ◌∙◌}
use mathlib.Core.Logic.{inl, inr}
use mathlib.Core.Bool.{Bool, true, false, true≢false}
use mathlib.Core.List.{List}
use Prim.Native.Nat.{ℕ, suc, ◌+◌, ◌≤◌, ◌<◌}
use native.Mathlib.Omega.{arith}
use lib.Dec.{eqb}
use lib.ListN.{length, get_or, set, length-set}
use lib.Seq.{get_or-set_same, get_or-set_other}
use borrow.Author.Tests.{ltb-true, ltb-false, eq-eqb, ne_eqb}
use Rattle.model.specs.Cell.{same_words}
use Rattle.model.proofs.Tests.{eq_of, and_left, and_right, words-eq, words_same, never}
use Rattle.index.proofs.Arithmetic.{le-or-lt, eq-or-ne}
use Rattle.chains.specs.Chains.{key_arguments, has_key, key_slot, slot_at, same_key, Next, Chained, Within, Emptied, Linked, FirstHit, found_before, Differ}

pub within_same : (b k : ℕ) (T : List ℕ) → Within b k T T
within_same b k T = record { even = refl; same = λ i _. refl }

-- where nothing is chained
pub chained-none : (slot : ℕ → ℕ) {n b : ℕ} {T T' : List ℕ} → b + (n + n) ≤ length T → Emptied b n T T' → Chained slot n b n T'
chained-none slot {n} {b} {T} {T'} l e = record {
  long = omega (arith, l, e.within.even);
  slots = λ s h. subst (λ (k : ℕ). Next slot n s n k) (sym (e.each s h)) (record {
    least = omega arith;
    most = omega arith;
    is = λ q. absurd (omega arith);
    before = λ j p q _. absurd (omega arith);
  });
  numbers = λ i p q. absurd (omega arith);
}

pub within_more : {b n : ℕ} {T T' : List ℕ} → Within b n T T' → Within b (n + n) T T'
within_more {b} {n} w = record {
  even = w.even;
  same = λ i o. w.same i (elim o [ inl p ↦ inl p | inr p ↦ inr (omega arith) ]);
}

pub within_both : {b k : ℕ} {T T' T'' : List ℕ} → Within b k T T' → Within b k T' T'' → Within b k T T''
within_both v w = record { even = w.even ∙ v.even; same = λ i o. w.same i o ∙ v.same i o }

-- number i put before those of its slot
module _ {n b i s : ℕ} {T T' : List ℕ} (e : Linked b n s i T T') (h : i < n) (m : s < n) where
  elsewhere : (k : ℕ) → (k ≡ b + s → ⊥) → (k ≡ b + n + i → ⊥) → get_or T' k 0 ≡ get_or T k 0
  elsewhere k p r = rw e.is (get_or-set_other (set T (b + n + i) (get_or T (b + s) 0)) (b + s) k i 0 p ∙ get_or-set_other T (b + n + i) k (get_or T (b + s) 0) 0 r)

  even : length T' ≡ length T
  even = rw e.is (length-set (set T (b + n + i) (get_or T (b + s) 0)) (b + s) i ∙ length-set T (b + n + i) (get_or T (b + s) 0))

  pub within-linked : {T₀ : List ℕ} → Within b (n + n) T₀ T → Within b (n + n) T₀ T'
  within-linked w = record {
    even = even ∙ w.even;
    same = λ k o. elsewhere k (λ p. elim o [ inl l ↦ omega arith | inr l ↦ omega arith ]) (λ p. elim o [ inl l ↦ omega arith | inr l ↦ omega arith ]) ∙ w.same k o;
  }

  module _ {slot : ℕ → ℕ} (q : s ≡ slot i) (c : Chained slot n b (suc i) T) where
    at_slot : get_or T' (b + s) 0 ≡ i
    at_slot = rw e.is (get_or-set_same (set T (b + n + i) (get_or T (b + s) 0)) (b + s) i 0 (omega (arith, c.long, length-set T (b + n + i) (get_or T (b + s) 0))))

    at-number : get_or T' (b + n + i) 0 ≡ get_or T (b + s) 0
    at-number = rw e.is (get_or-set_other (set T (b + n + i) (get_or T (b + s) 0)) (b + s) (b + n + i) i 0 (λ p. omega arith) ∙ get_or-set_same T (b + n + i) (get_or T (b + s) 0) 0 (omega (arith, c.long)))

    slot-linked : (t : ℕ) → t < n → Next slot n t i (get_or T' (b + t) 0)
    slot-linked t l = elim (eq-or-ne t s) [ inl p ↦ rw (p, at_slot) own | inr p ↦ rw (elsewhere (b + t) (λ r. p (omega arith)) (λ r. omega arith)) (other p) ]
      where
        own : Next slot n s i i
        own = record {
          least = omega arith;
          most = omega arith;
          is = λ _. sym q;
          before = λ j u v _. absurd (omega arith);
        }

        other : (t ≡ s → ⊥) → Next slot n t i (get_or T (b + t) 0)
        other p = record {
          least = omega (arith, (c.slots t l).least);
          most = (c.slots t l).most;
          is = (c.slots t l).is;
          before = λ j u v r. elim (eq-or-ne j i) [ inl w ↦ p (sym r ∙ ap slot w ∙ sym q) | inr w ↦ (c.slots t l).before j (omega arith) v r ];
        }

    number-linked : (j : ℕ) → i ≤ j → j < n → Next slot n (slot j) (suc j) (get_or T' (b + n + j) 0)
    number-linked j u v = elim (eq-or-ne j i) [ inl p ↦ rw (p, at-number, sym q) (c.slots s m) | inr p ↦ rw (elsewhere (b + n + j) (λ r. omega arith) (λ r. p (omega arith))) (c.numbers j (omega arith) v) ]

    pub chained_more : Chained slot n b i T'
    chained_more = record { long = omega (arith, c.long, even); slots = slot-linked; numbers = number-linked }

-- the test of a key, by its head first
pub key-no : (rows : Bool) (ws : List ℕ) (h : ℕ) (us : List ℕ) → (get_or ws 0 0 ≡ h → ⊥) → false ≡ has_key rows ws h us
key-no rows ws h us n = rw (ne_eqb (get_or ws 0 0) h n)

pub key-yes : (rows : Bool) (ws : List ℕ) (h : ℕ) (us : List ℕ) → get_or ws 0 0 ≡ h → same_words (key_arguments rows ws) us ≡ has_key rows ws h us
key-yes rows ws h us e = rw (eq-eqb (get_or ws 0 0) h e)

-- a cell of a key has its slot
pub key-slot : (x n : ℕ) (rows : Bool) (ws : List ℕ) (h : ℕ) (us : List ℕ) → has_key rows ws h us ≡ true → key_slot x n (get_or ws 0 0) (key_arguments rows ws) ≡ key_slot x n h us
key-slot x n rows ws h us e =
    let a = eq_of (get_or ws 0 0) h (and_left (eqb (get_or ws 0 0) h) (same_words (key_arguments rows ws) us) e) in
    let w = words-eq (key_arguments rows ws) us (and_right (eqb (get_or ws 0 0) h) (same_words (key_arguments rows ws) us) e) in
    ap₂ (key_slot x n) a w

-- on the way along the chain of slot s from number m on, at number i: none between them hits
pub record Passed (slot : ℕ → ℕ) (hit : ℕ → Bool) (n s m i : ℕ) : Type 0 where
  pub least : m ≤ i
  pub most : i ≤ n
  pub is : i < n → slot i ≡ s
  pub before : (j : ℕ) → m ≤ j → j < i → hit j ≡ false

no_hit : (b : Bool) → (b ≡ true → ⊥) → b ≡ false
no_hit true h = absurd (h refl)
no_hit false h = refl

module _ {slot : ℕ → ℕ} {hit : ℕ → Bool} {n s m : ℕ} (hits : (j : ℕ) → hit j ≡ true → slot j ≡ s) where
  pub passed_first : {e : ℕ} → Next slot n s m e → Passed slot hit n s m e
  passed_first x = record {
    least = x.least;
    most = x.most;
    is = x.is;
    before = λ j u h. no_hit (hit j) (λ y. x.before j u h (hits j y));
  }

  pub passed-more : {i e : ℕ} → Passed slot hit n s m i → i < n → hit i ≡ false → Next slot n (slot i) (suc i) e → Passed slot hit n s m e
  passed-more {i} {e} p h y x = record {
    least = omega (arith, p.least, x.least);
    most = x.most;
    is = λ l. x.is l ∙ p.is h;
    before = λ j w l. elim (le-or-lt j i) [ inl u ↦ elim (eq-or-ne j i) [ inl v ↦ ap hit v ∙ y | inr v ↦ p.before j w (omega arith) ] | inr u ↦ no_hit (hit j) (λ z. x.before j u l (hits j z ∙ sym (p.is h))) ];
  }

module _ {slot : ℕ → ℕ} {hit : ℕ → Bool} {n s i : ℕ} (p : Passed slot hit n s 0 i) where
  pub hit-there : i < n → hit i ≡ true → FirstHit hit n (Some i)
  hit-there h y = record {
    there = λ j e. let r : i ≡ j = cc in (omega arith, ap hit (sym r) ∙ y);
    before = λ j k e l. let r : i ≡ j = cc in p.before k (omega arith) (omega arith);
    none = λ e. let z : ◌≡◌ {A = ℕ} 0 1 = cc in absurd (omega arith);
  }

  pub hit-none : n ≤ i → FirstHit hit n None
  hit-none h = record {
    there = λ j e. let z : ◌≡◌ {A = ℕ} 0 1 = cc in absurd (omega arith);
    before = λ j k e l. let z : ◌≡◌ {A = ℕ} 0 1 = cc in absurd (omega arith);
    none = λ _ j l. p.before j (omega arith) (omega arith);
  }

pub none-there : (slot : ℕ → ℕ) (hit : ℕ → Bool) {n : ℕ} → n ≡ 0 → FirstHit hit n None
none-there slot hit {n} e = hit-none {slot = slot} {hit = hit} {n = n} {s = 0} {i = 0} (record { least = omega arith; most = omega arith; is = λ l. absurd (omega arith); before = λ j u l. absurd (omega arith) }) (omega arith)

-- the first i numbers differ
pub record Differs (same : ℕ → ℕ → Bool) (n i : ℕ) : Type 0 where
  pub low : i ≤ n
  pub differ : (k j : ℕ) → k < i → j < k → same j k ≡ false

pub differs_none : (same : ℕ → ℕ → Bool) (n : ℕ) → Differs same n 0
differs_none same n = record { low = omega arith; differ = λ k j h l. absurd (omega arith) }

module _ {same : ℕ → ℕ → Bool} {n i : ℕ} (d : Differs same n i) where
  module _ (h : i < n) (f : prelude.Option ℕ) (x : FirstHit (λ j. same j i) n f) where
    differs_next : (f : prelude.Option ℕ) → FirstHit (λ j. same j i) n f → found_before f i ≡ false → (j : ℕ) → j < i → same j i ≡ false
    differs_next (Some k) y e j l = let u = ltb-false k i e in y.before k j refl (omega arith)
    differs_next None y e j l = y.none refl j (omega arith)

    pub differs_more : found_before f i ≡ false → Differs same n (i + 1)
    differs_more e = record {
      low = omega arith;
      differ = λ k j l m. elim (eq-or-ne k i) [ inl u ↦ rw u (differs_next f x e j (omega arith)) | inr u ↦ d.differ k j (omega arith) m ];
    }

    differs-last : (f : prelude.Option ℕ) → FirstHit (λ j. same j i) n f → found_before f i ≡ true → (j : ℕ) × (j < i) × FirstHit (λ j. same j i) n (Some j)
    differs-last (Some k) y e = (k, ltb-true k i e, y)
    differs-last None y e = never e

    pub differs-again : found_before f i ≡ true → Differ same n i
    differs-again e = record { low = d.low; differ = d.differ; again = λ _. differs-last f x e }

  pub differs-all : n ≤ i → Differ same n i
  differs-all h = record { low = d.low; differ = d.differ; again = λ l. absurd (omega arith) }

-- the key of cell i, read from its words w
pub hits-of : (rows : Bool) (ws : ℕ → List ℕ) (i : ℕ) {w us : List ℕ} {h n : ℕ} {f : prelude.Option ℕ} → w ≡ ws i → h ≡ get_or w 0 0 → us ≡ key_arguments rows w
    → FirstHit (λ j. has_key rows (ws j) h us) n f → FirstHit (λ j. same_key rows ws j i) n f
hits-of rows ws i {w} {us} {h} {n} {f} e p q x =
    subst (λ (v : List ℕ). FirstHit (λ j. has_key rows (ws j) (get_or v 0 0) (key_arguments rows v)) n f) e (subst (λ (v : List ℕ). FirstHit (λ j. has_key rows (ws j) (get_or w 0 0) v) n f) q (subst (λ (k : ℕ). FirstHit (λ j. has_key rows (ws j) k us) n f) p x))

-- two cells that have one key, either way
key_back : (rows : Bool) (v w : List ℕ) → has_key rows v (get_or w 0 0) (key_arguments rows w) ≡ true → has_key rows w (get_or v 0 0) (key_arguments rows v) ≡ true
key_back rows v w e =
    let a = eq_of (get_or v 0 0) (get_or w 0 0) (and_left (eqb (get_or v 0 0) (get_or w 0 0)) (same_words (key_arguments rows v) (key_arguments rows w)) e) in
    let b = words-eq (key_arguments rows v) (key_arguments rows w) (and_right (eqb (get_or v 0 0) (get_or w 0 0)) (same_words (key_arguments rows v) (key_arguments rows w)) e) in
    sym (key-yes rows w (get_or v 0 0) (key_arguments rows v) (sym a)) ∙ rw b (words_same (key_arguments rows w))

-- no cell behind one of the first i has its key
pub record Unlike (same : ℕ → ℕ → Bool) (n i : ℕ) : Type 0 where
  pub low : i ≤ n
  pub differ : (k j : ℕ) → k < i → k < j → j < n → same j k ≡ false

pub unlike-none : (same : ℕ → ℕ → Bool) (n : ℕ) → Unlike same n 0
unlike-none same n = record { low = omega arith; differ = λ k j h l w. absurd (omega arith) }

pub unlike-more : {same : ℕ → ℕ → Bool} {n i : ℕ} → Unlike same n i → i < n → ((j : ℕ) → i < j → j < n → same j i ≡ false) → Unlike same n (i + 1)
unlike-more {same} {n} {i} d h x = record {
  low = omega arith;
  differ = λ k j l m w. elim (eq-or-ne k i) [ inl u ↦ rw u (x j (omega arith) w) | inr u ↦ d.differ k j (omega arith) m w ];
}

pub unlike-all : (rows : Bool) (ws : ℕ → List ℕ) {n i : ℕ} → Unlike (same_key rows ws) n i → n ≤ i → Differ (same_key rows ws) n n
unlike-all rows ws {n} {i} d h = record {
  low = omega arith;
  differ = λ k j l m. no_hit (same_key rows ws j k) (λ e. true≢false (sym (key_back rows (ws j) (ws k) e) ∙ d.differ j k (omega arith) m l));
  again = λ l. absurd (omega arith);
}

-- the key of cell i, read from its words w: cells that have it are in the slot of i, and are alike
module _ (rows : Bool) (ws : ℕ → List ℕ) (i : ℕ) {w us : List ℕ} {h : ℕ} (e : w ≡ ws i) (p : h ≡ get_or w 0 0) (q : us ≡ key_arguments rows w) where
  pub own-slot : (x n j : ℕ) → has_key rows (ws j) h us ≡ true → slot_at x n rows ws j ≡ slot_at x n rows ws i
  own-slot x n j y = key-slot x n rows (ws j) h us y ∙ ap₂ (key_slot x n) (p ∙ ap (λ (v : List ℕ). get_or v 0 0) e) (q ∙ ap (key_arguments rows) e)

  pub own_key : (j : ℕ) → has_key rows (ws j) h us ≡ same_key rows ws j i
  own_key j = ap₂ (has_key rows (ws j)) (p ∙ ap (λ (v : List ℕ). get_or v 0 0) e) (q ∙ ap (key_arguments rows) e)
