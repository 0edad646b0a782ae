-- What a note changes, and how a round starts.
use mathlib.Core.Path.{◌≡◌, refl, sym, ap, ◌∙◌}
use mathlib.Core.Bool.{Bool, true, false}
use mathlib.Core.List.{List}
use Prim.Native.Nat.{ℕ, zero, suc, ◌+◌, ◌≤◌, ◌<◌}
use native.Mathlib.Omega.{arith}
use lib.Dec.{eqb}
use borrow.Author.Tests.{eqb-true, eqb-false, eq-eqb, ne_eqb}
use lib.ListN.{length, get_or, set, replicate, length-set, length-replicate}
use lib.Seq.{get_or-set_same, get_or-set_other}
use Rattle.memo.specs.Memo.{round_of, stamp_at, value_at, is_noted, put_value, note_at, Past, Started}

-- a note of the value t of expression e
module _ (m : List ℕ) (e t : ℕ) where
  pub note-is : set (set m (e + e + 1) (round_of m)) (e + e + 2) t ≡ note_at m e t
  unfolding note_at
  note-is = refl

  pub note-length : length (note_at m e t) ≡ length m
  unfolding note_at
  note-length = length-set (set m (e + e + 1) (round_of m)) (e + e + 2) t ∙ length-set m (e + e + 1) (round_of m)

  -- a word that is neither of the two stays
  note-word : (i : ℕ) → (i ≡ e + e + 1 → ⊥) → (i ≡ e + e + 2 → ⊥) → get_or (note_at m e t) i 0 ≡ get_or m i 0
  unfolding note_at
  note-word i h k = get_or-set_other (set m (e + e + 1) (round_of m)) (e + e + 2) i t 0 k ∙ get_or-set_other m (e + e + 1) i (round_of m) 0 h

  pub note-round : round_of (note_at m e t) ≡ round_of m
  note-round = note-word 0 (λ q. omega arith) (λ q. omega arith)

  pub note-stamp-other : (k : ℕ) → (k ≡ e → ⊥) → stamp_at (note_at m e t) k ≡ stamp_at m k
  note-stamp-other k h = note-word (k + k + 1) (λ q. h (omega arith)) (λ q. omega arith)

  pub note-value-other : (k : ℕ) → (k ≡ e → ⊥) → value_at (note_at m e t) k ≡ value_at m k
  note-value-other k h = note-word (k + k + 2) (λ q. omega arith) (λ q. h (omega arith))

  pub note-other : (k : ℕ) → (k ≡ e → ⊥) → is_noted (note_at m e t) k ≡ is_noted m k
  note-other k h = λ i. eqb (note-stamp-other k h i) (note-round i)

  module _ (h : e + e + 2 < length m) where
    note-stamp : stamp_at (note_at m e t) e ≡ round_of m
    unfolding note_at
    note-stamp =
        get_or-set_other (set m (e + e + 1) (round_of m)) (e + e + 2) (e + e + 1) t 0 (λ q. omega arith) ∙ get_or-set_same m (e + e + 1) (round_of m) 0 (omega arith)

    pub note-here : is_noted (note_at m e t) e ≡ true
    note-here = eq-eqb (stamp_at (note_at m e t) e) (round_of (note_at m e t)) (note-stamp ∙ sym note-round)

    pub note-value : value_at (note_at m e t) e ≡ t
    unfolding note_at
    note-value = get_or-set_same (set m (e + e + 1) (round_of m)) (e + e + 2) t 0 (rw (length-set m (e + e + 1) (round_of m)) h)

    pub note-past : Past m → Past (note_at m e t)
    note-past p = record { each = λ k. go k (eqb k e) refl }
      where
        go : (k : ℕ) (b : Bool) → eqb k e ≡ b → stamp_at (note_at m e t) k ≤ round_of (note_at m e t)
        go k true q =
            let i : k ≡ e = eqb-true k e q in
            let z : stamp_at (note_at m e t) k ≡ round_of m = ap (stamp_at (note_at m e t)) i ∙ note-stamp in
            let y = note-round in omega arith
        go k false q =
            let z = note-stamp-other k (eqb-false k e q) in
            let y = note-round in
            let x = p.each k in omega arith

-- another word as the value of expression e
module _ (m : List ℕ) (e t : ℕ) where
  pub put-length : length (put_value m e t) ≡ length m
  put-length = length-set m (e + e + 2) t

  put-round : round_of (put_value m e t) ≡ round_of m
  put-round = get_or-set_other m (e + e + 2) 0 t 0 (λ q. omega arith)

  put-stamp : (k : ℕ) → stamp_at (put_value m e t) k ≡ stamp_at m k
  put-stamp k = get_or-set_other m (e + e + 2) (k + k + 1) t 0 (λ q. omega arith)

  pub put-noted : (k : ℕ) → is_noted (put_value m e t) k ≡ is_noted m k
  put-noted k = λ i. eqb (put-stamp k i) (put-round i)

  pub put-value : e + e + 2 < length m → value_at (put_value m e t) e ≡ t
  put-value h = get_or-set_same m (e + e + 2) t 0 h

  pub put-value-other : (k : ℕ) → (k ≡ e → ⊥) → value_at (put_value m e t) k ≡ value_at m k
  put-value-other k h = get_or-set_other m (e + e + 2) (k + k + 2) t 0 (λ q. h (omega arith))

  pub put-past : Past m → Past (put_value m e t)
  put-past p = record { each = λ k. let a = put-stamp k in let b = put-round in let c = p.each k in omega arith }

-- rounds
replicate-word : (n i : ℕ) → get_or {A = ℕ} (replicate n 0) i 0 ≡ 0
replicate-word zero i = refl
replicate-word (suc n) zero = refl
replicate-word (suc n) (suc i) = replicate-word n i

-- a memo whose stamps are all lower than its round
started : {m : List ℕ} → ((k : ℕ) → stamp_at m k < round_of m) → Started m
started {m} h = record {
  past = record { each = λ k. let x = h k in omega arith };
  none = λ k. let x = h k in ne_eqb (stamp_at m k) (round_of m) (λ q. omega arith);
}

pub next-started : (m : List ℕ) → 0 < length m → Past m → (r : ℕ) → r ≡ round_of m + 1 → Started (set m 0 r)
next-started m l p r q = started (λ k.
    let a = get_or-set_same m 0 r 0 l in
    let b = get_or-set_other m 0 (k + k + 1) r 0 (λ e. omega arith) in
    let c = p.each k in omega arith)

pub first-started : (n : ℕ) → 0 < n → Started (set (replicate n 0) 0 1)
first-started n l = started (λ k.
    let zs : List ℕ = replicate n 0 in
    let h : length zs ≡ n = length-replicate {A = ℕ} n 0 in
    let a : round_of (set zs 0 1) ≡ 1 = get_or-set_same zs 0 1 0 (omega arith) in
    let b : stamp_at (set zs 0 1) k ≡ stamp_at zs k = get_or-set_other zs 0 (k + k + 1) 1 0 (λ e. omega arith) in
    let c = replicate-word n (k + k + 1) in omega arith)
