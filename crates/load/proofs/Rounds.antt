-- Laws of the numbers 6 to 9, of rising ends, of the room and of the slots.
use Rattle.std.specs.Prelude as prelude
use Rattle.std.specs.Prelude.{Some, None}
use mathlib.Core.Path.{◌≡◌, refl, ap, ◌∙◌}
use mathlib.Core.Bool.{Bool, true, false, not, ◌&&◌, ◌||◌, true≢false}
use mathlib.Core.List.{List, [], ◌∷◌}
use mathlib.Core.Option.{Option, none, some}
use Prim.Native.Nat.{ℕ, zero, suc, ◌+◌, ◌*◌, ◌/◌, ◌%◌, ◌≤◌, ◌<◌, ◌^◌}
use native.Mathlib.Numerals.{add-one}
use native.Mathlib.Omega.{arith}
use native.Mathlib.Decide.{dec_lt, ℕ_discrete as dec_eq}
use lib.Dec.{eqb, leb, ltb}
use lib.ListN.{length, get_or, drop, drop_of_length-le}
use native.Mathlib.Nat.{pow-suc}
use lib.Count.{ones, ones_step}
use Rattle.std.proofs.lemmas.Nat.{zero_from_ones, ones_le_self}
use lib.Seq.{drop-cons}
use borrow.Author.Tests.{eq-eqb, ne_eqb, lt-ltb, le-ltb, le-leb, lt-leb}
use Rattle.model.specs.Layout.{Sizes, Tables, table_list}
use Rattle.model.specs.Cell.{Cell}
use Rattle.model.specs.Check.{Refusal}
use Rattle.model.specs.Load.{Lent, ends_rise, marks, first_marked, first_failing, doubles}
use Rattle.load.specs.Held.{first_found, room_lacks}

-- the refusal of a cell that was found
abbrev pub found_refusal : ℕ → prelude.Option ℕ → Option Refusal
found_refusal n (Some j) = some (record { number = n; fields = j ∷ [] })
found_refusal n None = none

found-marked : (n i : ℕ) (ms : List Bool) → first_marked n i ms ≡ found_refusal n (first_found i ms)
unfolding first_marked first_found
found-marked n i [] = refl
found-marked n i (true ∷ ms) = refl
found-marked n i (false ∷ ms) = found-marked n (suc i) ms

pub failing-is : (n : ℕ) (fs : List (ℕ → Cell → Bool)) (t : Tables) → first_failing n fs t ≡ found_refusal n (first_found 0 (marks fs (table_list t)))
failing-is n fs t = found-marked n 0 _

-- the first refusal of the two
abbrev pub or_rest : Option Refusal → Option Refusal → Option Refusal
or_rest o rest = elim o [ none ↦ rest | some r ↦ some r ]

-- ends that rise, one after another
module _ (E : List ℕ) (start i pool : ℕ) where
  rise-step : i < length E → ends_rise start (drop i E) pool ≡ (leb start (get_or E i 0) && ends_rise (get_or E i 0) (drop (i + 1) E) pool)
  rise-step h = rw (drop-cons E i 0 h, add-one)

  pub rise-no : i < length E → get_or E i 0 < start → false ≡ ends_rise start (drop i E) pool
  rise-no h l = rw (rise-step h, lt-leb start (get_or E i 0) l)

  pub rise-yes : i < length E → start ≤ get_or E i 0 → ends_rise start (drop i E) pool ≡ ends_rise (get_or E i 0) (drop (i + 1) E) pool
  rise-yes h l = rw (rise-step h, le-leb start (get_or E i 0) l)

  pub rise-end : length E ≤ i → eqb start pool ≡ ends_rise start (drop i E) pool
  rise-end h = rw (drop_of_length-le E h)

-- 10 by too many cells
or-true : (b : Bool) → (b || true) ≡ true
or-true true = refl
or-true false = refl

pub room-many : (z : Sizes) (words : ℕ) (l : Lent) → 65536 < l.kinds → true ≡ room_lacks z words l
room-many z words l h = rw (lt-ltb 65536 l.kinds h, or-true)

or-false : (b : Bool) → (b || false) ≡ b
or-false true = refl
or-false false = refl

pub room-few : (z : Sizes) (words : ℕ) (l : Lent) → l.kinds ≤ 65536
    → (ltb l.kinds z.terms || ltb l.pool words || ltb 1048576 l.pool || not (eqb l.kinds l.ends) || ltb l.scratch (2 * (l.kinds + z.proofs))) ≡ room_lacks z words l
room-few z words l h = rw (le-ltb 65536 l.kinds h, or-false)

pub room-cells : (z : Sizes) (words : ℕ) (l : Lent) → room_lacks z words l ≡ false → l.kinds ≤ 65536
room-cells z words l h = go (dec_lt 65536 l.kinds)
  where
    go : Dec (65536 < l.kinds) → l.kinds ≤ 65536
    go (yes q) = absurd (true≢false (room-many z words l q ∙ h))
    go (no q) = omega arith

-- doubling, where every try is even
doubles-half : (f p m : ℕ) → doubles f (p * 2) (m * 2) ≡ doubles f p m
unfolding doubles
doubles-half zero p m = refl
doubles-half (suc f) p m = elim (dec_eq p m) [
  | yes e ↦ rw (doubles, eq-eqb p m e, eq-eqb (p * 2) (m * 2) (omega arith))
  | no e ↦ rw (doubles, ne_eqb p m e, ne_eqb (p * 2) (m * 2) (λ q. e (omega arith))) (doubles-half f (p * 2) m)
]

doubles-odd : (f p m : ℕ) → doubles f (p * 2) (m * 2 + 1) ≡ false
unfolding doubles
doubles-odd zero p m = refl
doubles-odd (suc f) p m = rw (doubles, ne_eqb (p * 2) (m * 2 + 1) (λ q. omega arith)) (doubles-odd f (p * 2) m)

-- a power of two has one digit that is set
pub power-ones : (f n : ℕ) → n < 2 ^ f → doubles f 1 n ≡ eqb (ones n) 1
unfolding doubles
power-ones zero n h = rw (doubles, ne_eqb (ones n) 1 (λ q. omega (arith, ones_le_self n)))
power-ones (suc f) n h = go (power-ones f (n / 2)) (dec_eq 1 n) (dec_eq (n % 2) 0)
  where
    step : ones n ≡ n % 2 + ones (n / 2)
    step = ones_step n

    half : n / 2 < 2 ^ f
    half = omega (arith, pow-suc 2 f)

    even : n % 2 ≡ 0 → n ≡ n / 2 * 2
    even e = omega arith

    go : (n / 2 < 2 ^ f → doubles f 1 (n / 2) ≡ eqb (ones (n / 2)) 1) → Dec (1 ≡ n) → Dec (n % 2 ≡ 0) → doubles (suc f) 1 n ≡ eqb (ones n) 1
    go less (yes e) d = rw (doubles, eq-eqb 1 n e, eq-eqb (ones n) 1 (omega (arith, step, ones_le_self (n / 2))))
    go less (no e) (yes d) =
        rw (doubles, ne_eqb 1 n e) (ap (doubles f 2) (even d) ∙ doubles-half f 1 (n / 2) ∙ less half ∙ ap (λ (k : ℕ). eqb k 1) (omega (arith, step)))
    go less (no e) (no d) =
        let odd : n ≡ n / 2 * 2 + 1 = omega arith in
        let rest : ones (n / 2) ≡ 0 → ⊥ = λ z. let q : n / 2 ≡ 0 = zero_from_ones (n / 2) z in e (omega arith) in
        rw (doubles, ne_eqb 1 n e, ne_eqb (ones n) 1 (λ q. rest (omega (arith, step)))) (ap (doubles f 2) odd ∙ doubles-odd f 1 (n / 2))
