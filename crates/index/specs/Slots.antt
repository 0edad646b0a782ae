-- Slots that list numbers, whatever these number. An empty slot holds 0, the slot of the number i holds i + 1.
use Rattle.std.specs.Prelude.{◌≡◌, ℕ, ◌+◌, ◌-◌, ◌%◌, ◌<◌, ◌≤◌, Bool, true, false, List, [], ◌∷◌, ◌++◌, length, take, drop, ◌==◌, ◌≢◌, slice_index, slice_index_or}

-- What stands k steps on from slot s, round the end.
abbrev pub onward : List ℕ → ℕ → ℕ → ℕ
onward I s k = slice_index I ((s + k) % length I)

-- x is met from slot s on before an empty slot.
pub record Met (I : List ℕ) (s x : ℕ) : Type 0 where
  pub steps : ℕ
  pub few : steps < length I
  pub there : onward I s steps ≡ x
  pub full : (j : ℕ) → j < steps → onward I s j ≢ 0

-- Slot a is the first empty one met from slot s on.
pub record Free (I : List ℕ) (s a : ℕ) : Type 0 where
  pub steps : ℕ
  pub few : steps < length I
  pub there : a ≡ (s + steps) % length I
  pub empty : slice_index_or I a 0 ≡ 0
  pub full : (j : ℕ) → j < steps → onward I s j ≢ 0

-- How many slots are full.
unfoldable pub used : List ℕ → ℕ
used [] = 0
used (x ∷ xs) = elim (x == 0) [ true ↦ used xs | false ↦ used xs + 1 ]

-- The slots list the numbers below m, each once and nothing else, and each is met from its own slot, home i, before an empty one.
pub record Listed (I : List ℕ) (home : ℕ → ℕ) (m : ℕ) : Type 0 where
  pub once : (a b : ℕ) → a < length I → b < length I → (slice_index I a ≢ 0) → slice_index I a ≡ slice_index I b → a ≡ b
  pub only : (a : ℕ) → a < length I → slice_index I a ≤ m
  pub met : (i : ℕ) → i < m → Met I (home i) (i + 1)
  pub full : used I ≡ m

-- The slots from s on, round the end.
abbrev pub round_from : List ℕ → ℕ → List ℕ
round_from I s = drop s I ++ take s I

-- How many numbers a look-up compares that meets these slots in turn: those before the first empty slot, up to the first that hits.
unfoldable pub comparisons : (ℕ → Bool) → List ℕ → ℕ
comparisons hit [] = 0
comparisons hit (x ∷ xs) = elim (x == 0) [ true ↦ 0 | false ↦ elim (hit (x - 1)) [ true ↦ 1 | false ↦ comparisons hit xs + 1 ] ]
