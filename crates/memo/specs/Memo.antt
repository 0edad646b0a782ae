-- The words of a memo.
use Rattle.std.specs.Prelude.{◌≡◌, Bool, false, List, ℕ, ◌+◌, ◌≤◌, eqb, get_or, set}

-- The round.
abbrev pub round_of : List ℕ → ℕ
round_of m = get_or m 0 0

-- The round in which expression k was evaluated last.
abbrev pub stamp_at : List ℕ → ℕ → ℕ
stamp_at m k = get_or m (k + k + 1) 0

-- Its value.
abbrev pub value_at : List ℕ → ℕ → ℕ
value_at m k = get_or m (k + k + 2) 0

-- Expression k was evaluated in this round.
abbrev pub is_noted : List ℕ → ℕ → Bool
is_noted m k = eqb (stamp_at m k) (round_of m)

-- The memo with another word as the value of expression k.
abbrev pub put_value : List ℕ → ℕ → ℕ → List ℕ
put_value m k t = set m (k + k + 2) t

-- The memo with the value t of expression k.
unfoldable pub note_at : List ℕ → ℕ → ℕ → List ℕ
note_at m k t = set (set m (k + k + 1) (round_of m)) (k + k + 2) t

-- No expression was evaluated later than in this round.
pub record Past (m : List ℕ) : Type 0 where
  pub each : (k : ℕ) → stamp_at m k ≤ round_of m

-- A round in which nothing is noted.
pub record Started (m : List ℕ) : Type 0 where
  pub past : Past m
  pub none : (k : ℕ) → is_noted m k ≡ false
