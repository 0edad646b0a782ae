-- The words that a reader gives, where its bytes are known, and the line that words make.
use Rattle.std.specs.Prelude.{◌≡◌, ℕ, ◌≤◌, List, [], ◌∷◌, ◌++◌, length, take, drop, ⊤, Option, None, Some, IfSome}
use Rattle.std.specs.Fmt.{decimal}
use Rattle.std.specs.Io.KnownBytes.{Consumes}
use Rattle.model.specs.Host.{words_of}

-- some bytes at the front are those that the reader lost
abbrev pub LosesFront : Option (List ℕ) → Option (List ℕ) → List ℕ → Type 0
LosesFront old new bytes = (n : ℕ) × (n ≤ length bytes) × Consumes old new (take n bytes)

-- the words of the known bytes are these, and then those of the bytes that are left
abbrev pub GivesWords : Option (List ℕ) → Option (List ℕ) → List ℕ → Type 0
GivesWords None new ws = ⊤
GivesWords (Some xs) None ws = ⊥
GivesWords (Some xs) (Some ys) ws = words_of xs ≡ ws ++ words_of ys

-- some words at the front are the first of the known bytes, and those behind them are as they were
abbrev pub HoldsSome : Option (List ℕ) → List ℕ → List ℕ → Type 0
HoldsSome known old new =
    (n : ℕ) × (n ≤ length new) × (drop n new ≡ drop n old)
    × IfSome known (λ xs. (ws : List ℕ) × (words_of xs ≡ take n new ++ ws))

-- words in decimal, each behind a space
abbrev pub spaced : List ℕ → List ℕ
spaced [] = []
spaced (x ∷ xs) = 32 ∷ (decimal x ++ spaced xs)

-- the words on a line, in decimal, a space between two
abbrev pub line_of : List ℕ → List ℕ
line_of ws = drop 1 (spaced ws) ++ 10 ∷ []
