-- The eight words of an answer.
use Rattle.std.specs.Prelude.{List, [], ◌∷◌, ℕ}

-- Those of a proof that passes: the number 0, the terms in the store, the claim's sides, and the proof's height.
abbrev pub passed_words : ℕ → ℕ → ℕ → ℕ → List ℕ
passed_words terms lhs rhs height = 0 ∷ terms ∷ lhs ∷ rhs ∷ height ∷ 0 ∷ 0 ∷ 0 ∷ []
