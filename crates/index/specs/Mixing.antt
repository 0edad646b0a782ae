-- The 32-bit mix of a cell by a multiplier, and the slot that it gives. Sums wrap at 2 to the 32, and so do products but for `times`.
use Rattle.std.specs.Prelude.{ℕ, ◌+◌, ◌*◌, ◌/◌, ◌%◌, ◌^◌, true, false, List, [], ◌∷◌, nat_le}
use Rattle.model.specs.Cell.{Cell}

-- A good odd constant: 2 to the 32 divided by the golden ratio.
abbrev pub golden : ℕ
golden = 2654435761

-- The multiplier for the word w that was lent; it is odd.
unfoldable pub multiplier_of : ℕ → ℕ
multiplier_of w = (golden + (w + w) % 2 ^ 32) % 2 ^ 32

-- A product modulo 2 to the 32 less 5, a prime, but for the carries: what is above 2 to the 32 counts five times.
unfoldable pub times : ℕ → ℕ → ℕ
times a b = (a * b % 2 ^ 32 + a * b / 2 ^ 32 * 5) % 2 ^ 32

-- The mix h with two more words: by and by a polynomial in x, with a word for each power.
unfoldable pub stirred : ℕ → ℕ → ℕ → ℕ → ℕ
stirred x h w v = (times ((h + w) % 2 ^ 32) (times x x) + times v x) % 2 ^ 32

-- A last word without another has the constant beside it, which is no term's number.
unfoldable pub mix_from : ℕ → ℕ → List ℕ → ℕ
mix_from x h [] = h
mix_from x h (w ∷ []) = stirred x h w golden
mix_from x h (w ∷ v ∷ ws) = mix_from x (stirred x h w v) ws

-- The last step, so that words in a row do not stay in a row: h (2 h + 1), times the constant.
unfoldable pub spread : ℕ → ℕ
spread h = h * (((h + h) % 2 ^ 32 + 1) % 2 ^ 32) % 2 ^ 32 * golden % 2 ^ 32

-- The mix of a cell starts with its kind.
abbrev pub mix_of : ℕ → Cell → ℕ
mix_of x c = spread (mix_from x c.kind c.words)

-- The slot of a mix among n: its high bits.
abbrev pub high_bits : ℕ → ℕ → ℕ
high_bits n m = elim (nat_le n (2 ^ 32)) [ true ↦ m * n / 2 ^ 32 | false ↦ m ]

-- A cell's own slot among n.
abbrev pub slot_of : ℕ → ℕ → Cell → ℕ
slot_of x n c = high_bits n (mix_of x c)
