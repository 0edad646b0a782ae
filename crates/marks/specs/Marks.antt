-- Marks on the terms of a store: a bit for each term, 32 to a word, 0 where it is not marked. A mark stands for a term and all its subterms.
use Rattle.std.specs.Prelude.{ℕ, zero, suc, ◌+◌, ◌/◌, ◌%◌, ◌^◌, List, [], ◌∷◌, Bool, true, false, get_or, set, replicate, ltb}
use Rattle.std.specs.Int.Bits.{bit_or}
use Rattle.model.specs.Term.{Term, get_term}
use Rattle.model.specs.Evaluate.{children}

-- n words without a mark.
abbrev pub zeros : ℕ → List ℕ
zeros n = replicate n 0

-- The words that hold a mark for each of n terms.
abbrev pub words_for : ℕ → ℕ
words_for n = (n + 31) / 32

-- Term t is marked.
unfoldable pub is_marked : List ℕ → ℕ → Bool
is_marked m t = ltb 0 (get_or m (t / 32) 0 / 2 ^ (t % 32) % 2)

-- The marks with term t marked.
unfoldable pub with_mark : List ℕ → ℕ → List ℕ
with_mark m t = set m (t / 32) (bit_or (get_or m (t / 32) 0) (2 ^ (t % 32)))

-- The marks with each of these terms marked.
unfoldable pub mark_all : List ℕ → List ℕ → List ℕ
mark_all [] m = m
mark_all (x ∷ xs) m = mark_all xs (with_mark m x)

-- A marked term marks its children.
abbrev pub close_at : List Term → ℕ → List ℕ → Bool → List ℕ
close_at s i m true = mark_all (children (get_term s i)) m
close_at s i m false = m

-- The first n terms mark their children, from the top down: then each subterm of a marked term is marked.
unfoldable pub close : List Term → ℕ → List ℕ → List ℕ
close s zero m = m
close s (suc i) m = close s i (close_at s i m (is_marked m i))
