-- Terms, as termdag.rs has them: a term names its children by their numbers in the table.
use Rattle.std.specs.Prelude.{◌≡◌, ℕ, zero, suc, ◌+◌, ◌<◌, Bool, true, false, ◌&&◌, length, get_or, drop, eqb}
use mathlib.Core.List.{List, [], ◌∷◌, ◌++◌, Memᴰ}
use Rattle.std.proofs.Math.Option.{Option, none, some}
use Rattle.model.specs.Cell.{Cell, same_words}

-- A literal's three words.
pub record Literal : Type 0 where
  pub kind : ℕ
  pub low : ℕ
  pub high : ℕ

-- `Term`: a literal, a variable, or a head with its children.
pub data Term : Type 0 where
  lit : Literal → Term
  var : ℕ → Term
  app : ℕ → List ℕ → Term

-- The kind of a term's cell.
abbrev pub term_kind : Term → ℕ
term_kind (lit l) = 0
term_kind (var x) = 1
term_kind (app f xs) = 2

-- The words of a term's cell.
abbrev pub term_words : Term → List ℕ
term_words (lit l) = l.kind ∷ l.low ∷ l.high ∷ []
term_words (var x) = x ∷ []
term_words (app f xs) = f ∷ xs

-- The cell of a term.
abbrev pub cell_of : Term → Cell
cell_of t = record { kind = term_kind t; words = term_words t }

-- The literal of three words.
abbrev pub read_literal : List ℕ → Literal
read_literal ws = record { kind = get_or ws 0 0; low = get_or ws 1 0; high = get_or ws 2 0 }

-- The term of a cell.
unfoldable pub read_term : Cell → Term
read_term c = get_or (lit (read_literal c.words) ∷ var (get_or c.words 0 0) ∷ []) c.kind (app (get_or c.words 0 0) (drop 1 c.words))

-- Literals are equal when all three words are.
abbrev pub same_literal : Literal → Literal → Bool
same_literal a b = eqb a.kind b.kind && (eqb a.low b.low && eqb a.high b.high)

-- Equality of terms, as a test.
abbrev pub same_term : Term → Term → Bool
same_term (lit a) (lit b) = same_literal a b
same_term (lit a) (var y) = false
same_term (lit a) (app g ys) = false
same_term (var x) (lit b) = false
same_term (var x) (var y) = eqb x y
same_term (var x) (app g ys) = false
same_term (app f xs) (lit b) = false
same_term (app f xs) (var y) = false
same_term (app f xs) (app g ys) = eqb f g && same_words xs ys

-- The pool words that a term takes.
abbrev pub width : Term → ℕ
width t = length (term_words t)

-- The pool words that a list of terms takes.
abbrev pub widths : List Term → ℕ
widths [] = 0
widths (t ∷ ts) = width t + widths ts

-- The number of the first term equal to t, where the list's first has the number i.
unfoldable pub find_term : List Term → Term → ℕ → Option ℕ
find_term [] t i = none
find_term (u ∷ us) t i = elim (same_term u t) [ true ↦ some i | false ↦ find_term us t (suc i) ]

-- `get`: the term of a number.
unfoldable pub get_term : List Term → ℕ → Option Term
get_term [] n = none
get_term (t ∷ ts) zero = some t
get_term (t ∷ ts) (suc n) = get_term ts n

-- A store and one that it grew to.
pub record Extends (s s' : List Term) : Type 0 where
  pub more : List Term
  pub is : s' ≡ s ++ more

-- All numbers of a list lie below n.
abbrev pub Below : ℕ → List ℕ → Type 0
Below n xs = (x : ℕ) → Memᴰ x xs → x < n

-- Children are lower than their own number.
pub record Ordered (s : List Term) : Type 0 where
  pub lower : (n f : ℕ) (xs : List ℕ) → get_term s n ≡ some (app f xs) → Below n xs
