-- A validator that computes, on a store and on trees: 5 - 7 is -2, added where there is room, 53 where there is none, 46 where it has no value. Which kinds have a validator, a container as
-- output, and rows; no normaliser of an admitted job computes.
use Prim.Native.Nat.{ℕ, zero, suc, ◌<◌}
use native.Mathlib.Omega.{arith}
use mathlib.Core.Path.{◌≡◌, refl, subst}
use mathlib.Core.List.{List, [], ◌∷◌, map}
use mathlib.Core.Bool.{Bool, true, false}
use mathlib.Core.Option.{some, none-ne-some, some-injective}
use lib.ListN.{length, get_or}
use lib.Dec.{eqb}
use Rattle.model.specs.Cell.{Cell, no_cell}
use Rattle.model.specs.Term.{Term, Literal, lit, var, find_term, get_term}
use Rattle.model.specs.Program.{Program, Primitive, computes, looks_up}
use Rattle.model.specs.Layout.{Sizes, Tables}
use Rattle.model.specs.Decode.{read_primitive, read_normaliser}
use Rattle.model.specs.Normalize.{normaliser_of}
use Rattle.model.specs.Check.{ok, refused, or_refuse, add_node}
use Rattle.model.specs.Counts.{int_of, fits, literal_of_int, count_of, exact, fitting, count_value}
use Rattle.model.specs.Evaluate.{primitive_at, validate, validated}
use Rattle.model.specs.Tree.{leaf, tnil, tcons, tree_validate}
use Rattle.model.specs.Load.{primitive_looks_up, Admitted}
use Rattle.model.proofs.Tests.{and_right, not-true}

-- One primitive, named 9, a difference; no rows.
abbrev differing : Program
differing = record {
  globals = [];
  functions = [];
  primitives = record { name = 9; kind = 5; validator = true; container = false } ∷ [];
  rows = [];
  normalisers = [];
  rules = [];
}

abbrev five : Literal
five = record { kind = 2; low = 5; high = 0 }

abbrev seven : Literal
seven = record { kind = 2; low = 7; high = 0 }

abbrev minus-two : Literal
minus-two = record { kind = 2; low = 4294967294; high = 4294967295 }

-- Terms 5, 7 and a variable.
abbrev store : List Term
store = lit five ∷ lit seven ∷ var 4 ∷ []

adds : validate (record { cells = 4; words = 10 }) differing 0 (0 ∷ 1 ∷ []) store ≡ ok (some 3) (lit five ∷ lit seven ∷ var 4 ∷ lit minus-two ∷ [])
unfolding validate count_value count_of int_of exact fitting fits literal_of_int add_node find_term get_term
adds = refl

full : validated (record { cells = 4; words = 9 }) differing 51 0 (0 ∷ 1 ∷ []) store ≡ refused (record { number = 53; fields = 7 ∷ [] }) store
unfolding validate count_value count_of int_of exact fitting fits literal_of_int add_node find_term get_term
full = refl

no-integer : validated (record { cells = 4; words = 10 }) differing 51 0 (0 ∷ 2 ∷ []) store ≡ refused (record { number = 46; fields = 9 ∷ [] }) store
unfolding validate count_value count_of int_of or_refuse get_term
no-integer = refl

on-trees : tree_validate differing [] 0 (tcons (leaf five) (tcons (leaf seven) tnil)) ≡ some (leaf minus-two)
unfolding tree_validate count_value count_of int_of exact fitting fits literal_of_int
on-trees = refl

-- Primitives of the kinds 0 to 8: which have a validator, which a container as output, and which may have rows and normalisers (8).
abbrev of-kinds : (Primitive → Bool) → List Bool
of-kinds f = map (λ k. f (read_primitive (record { kind = k; words = 9 ∷ [] }))) (0 ∷ 1 ∷ 2 ∷ 3 ∷ 4 ∷ 5 ∷ 6 ∷ 7 ∷ 8 ∷ [])

with-validator : of-kinds (λ p. p.validator) ≡ (false ∷ true ∷ false ∷ true ∷ true ∷ true ∷ true ∷ true ∷ true ∷ [])
with-validator = refl

with-container : of-kinds (λ p. p.container) ≡ (false ∷ false ∷ true ∷ true ∷ false ∷ false ∷ false ∷ false ∷ false ∷ [])
with-container = refl

with_rows : of-kinds looks_up ≡ (false ∷ true ∷ false ∷ true ∷ false ∷ false ∷ false ∷ false ∷ false ∷ [])
with_rows = refl

-- A primitive that a row or a normaliser of an admitted job names does not compute.
looks-up : (cs : List Cell) (p : ℕ) → primitive_looks_up cs p ≡ true → computes (primitive_at (map read_primitive cs) p) ≡ false
looks-up [] p e = refl
looks-up (c ∷ cs) zero e = not-true _ (and_right (read_primitive c).validator _ e)
looks-up (c ∷ cs) (suc p) e = looks-up cs p e

normaliser-valid : (valid : ℕ → Bool) (cs : List Cell) → ((i : ℕ) → i < length cs → valid (read_normaliser (get_or cs i no_cell)).primitive ≡ true)
    → (f p : ℕ) → normaliser_of (map read_normaliser cs) f ≡ some p → valid p ≡ true
normaliser-valid valid [] h f p e = absurd (none-ne-some p e)
normaliser-valid valid (c ∷ cs) h f p e = go (eqb (read_normaliser c).head f) e (normaliser-valid valid cs (λ i l. h (suc i) (omega arith)) f p)
  where
    go : (b : Bool) → elim b [ true ↦ some (read_normaliser c).primitive | false ↦ normaliser_of (map read_normaliser cs) f ] ≡ some p
        → (normaliser_of (map read_normaliser cs) f ≡ some p → valid p ≡ true) → valid p ≡ true
    go true e k = subst (λ (q : ℕ). valid q ≡ true) (some-injective _ p e) (h 0 (omega arith))
    go false e k = k e

pub normaliser-looks : (z : Sizes) (t : Tables) → Admitted z t → (f p : ℕ) → normaliser_of (map read_normaliser t.normalisers) f ≡ some p
    → computes (primitive_at (map read_primitive t.primitives) p) ≡ false
normaliser-looks z t a f p e =
    looks-up t.primitives p (normaliser-valid (primitive_looks_up t.primitives) t.normalisers (λ i l. a.validated 7 (omega arith) i l) f p e)
