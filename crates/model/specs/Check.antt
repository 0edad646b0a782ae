-- A check: it is handed the terms of the store and gives a value or a refusal, with the terms that the store then has.
use Rattle.std.specs.Prelude.{ℕ, ◌+◌, List, [], ◌∷◌, ◌++◌, Bool, true, false, ◌&&◌, length, leb, ltb}
use Rattle.std.proofs.Math.Option.{Option, none, some}
use Rattle.model.specs.Term.{Term, width, widths, find_term}

-- A refusal: its number and its fields.
pub record Refusal : Type 0 where
  pub number : ℕ
  pub fields : List ℕ

-- The Rust's `Result`, with the store that it leaves.
pub data Outcome (A : Type 0) : Type 0 where
  ok : A → List Term → Outcome A
  refused : Refusal → List Term → Outcome A

abbrev pub Check : Type 0 → Type 0
Check A = List Term → Outcome A

infixl 10 ◌>>=◌ ◌>>?◌
module _ {A B : Type 0} where
  abbrev pub and_then : Outcome A → (A → Check B) → Outcome B
  and_then (ok a s) f = f a s
  and_then (refused r s) f = refused r s

  -- One check, then the next: the Rust's `?`.
  abbrev pub ◌>>=◌ : Check A → (A → Check B) → Check B
  ◌>>=◌ m f s = and_then (m s) f

  -- The function of a value, where there is one.
  abbrev pub ◌>>?◌ : Option A → (A → Option B) → Option B
  ◌>>?◌ none f = none
  ◌>>?◌ (some a) f = f a

module _ {A : Type 0} where
  abbrev pub pure : A → Check A
  pure a s = ok a s

  abbrev pub refuse : ℕ → List ℕ → Check A
  refuse n fs s = refused (record { number = n; fields = fs }) s

  -- The first check where the test passes, else the second.
  abbrev pub choose : Bool → Check A → Check A → Check A
  choose true a b s = a s
  choose false a b s = b s

  -- The first value of the two.
  abbrev pub first_of : Option A → Option A → Option A
  first_of none b = b
  first_of (some a) b = some a

  -- The Rust's `ok_or_else`.
  unfoldable pub or_refuse : Option A → ℕ → List ℕ → Check A
  or_refuse none n fs = refuse n fs
  or_refuse (some a) n fs = pure a

-- Nothing where the test passes, else a refusal.
unfoldable pub check_that : Bool → ℕ → List ℕ → Check (Unit {0})
check_that true n fs = pure tt
check_that false n fs = refuse n fs

-- The terms of the store.
abbrev pub get_terms : Check (List Term)
get_terms s = ok s s

-- The room of the lent store: C cells and W pool words.
pub record Room : Type 0 where
  pub cells : ℕ
  pub words : ℕ

-- `add_node`, under `app` and `lit`: the number of an equal term, else the next, where there is room.
unfoldable pub add_node : Room → Term → Check ℕ
add_node room t s =
    elim (find_term s t 0) [
      | some i ↦ ok i s
      | none ↦
          elim (ltb (length s) room.cells && leb (widths s + width t) room.words) [
            | true ↦ ok (length s) (s ++ (t ∷ []))
            | false ↦ refuse 53 (widths s ∷ []) s
          ]
    ]
