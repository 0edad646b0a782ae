-- `normalize_container` of proof_format.rs.
use Rattle.std.specs.Prelude.{ℕ, List, [], ◌∷◌, true, false, eqb}
use Rattle.std.proofs.Math.Option.{Option, none, some}
use Rattle.model.specs.Term.{Term, lit, var, app, get_term}
use Rattle.model.specs.Program.{Program, Normaliser}
use Rattle.model.specs.Check.{Check, ◌>>=◌, pure, get_terms, Room}
use Rattle.model.specs.Evaluate.{validate}

-- An application's head and children.
pub record App : Type 0 where
  pub head : ℕ
  pub args : List ℕ

abbrev pub as_app : Option Term → Option App
as_app none = none
as_app (some (lit l)) = none
as_app (some (var x)) = none
as_app (some (app f xs)) = some (record { head = f; args = xs })

-- The primitive that normalises a head.
abbrev pub normaliser_of : List Normaliser → ℕ → Option ℕ
normaliser_of [] f = none
normaliser_of (n ∷ ns) f = elim (eqb n.head f) [ true ↦ some n.primitive | false ↦ normaliser_of ns f ]

-- The Rust's `unwrap_or`.
module _ {A : Type 0} where
  abbrev pub unwrap_or : Option A → A → A
  unwrap_or none d = d
  unwrap_or (some x) d = x

module _ (room : Room) (prog : Program) where
  abbrev pub normalize_by : ℕ → List ℕ → Option ℕ → Check ℕ
  normalize_by t xs none = pure t
  normalize_by t xs (some p) = validate room prog p xs >>= λ o. pure (unwrap_or o t)

  abbrev pub normalize_app : ℕ → Option App → Check ℕ
  normalize_app t none = pure t
  normalize_app t (some a) = normalize_by t a.args (normaliser_of prog.normalisers a.head)

  -- A container's normal form; no normaliser, or no value, gives the term itself.
  unfoldable pub normalize_container : ℕ → Check ℕ
  normalize_container t = get_terms >>= λ s. normalize_app t (as_app (get_term s t))
