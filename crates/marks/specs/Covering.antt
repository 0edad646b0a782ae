-- What marks stand for.
use Rattle.std.specs.Prelude.{ℕ, ◌<◌, ◌≡◌, true, length}
use mathlib.Core.List.{List, Memᴰ}
use Rattle.model.specs.Term.{Term, get_term}
use Rattle.model.specs.Program.{Proposition}
use Rattle.model.specs.Evaluate.{children, same}
use Rattle.marks.specs.Marks.{is_marked}

-- x is t or a subterm of it.
pub data Under (s : List Term) (x : ℕ) : ℕ → Type 0 where
  here : {t : ℕ} → x ≡ t → Under s x t
  down : {t c : ℕ} → Memᴰ c (children (get_term s t)) → Under s x c → Under s x t

-- A term is marked.
abbrev pub Marked : List ℕ → ℕ → Type 0
Marked m t = is_marked m t ≡ true

-- A term is marked or has a marked term above it.
pub record Covered (s : List Term) (m : List ℕ) (x : ℕ) : Type 0 where
  pub root : ℕ
  pub marked : Marked m root
  pub under : Under s x root

-- Marks that stand for the reflexive pairs ps.
pub record Marks (s : List Term) (m : List ℕ) (ps : List Proposition) : Type 0 where
  pub inside : (t : ℕ) → Marked m t → t < length s
  pub sound : (x : ℕ) → Covered s m x → Memᴰ (same x) ps
  pub complete : (x : ℕ) → Memᴰ (same x) ps → Covered s m x
