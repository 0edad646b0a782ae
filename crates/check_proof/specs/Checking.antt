-- What a check is handed.
use Rattle.std.specs.Prelude.{ℕ, ◌+◌, ◌≤◌, List, [], map, length}
use Rattle.index.specs.declared.Store.{Store}
use Rattle.model.specs.Layout.{sizes_of}
use Rattle.model.specs.Term.{read_term, Extends}
use Rattle.index.specs.declared.Fill.{Fill}
use Rattle.termdag.specs.Store.{terms_in, Indexed}
use Rattle.program.specs.Ready.{tables_for, Ready, program_for}
use Rattle.evaluate.specs.Evaluation.{Sane}

-- An admitted job, a store that has its terms, and scratch of two words for each cell of the store and one for each proof.
pub record Given (J : List ℕ) (k e p ix : List ℕ) (f : Fill) (W : List ℕ) : Type 0 where
  pub ready : Ready J
  pub indexed : Indexed k e p ix f
  pub sane : Sane (program_for J) [] (terms_in k e p f)
  pub terms : Extends (map read_term (tables_for J).terms) (terms_in k e p f)
  pub long : length k + length k + (sizes_of J).proofs ≤ length W

-- The same, of a store.
abbrev pub GivenIn : List ℕ → Store → Fill → List ℕ → Type 0
GivenIn J s f W = Given J s.kinds.now s.ends.now s.pool.now s.index.now f W
