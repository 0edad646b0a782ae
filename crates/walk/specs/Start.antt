-- How a turn of a step starts.
use Rattle.std.specs.Prelude.{ℕ, ◌+◌, ◌<◌, ◌≤◌, ◌≡◌, Bool, false, List, get_or}
use Rattle.model.specs.Cell.{no_cell}
use Rattle.model.specs.Decode.{rule_facts}
use Rattle.program.specs.Ready.{tables_for, program_for}
use Rattle.program.specs.Read.{fact_for}
use Rattle.normal_form.specs.Search.{Ordinary}

-- 1 where its proof is walked at once, as in a step that is no rule's; else 0.
pub record Starts (rule : Bool) (count i s : ℕ) : Type 0 where
  pub few : s ≤ 1
  pub walks : s ≡ 1 → (rule ≡ false) × (i < count)
  pub ends : rule ≡ false → (s ≡ 1 → ⊥) → count ≤ i

-- The turn after turn i, settled in state s: after the last proof the step is over.
pub record Follows (s count i r : ℕ) : Type 0 where
  pub least : i + 1 ≤ r
  pub fresh : s ≡ 0 → r ≡ i + 1
  pub last : (s ≡ 0 → ⊥) → i + 1 ≡ count → r ≡ i + 2
  pub more : (i + 1 ≡ count → ⊥) → r ≡ i + 1

-- The numbers of the facts of rule r.
abbrev pub fact_numbers : List ℕ → ℕ → List ℕ
fact_numbers J r = rule_facts (get_or (tables_for J).rules r no_cell)

-- In a rule's step: 1 where its fact is ordinary, so that its premise is walked at once; else 0.
pub record StartsFact (J : List ℕ) (r count i s : ℕ) : Type 0 where
  pub few : s ≤ 1
  pub walks : s ≡ 1 → (i < count) × Ordinary (program_for J) (fact_for J (get_or (fact_numbers J r) i 0))
