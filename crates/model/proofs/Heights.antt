-- Heights, computed: premises opposite bare and equality conditions, alone, nested and shared with a followed reference; each other kind of step; and references to higher numbers.
use Prim.Native.Nat.{ℕ}
use mathlib.Core.Path.{◌≡◌, refl}
use mathlib.Core.List.{List, [], ◌∷◌, map}
use mathlib.Core.Bool.{true}
use Rattle.model.specs.Program.{variable, constructor, primitive, node, nil, Fact, equal, bare, Rule, Program, Proof, Justification, fiat, rule, merge_fn, trans, symm, congr, container_normalize, eval}
use Rattle.model.specs.Height.{height}

-- a call of a container's primitive alone, the same equal to a variable, and an ordinary fact
abbrev condition : Fact
condition = bare 0 (node 0 (primitive 0) nil)

abbrev equality : Fact
equality = equal 1 (node 1 (variable 7) nil) (node 0 (primitive 0) nil)

abbrev ordinary : Fact
ordinary = bare 2 (node 2 (constructor 8) nil)

abbrev rule_over : ℕ → List Fact → Rule
rule_over n fs = record { name = n; facts = fs; actions = [] }

abbrev program : Program
program = record {
  globals = [];
  functions = [];
  primitives = record { name = 9; kind = 3; validator = true; container = true } ∷ [];
  rows = [];
  normalisers = [];
  rules = rule_over 4 (condition ∷ []) ∷ rule_over 5 (equality ∷ ordinary ∷ []) ∷ rule_over 6 (ordinary ∷ condition ∷ equality ∷ []) ∷ [];
}

abbrev by : Justification → Proof
by j = record { claim = record { lhs = 0; rhs = 0 }; justification = j }

-- the last but one names no rule, the last has a premise too few
abbrev table : List Proof
table = map by
    (fiat ∷ symm 0 ∷ symm 1 ∷ rule 4 (2 ∷ []) [] ∷ rule 4 (3 ∷ []) [] ∷ rule 5 (2 ∷ 4 ∷ []) [] ∷ rule 6 (2 ∷ 2 ∷ 5 ∷ []) [] ∷ symm 2 ∷ trans 2 7 ∷ congr 3 2 8 ∷ merge_fn 8 5 6
    ∷ container_normalize 5 ∷ eval ∷ rule 8 (8 ∷ []) [] ∷ rule 5 (8 ∷ []) [] ∷ [])

pub heights : map (height program table) (0 ∷ 1 ∷ 2 ∷ 3 ∷ 4 ∷ 5 ∷ 6 ∷ 7 ∷ 8 ∷ 9 ∷ 10 ∷ 11 ∷ 12 ∷ 13 ∷ 14 ∷ []) ≡ 1 ∷ 2 ∷ 3 ∷ 1 ∷ 1 ∷ 2 ∷ 4 ∷ 4 ∷ 5 ∷ 6 ∷ 5 ∷ 3 ∷ 1 ∷ 1 ∷ 1 ∷ []
heights = refl

-- the numbering makes no difference
pub upward : map (height program (map by (trans 1 2 ∷ symm 2 ∷ symm 3 ∷ rule 4 (0 ∷ []) [] ∷ []))) (0 ∷ 1 ∷ 2 ∷ 3 ∷ []) ≡ 4 ∷ 3 ∷ 2 ∷ 1 ∷ []
upward = refl
