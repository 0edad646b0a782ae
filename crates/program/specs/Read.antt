-- What the readers of an admitted job's cells give, by number within the table: what the cell says, and numbers in range.
use Rattle.std.specs.Prelude.{◌≡◌, ℕ, ◌≤◌, ◌<◌, length, get_or}
use mathlib.Core.List.{List, map, Memᴰ}
use Rattle.model.specs.Cell.{Cell, no_cell}
use Rattle.model.specs.Program as program
use Rattle.model.specs.Program.{Binding, references}
use Rattle.model.specs.Decode.{expr_of, read_head, read_arguments, read_fact, read_action, rule_facts, rule_actions, read_bindings, read_proof}
use Rattle.model.specs.Walk.{no_proof, claim_at}
use Rattle.decode.specs.View.{head_of, fact_of, action_of, proposition_of, justification_of, rule_premises, rule_pairs}
use Rattle.decode.specs.declared.Head.{Head}
use Rattle.decode.specs.declared.Fact.{Fact}
use Rattle.decode.specs.declared.Action.{Action}
use Rattle.decode.specs.declared.Proposition.{Proposition}
use Rattle.decode.specs.declared.RuleStep.{RuleStep}
use Rattle.decode.specs.declared.Justification.{Justification}
use Rattle.model.specs.Layout.{sizes_of}
use Rattle.program.specs.Ready.{tables_for}

-- Expression e of a job, its head, and the numbers of its arguments.
abbrev pub expr_for : List ℕ → ℕ → program.Expr
expr_for J e = expr_of (tables_for J).expressions e

abbrev pub head_for : List ℕ → ℕ → program.Head
head_for J e = read_head (get_or (tables_for J).expressions e no_cell)

abbrev pub arguments_for : List ℕ → ℕ → List ℕ
arguments_for J e = read_arguments (get_or (tables_for J).expressions e no_cell)

-- Fact i, and action i.
abbrev pub fact_for : List ℕ → ℕ → program.Fact
fact_for J i = read_fact (expr_of (tables_for J).expressions) i (get_or (tables_for J).facts i no_cell)

abbrev pub action_for : List ℕ → ℕ → program.Action
action_for J i = read_action (expr_of (tables_for J).expressions) (get_or (tables_for J).actions i no_cell)

-- h is the head of expression e.
pub record HeadAt (J : List ℕ) (e : ℕ) (h : Head) : Type 0 where
  pub is : head_of h ≡ head_for J e
  pub primitive : (p : ℕ) → h ≡ Head.Primitive p → p < (sizes_of J).primitives

-- xs are the arguments of expression e, each of a lower number.
pub record ArgumentsAt (J : List ℕ) (e : ℕ) (xs : List ℕ) : Type 0 where
  pub is : xs ≡ arguments_for J e
  pub few : length xs ≤ 16
  pub lower : (i : ℕ) → i < length xs → get_or xs i 0 < e

-- f is fact i.
pub record FactAt (J : List ℕ) (i : ℕ) (f : Fact) : Type 0 where
  pub is : fact_of (expr_for J) i f ≡ fact_for J i
  pub equal : (l r : ℕ) → f ≡ Fact.Equal l r → (l < (sizes_of J).expressions) × (r < (sizes_of J).expressions)
  pub bare : (e : ℕ) → f ≡ Fact.Bare e → e < (sizes_of J).expressions

-- a is action i.
pub record ActionAt (J : List ℕ) (i : ℕ) (a : Action) : Type 0 where
  pub is : action_of (expr_for J) a ≡ action_for J i
  pub bind : (x e : ℕ) → a ≡ Action.Let x e → e < (sizes_of J).expressions
  pub union : (l r : ℕ) → a ≡ Action.Union l r → (l < (sizes_of J).expressions) × (r < (sizes_of J).expressions)
  pub run : (e : ℕ) → a ≡ Action.Run e → e < (sizes_of J).expressions

-- xs are the facts of rule r.
pub record RuleFactsAt (J : List ℕ) (r : ℕ) (xs : List ℕ) : Type 0 where
  pub is : xs ≡ rule_facts (get_or (tables_for J).rules r no_cell)
  pub few : length xs ≤ 16
  pub within : (i : ℕ) → i < length xs → get_or xs i 0 < (sizes_of J).facts

-- xs are the actions of rule r.
pub record RuleActionsAt (J : List ℕ) (r : ℕ) (xs : List ℕ) : Type 0 where
  pub is : xs ≡ rule_actions (get_or (tables_for J).rules r no_cell)
  pub few : length xs ≤ 64
  pub within : (i : ℕ) → i < length xs → get_or xs i 0 < (sizes_of J).actions

-- The proofs of a job, and the cell of proof p.
abbrev pub proofs_for : List ℕ → List program.Proof
proofs_for J = map read_proof (tables_for J).proofs

abbrev pub proof_cell : List ℕ → ℕ → Cell
proof_cell J p = get_or (tables_for J).proofs p no_cell

-- The premises of proof p, and the words of its substitution, where it is by a rule.
abbrev pub premises_for : List ℕ → ℕ → List ℕ
premises_for J p = rule_premises (proof_cell J p)

abbrev pub pairs_for : List ℕ → ℕ → List ℕ
pairs_for J p = rule_pairs (proof_cell J p)

-- q is what proof p claims.
pub record ClaimAt (J : List ℕ) (p : ℕ) (q : Proposition) : Type 0 where
  pub is : proposition_of q ≡ claim_at (proofs_for J) p
  pub lhs : q.lhs < (sizes_of J).terms
  pub rhs : q.rhs < (sizes_of J).terms

-- j is why proof p holds; the proofs that it refers to have lower numbers.
pub record JustificationAt (J : List ℕ) (p : ℕ) (j : Justification) : Type 0 where
  pub is : justification_of j (premises_for J p) (pairs_for J p) ≡ (get_or (proofs_for J) p no_proof).justification
  pub lower : (x : ℕ) → Memᴰ x (references (get_or (proofs_for J) p no_proof).justification) → x < p
  pub is_rule : (s : RuleStep) → j ≡ Justification.Rule s → (proof_cell J p).kind ≡ 1

-- xs are the premises of proof p, each of a lower number.
pub record PremisesAt (J : List ℕ) (p : ℕ) (xs : List ℕ) : Type 0 where
  pub is : xs ≡ premises_for J p
  pub few : length xs ≤ 4096
  pub lower : (i : ℕ) → i < length xs → get_or xs i 0 < p

-- ws are the pairs of name and term of proof p's substitution.
pub record SubstitutionAt (J : List ℕ) (p : ℕ) (ws : List ℕ) : Type 0 where
  pub is : ws ≡ pairs_for J p
  pub few : length ws ≤ 64
  pub within : (b : Binding) → Memᴰ b (read_bindings ws) → b.term < (sizes_of J).terms
