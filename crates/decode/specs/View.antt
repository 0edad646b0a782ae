-- What the declared types say, as the definitions have it: expressions, facts and actions are looked up by their numbers.
use Rattle.std.specs.Prelude as prelude
use Rattle.std.specs.Prelude.{Some, None}
use Rattle.std.specs.Prelude.{◌≡◌, ◌≢◌, List, ℕ, take, drop, max, Bool, true, false, cond}
use Rattle.std.proofs.Math.Option.{Option, none, some}
use Rattle.model.specs.Cell.{Cell}
use Rattle.model.specs.Term as terms
use Rattle.model.specs.Program as program
use Rattle.model.specs.Decode.{word, read_bindings, read_justification}
use Rattle.decode.specs.declared.Literal.{Literal}
use Rattle.decode.specs.declared.Term.{Term}
use Rattle.decode.specs.declared.Head.{Head}
use Rattle.decode.specs.declared.Fact.{Fact}
use Rattle.decode.specs.declared.Action.{Action}
use Rattle.decode.specs.declared.Function.{Function}
use Rattle.decode.specs.declared.Operation.{Operation}
use Rattle.decode.specs.declared.Validator.{Validator}
use Rattle.decode.specs.declared.Primitive.{Primitive}
use Rattle.decode.specs.declared.Row.{Row}
use Rattle.decode.specs.declared.Normaliser.{Normaliser}
use Rattle.decode.specs.declared.Proposition.{Proposition}
use Rattle.decode.specs.declared.RuleStep.{RuleStep}
use Rattle.decode.specs.declared.Justification.{Justification}

-- The cell of a kind and its words.
abbrev pub cell : ℕ → List ℕ → Cell
cell k ws = record { kind = k; words = ws }

-- A literal.
abbrev pub literal_of : Literal → terms.Literal
literal_of l = record { kind = l.kind; low = l.low; high = l.high }

-- A term, with its children xs.
abbrev pub term_of : Term → List ℕ → terms.Term
term_of (Term.Lit l) xs = terms.lit (literal_of l)
term_of (Term.Var x) xs = terms.var x
term_of (Term.App f) xs = terms.app f xs

-- The head of an expression.
abbrev pub head_of : Head → program.Head
head_of (Head.Lit l) = program.literal (literal_of l)
head_of (Head.Var x) = program.variable x
head_of (Head.Constructor f) = program.constructor f
head_of (Head.Custom f) = program.custom f
head_of (Head.Primitive p) = program.primitive p

module _ (expr : ℕ → program.Expr) where
  -- A fact of the number i.
  abbrev pub fact_of : ℕ → Fact → program.Fact
  fact_of i (Fact.Equal l r) = program.equal i (expr l) (expr r)
  fact_of i (Fact.Bare e) = program.bare i (expr e)

  -- An action.
  abbrev pub action_of : Action → program.Action
  action_of (Action.Let x e) = program.bind x (expr e)
  action_of (Action.Union l r) = program.union (expr l) (expr r)
  action_of (Action.Run e) = program.run (expr e)
  action_of Action.Idle = program.idle

  -- A function's merge expression.
  abbrev pub merge_of : prelude.Option ℕ → Option program.Expr
  merge_of None = none
  merge_of (Some e) = some (expr e)

  -- A function.
  abbrev pub function_of : Function → program.Function
  function_of f = record { name = f.name; merge = merge_of f.merge }

-- The kind of a primitive that computes.
abbrev pub kind_of : Operation → ℕ
kind_of Operation.Sum = 4
kind_of Operation.Difference = 5
kind_of Operation.Product = 6
kind_of Operation.Negation = 7
kind_of Operation.Quotient = 8

-- No operation has this kind.
abbrev pub HasNoOperation : ℕ → Type 0
HasNoOperation k = (o : Operation) → kind_of o ≢ k

-- A primitive has a validator.
abbrev pub validates : Validator → Bool
validates Validator.Nothing = false
validates Validator.Rows = true
validates (Validator.Computes o) = true
validates (Validator.Unknown k) = true

-- The kind of a primitive, by its validator and whether it is a container's: an unknown one is past 8.
abbrev pub validator_kind : Validator → Bool → ℕ
validator_kind Validator.Nothing c = cond c 2 0
validator_kind Validator.Rows c = cond c 3 1
validator_kind (Validator.Computes o) c = kind_of o
validator_kind (Validator.Unknown k) c = max 9 k

-- The validator is that of a kind past 3.
pub record HasKind (v : Validator) (k : ℕ) : Type 0 where
  pub is : validator_kind v false ≡ k
  pub validates : validates v ≡ true

-- A primitive.
abbrev pub primitive_of : Primitive → program.Primitive
primitive_of p = record { name = p.name; kind = validator_kind p.validator p.container; validator = validates p.validator; container = p.container }

-- A row, with its arguments xs.
abbrev pub row_of : Row → List ℕ → program.Row
row_of r xs = record { primitive = r.primitive; result = r.result; arguments = xs }

-- A normaliser.
abbrev pub normaliser_of : Normaliser → program.Normaliser
normaliser_of n = record { head = n.head; primitive = n.primitive }

-- A proposition.
abbrev pub proposition_of : Proposition → program.Proposition
proposition_of p = record { lhs = p.lhs; rhs = p.rhs }

-- A justification; a rule step has the premises ps, and pairs of name and term in ws.
abbrev pub justification_of : Justification → List ℕ → List ℕ → program.Justification
justification_of Justification.Fiat ps ws = program.fiat
justification_of (Justification.Rule s) ps ws = program.rule s.name ps (read_bindings ws)
justification_of (Justification.MergeFn s) ps ws = program.merge_fn s.function s.old_proof s.new_proof
justification_of (Justification.Trans a b) ps ws = program.trans a b
justification_of (Justification.Sym a) ps ws = program.symm a
justification_of (Justification.Congr s) ps ws = program.congr s.proof s.child_index s.child_proof
justification_of (Justification.ContainerNormalize a) ps ws = program.container_normalize a
justification_of Justification.Eval ps ws = program.eval

-- The premises of a rule step's cell.
abbrev pub rule_premises : Cell → List ℕ
rule_premises c = take (word c 3) (drop 4 c.words)

-- The words of its substitution: pairs of name and term.
abbrev pub rule_pairs : Cell → List ℕ
rule_pairs c = drop (word c 3) (drop 4 c.words)

-- r is the justification of the cell c; a rule step says how many premises there are.
pub record Justifies (r : Justification) (c : Cell) : Type 0 where
  pub is : justification_of r (rule_premises c) (rule_pairs c) ≡ read_justification c
  pub premises : (s : RuleStep) → r ≡ Justification.Rule s → s.premises ≡ word c 3
