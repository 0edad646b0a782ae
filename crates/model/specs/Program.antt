-- What a job says: the program (rules, functions, rows) and the proofs, as ast, proof_format.rs and document 01 have them.
use Rattle.std.specs.Prelude.{ℕ, List, [], ◌∷◌, Bool, not, ◌&&◌, ltb}
use Rattle.std.proofs.Math.Option.{Option}
use Rattle.model.specs.Term.{Term, Literal}

-- The reserved names.
abbrev pub name_old : ℕ
name_old = 0

abbrev pub name_new : ℕ
name_new = 1

abbrev pub name_global_actions : ℕ
name_global_actions = 2

abbrev pub name_merge_function : ℕ
name_merge_function = 3

-- What stands at the top of an expression. A constructor or custom call is the Rust's `Func`; a primitive is given by its number.
pub data Head : Type 0 where
  literal : Literal → Head
  variable : ℕ → Head
  constructor : ℕ → Head
  custom : ℕ → Head
  primitive : ℕ → Head

-- `ResolvedExpr`: an expression, by its number, its head and its arguments.
mutual
  pub data Expr : Type 0 where
    node : ℕ → Head → Exprs → Expr

  pub data Exprs : Type 0 where
    nil : Exprs
    cons : Expr → Exprs → Exprs

-- `ResolvedFact`, by its number: an equality or a bare expression.
pub data Fact : Type 0 where
  equal : ℕ → Expr → Expr → Fact
  bare : ℕ → Expr → Fact

-- `GenericAction`: let; union; set (the call with its value appended) and expression; panic and change.
pub data Action : Type 0 where
  bind : ℕ → Expr → Action
  union : Expr → Expr → Action
  run : Expr → Action
  idle : Action

-- `Proposition`: two terms, said to be equal.
pub record Proposition : Type 0 where
  pub lhs : ℕ
  pub rhs : ℕ

-- A name bound to a term.
pub record Binding : Type 0 where
  pub name : ℕ
  pub term : ℕ

-- `Justification`. Proofs are given by number; `symm` is the Rust's `Sym`.
pub data Justification : Type 0 where
  fiat : Justification
  rule : ℕ → List ℕ → List Binding → Justification
  merge_fn : ℕ → ℕ → ℕ → Justification
  trans : ℕ → ℕ → Justification
  symm : ℕ → Justification
  congr : ℕ → ℕ → ℕ → Justification
  container_normalize : ℕ → Justification
  eval : Justification

-- The proofs that a justification refers to, in operand order; premises opposite side conditions too.
abbrev pub references : Justification → List ℕ
references fiat = []
references (rule f ps σ) = ps
references (merge_fn f a b) = a ∷ b ∷ []
references (trans a b) = a ∷ b ∷ []
references (symm a) = a ∷ []
references (congr a i b) = a ∷ b ∷ []
references (container_normalize a) = a ∷ []
references eval = []

-- The substitution that a justification gives.
abbrev pub substitution : Justification → List Binding
substitution fiat = []
substitution (rule f ps σ) = σ
substitution (merge_fn f a b) = []
substitution (trans a b) = []
substitution (symm a) = []
substitution (congr a i b) = []
substitution (container_normalize a) = []
substitution eval = []

-- `Proof`: what it claims, and why.
pub record Proof : Type 0 where
  pub claim : Proposition
  pub justification : Justification

-- A function's name and its merge expression.
pub record Function : Type 0 where
  pub name : ℕ
  pub merge : Option Expr

-- A primitive: whether it has a validator, and whether its output is a container sort.
pub record Primitive : Type 0 where
  pub name : ℕ
  pub kind : ℕ
  pub validator : Bool
  pub container : Bool

-- Its validator computes: kinds 4 to 8.
abbrev pub computes : Primitive → Bool
computes p = ltb 3 p.kind

-- Its validator looks rows up.
abbrev pub looks_up : Primitive → Bool
looks_up p = p.validator && not (computes p)

-- What a validator that looks rows up gives for these arguments.
pub record Row : Type 0 where
  pub primitive : ℕ
  pub result : ℕ
  pub arguments : List ℕ

-- The primitive whose validator normalises containers of this head.
pub record Normaliser : Type 0 where
  pub head : ℕ
  pub primitive : ℕ

-- A rule: `body` and `head` of the Rust.
pub record Rule : Type 0 where
  pub name : ℕ
  pub facts : List Fact
  pub actions : List Action

-- All that the proofs are checked against.
pub record Program : Type 0 where
  pub globals : List Action
  pub functions : List Function
  pub primitives : List Primitive
  pub rows : List Row
  pub normalisers : List Normaliser
  pub rules : List Rule

-- A job, read: its terms, its program and its proofs.
pub record Job : Type 0 where
  pub terms : List Term
  pub program : Program
  pub proofs : List Proof
