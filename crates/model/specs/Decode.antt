-- What the cells of each table say. The readers are total; what they give for a cell that document 01 refuses is never used.
use Rattle.std.specs.Prelude.{ℕ, zero, suc, List, [], ◌∷◌, map, true, false, get_or, take, drop, ltb}
use Rattle.std.proofs.Math.Option.{none, some}
use Rattle.model.specs.Cell.{Cell, no_cell, tabulate}
use Rattle.model.specs.Term.{read_literal, read_term}
use Rattle.model.specs.Program.{Head, literal, variable, constructor, custom, primitive, Expr, node, Exprs, nil, cons, Fact, equal, bare, Action, bind, union, run, idle, Binding, Justification, fiat, rule, merge_fn, trans, symm, congr, container_normalize, eval, Proof, Function, Primitive, Row, Normaliser, Rule, Program, Job}
use Rattle.model.specs.Layout.{Tables, Sizes, sizes_of, tables_of}

-- Word i of a cell.
abbrev pub word : Cell → ℕ → ℕ
word c i = get_or c.words i 0

-- The head of an expression's cell.
abbrev pub read_head : Cell → Head
read_head c = get_or (literal (read_literal c.words) ∷ variable (word c 0) ∷ constructor (word c 0) ∷ custom (word c 0) ∷ []) c.kind (primitive (word c 0))

-- The argument numbers of an expression's cell: a literal and a variable have none.
abbrev pub read_arguments : Cell → List ℕ
read_arguments c = elim (ltb c.kind 2) [ true ↦ [] | false ↦ drop 1 c.words ]

abbrev pub arguments_by : (ℕ → Expr) → List ℕ → Exprs
arguments_by f [] = nil
arguments_by f (x ∷ xs) = cons (f x) (arguments_by f xs)

-- The expression of a number, by fuel: an argument has a lower number, so one more than the number is enough.
unfoldable pub expr_in : ℕ → List Cell → ℕ → Expr
expr_in zero cells e = node e (read_head (get_or cells e no_cell)) nil
expr_in (suc f) cells e = node e (read_head (get_or cells e no_cell)) (arguments_by (expr_in f cells) (read_arguments (get_or cells e no_cell)))

-- The expression of a number.
abbrev pub expr_of : List Cell → ℕ → Expr
expr_of cells e = expr_in (suc e) cells e

module _ (expr : ℕ → Expr) where
  abbrev pub read_fact : ℕ → Cell → Fact
  read_fact i c = get_or (equal i (expr (word c 0)) (expr (word c 1)) ∷ []) c.kind (bare i (expr (word c 0)))

  abbrev pub read_action : Cell → Action
  read_action c =
      get_or (bind (word c 0) (expr (word c 1)) ∷ union (expr (word c 0)) (expr (word c 1)) ∷ run (expr (word c 0)) ∷ run (expr (word c 0)) ∷ []) c.kind idle

  abbrev pub read_function : Cell → Function
  read_function c = record { name = word c 0; merge = get_or (none ∷ []) c.kind (some (expr (word c 1))) }

abbrev pub read_primitive : Cell → Primitive
read_primitive c = record {
  name = word c 0;
  kind = c.kind;
  validator = get_or (false ∷ true ∷ false ∷ []) c.kind true;
  container = get_or (false ∷ false ∷ true ∷ true ∷ []) c.kind false;
}

abbrev pub read_row : Cell → Row
read_row c = record { primitive = word c 0; result = word c 1; arguments = drop 2 c.words }

abbrev pub read_normaliser : Cell → Normaliser
read_normaliser c = record { head = word c 0; primitive = word c 1 }

-- The fact numbers and the action numbers of a rule's cell.
abbrev pub rule_facts : Cell → List ℕ
rule_facts c = take (word c 1) (drop 2 c.words)

abbrev pub rule_actions : Cell → List ℕ
rule_actions c = drop (word c 1) (drop 2 c.words)

abbrev pub read_rule : (ℕ → Fact) → (ℕ → Action) → Cell → Rule
read_rule fact action c = record { name = word c 0; facts = map fact (rule_facts c); actions = map action (rule_actions c) }

-- Pairs of name and term.
abbrev pub read_bindings : List ℕ → List Binding
read_bindings [] = []
read_bindings (x ∷ []) = []
read_bindings (x ∷ t ∷ ws) = record { name = x; term = t } ∷ read_bindings ws

abbrev pub read_justification : Cell → Justification
read_justification c =
    get_or
    (fiat ∷
    rule (word c 2) (take (word c 3) (drop 4 c.words)) (read_bindings (drop (word c 3) (drop 4 c.words))) ∷
    merge_fn (word c 2) (word c 3) (word c 4) ∷
    trans (word c 2) (word c 3) ∷
    symm (word c 2) ∷
    congr (word c 2) (word c 3) (word c 4) ∷
    container_normalize (word c 2) ∷ [])
    c.kind
    eval

abbrev pub read_proof : Cell → Proof
read_proof c = record { claim = record { lhs = word c 0; rhs = word c 1 }; justification = read_justification c }

-- The program of the tables; the first G actions are the global ones.
unfoldable pub read_program : ℕ → Tables → Program
read_program globals t =
    let expr : ℕ → Expr = expr_of t.expressions in
    let fact : ℕ → Fact = λ i. read_fact expr i (get_or t.facts i no_cell) in
    let action : ℕ → Action = λ i. read_action expr (get_or t.actions i no_cell) in
    record {
      globals = tabulate globals action;
      functions = map (read_function expr) t.functions;
      primitives = map read_primitive t.primitives;
      rows = map read_row t.rows;
      normalisers = map read_normaliser t.normalisers;
      rules = map (read_rule fact action) t.rules;
    }

unfoldable pub read_job : Sizes → Tables → Job
read_job z t = record { terms = map read_term t.terms; program = read_program z.globals t; proofs = map read_proof t.proofs }

-- The job that its words say.
abbrev pub job_of : List ℕ → Job
job_of ws = read_job (sizes_of ws) (tables_of ws)
