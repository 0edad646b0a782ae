-- Evaluation of expressions: `eval_expr_with_subst` of proof_checker.rs, and the method of `ProofStore` that has the same name.
use Rattle.std.specs.Prelude.{ℕ, zero, suc, List, [], ◌∷◌, ◌++◌, map, Bool, true, false, ◌&&◌, eqb, ℤ}
use Rattle.std.proofs.Math.Option.{Option, none, some}
use Rattle.model.specs.Cell.{same_words}
use Rattle.model.specs.Term.{Term, Literal, lit, var, app, get_term}
use Rattle.model.specs.Program.{Head, literal, variable, constructor, custom, primitive, Expr, node, Exprs, nil, cons, Proposition, Binding, Row, Program, Primitive, computes}
use Rattle.model.specs.Counts.{count_of_term, count_value}
use Rattle.model.specs.Check.{ok, Check, ◌>>=◌, pure, refuse, or_refuse, get_terms, Room, add_node}

-- The term bound to a name: the first binding counts.
abbrev pub lookup : List Binding → ℕ → Option ℕ
lookup [] x = none
lookup (b ∷ bs) x = elim (eqb b.name x) [ true ↦ some b.term | false ↦ lookup bs x ]

-- The primitive of a number; past the end, where no admitted job leads, one without validator.
abbrev pub primitive_at : List Primitive → ℕ → Primitive
primitive_at [] n = record { name = 0; kind = 0; validator = false; container = false }
primitive_at (p ∷ ps) zero = p
primitive_at (p ∷ ps) (suc n) = primitive_at ps n

-- The result of the row of a primitive and its arguments.
abbrev pub row_value : List Row → ℕ → List ℕ → Option ℕ
row_value [] p xs = none
row_value (r ∷ rs) p xs =
    elim (eqb r.primitive p && same_words r.arguments xs) [ true ↦ some r.result | false ↦ row_value rs p xs ]

-- The integers that terms stand for.
abbrev pub counts_in : List Term → List ℕ → List (Option ℤ)
counts_in s xs = map (λ x. count_of_term (get_term s x)) xs

module _ (room : Room) where
  -- A result, added to the store: 53 where there is no room.
  abbrev pub add_count : Option Literal → Check (Option ℕ)
  add_count none = pure none
  add_count (some l) = add_node room (lit l) >>= λ t. pure (some t)

  abbrev pub validate_by : Program → ℕ → List ℕ → Bool → Check (Option ℕ)
  validate_by prog p xs false = pure (row_value prog.rows p xs)
  validate_by prog p xs true = get_terms >>= λ s. add_count (count_value (primitive_at prog.primitives p).kind (counts_in s xs))

  -- A primitive's validator: it computes and adds its result, or looks rows up.
  unfoldable pub validate : Program → ℕ → List ℕ → Check (Option ℕ)
  validate prog p xs = validate_by prog p xs (computes (primitive_at prog.primitives p))

  -- A primitive's value: refusal n where it has no validator, 46 where the validator gives nothing.
  abbrev pub validated_by : Program → ℕ → ℕ → List ℕ → Bool → Check ℕ
  validated_by prog n p xs false = refuse n ((primitive_at prog.primitives p).name ∷ [])
  validated_by prog n p xs true = validate prog p xs >>= λ o. or_refuse o 46 ((primitive_at prog.primitives p).name ∷ [])

  abbrev pub validated : Program → ℕ → ℕ → List ℕ → Check ℕ
  validated prog n p xs = validated_by prog n p xs (primitive_at prog.primitives p).validator

-- The children of a term; literals and variables have none.
abbrev pub children : Option Term → List ℕ
children none = []
children (some (lit l)) = []
children (some (var x)) = []
children (some (app f xs)) = xs

abbrev pub concat_map : (ℕ → List ℕ) → List ℕ → List ℕ
concat_map f [] = []
concat_map f (x ∷ xs) = f x ++ concat_map f xs

-- A term and its subterms, by fuel: a child has a lower number, so one more than the number is enough.
unfoldable pub subterms_in : ℕ → List Term → ℕ → List ℕ
subterms_in zero s t = []
subterms_in (suc f) s t = t ∷ concat_map (subterms_in f s) (children (get_term s t))

-- A term, equal to itself.
abbrev pub same : ℕ → Proposition
same t = record { lhs = t; rhs = t }

-- `add_subterm_reflexive_equalities`: a term and each of its subterms, equal to itself.
unfoldable pub reflexive : List Term → ℕ → List Proposition
reflexive s t = map same (subterms_in (suc t) s t)

-- What evaluation gives: the term, and the pairs on the way.
pub record Value : Type 0 where
  pub term : ℕ
  pub pairs : List Proposition

pub record Values : Type 0 where
  pub terms : List ℕ
  pub pairs : List Proposition

-- A term with the pairs collected so far and its own reflexive ones.
abbrev pub valued : List Proposition → ℕ → Check Value
valued ps t s = ok (record { term = t; pairs = ps ++ reflexive s t }) s

module _ (room : Room) (prog : Program) (rule : ℕ) (σ : List Binding) where
  -- The value of an expression from its head and its arguments' values.
  unfoldable pub head_value : Head → Values → Check Value
  head_value (literal l) vs = add_node room (lit l) >>= valued []
  head_value (variable x) vs = or_refuse (lookup σ x) 45 (rule ∷ x ∷ []) >>= valued []
  head_value (constructor f) vs = add_node room (app f vs.terms) >>= valued vs.pairs
  head_value (custom f) vs = add_node room (app f vs.terms) >>= valued vs.pairs
  head_value (primitive p) vs = validated room prog 51 p vs.terms >>= valued vs.pairs

  -- `eval_expr_with_subst`, for heads, globals, merges and side conditions.
  unfoldable mutual
    pub eval_expr : Expr → Check Value
    eval_expr (node i h es) = eval_exprs es >>= head_value h

    pub eval_exprs : Exprs → Check Values
    eval_exprs nil = pure (record { terms = []; pairs = [] })
    eval_exprs (cons e es) =
        eval_expr e >>= λ v.
        eval_exprs es >>= λ vs.
        pure (record { terms = v.term ∷ vs.terms; pairs = v.pairs ++ vs.pairs })

  -- The same in an ordinary fact: a custom call has no value there.
  unfoldable pub fact_head_value : Head → List ℕ → Check ℕ
  fact_head_value (literal l) ts = add_node room (lit l)
  fact_head_value (variable x) ts = or_refuse (lookup σ x) 45 (rule ∷ x ∷ [])
  fact_head_value (constructor f) ts = add_node room (app f ts)
  fact_head_value (custom f) ts = refuse 52 (f ∷ [])
  fact_head_value (primitive p) ts = validated room prog 47 p ts

  -- `ProofStore::eval_expr_with_subst`, for ordinary facts.
  unfoldable mutual
    pub eval_fact_expr : Expr → Check ℕ
    eval_fact_expr (node i h es) = eval_fact_exprs es >>= fact_head_value h

    pub eval_fact_exprs : Exprs → Check (List ℕ)
    eval_fact_exprs nil = pure []
    eval_fact_exprs (cons e es) = eval_fact_expr e >>= λ t. eval_fact_exprs es >>= λ ts. pure (t ∷ ts)
