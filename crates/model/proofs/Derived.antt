-- The pairs reached by finitely many closings are closed, and lie in every closed relation; what the entry accepts is among them.
use Prim.Native.Nat.{ℕ}
use mathlib.Core.Path.{◌≡◌}
use mathlib.Core.List.{List}
use mathlib.Core.Bool.{Bool}
use Rattle.model.specs.Program.{Program, Fact}
use Rattle.model.specs.Decode.{job_of}
use Rattle.model.specs.Load.{is_strict}
use Rattle.model.specs.Answer.{Arrays, entry}
use Rattle.model.specs.Tree.{Tree, TreeBinding, TreeRow, tree_rows}
use Rattle.model.specs.Relation.{FactsHold, Closed, Derived, FactsDerived}
use Rattle.model.proofs.Sound.{ClaimRelated, accepted}

module _ (prog : Program) (rows : List TreeRow) (strict : Bool) where
  facts-derived : {fs : List Fact} {σ τ : List TreeBinding} → FactsHold prog rows strict (Derived prog rows strict) fs σ τ → FactsDerived prog rows strict fs σ τ
  facts-derived FactsHold.done = FactsDerived.done
  facts-derived (FactsHold.side c e h) = FactsDerived.side c e (facts-derived h)
  facts-derived (FactsHold.premise c e r h) = FactsDerived.premise c e r (facts-derived h)

  pub derived-closed : Closed prog rows strict (Derived prog rows strict)
  derived-closed = record {
    symmetric = Derived.symmetric;
    transitive = Derived.transitive;
    literals = Derived.literals;
    globals = Derived.globals;
    rules = λ g e r m n σ τ h c a q k. Derived.rules g e r m n σ τ (facts-derived h) c a q k;
    arguments = Derived.arguments;
    merges = Derived.merges;
    normals = Derived.normals;
  }

  -- the least of the closed relations
  pub derived-least {ℓ} : (R : Tree → Tree → Type ℓ) → Closed prog rows strict R → (a b : Tree) → Derived prog rows strict a b → R a b
  derived-least R c a b h = elim h as (λ x y _. R x y) (λ fs σ τ _. FactsHold prog rows strict R fs σ τ) [
    | Derived.symmetric (h → k) ↦ c.symmetric k
    | Derived.transitive (h → k) (i → l) ↦ c.transitive k l
    | Derived.literals l ↦ c.literals l
    | Derived.globals g e q m ↦ c.globals g e q m
    | Derived.rules g e r m n σ τ (h → k) d x q i ↦ c.rules g e r m n σ τ k d x q i
    | Derived.arguments f ts i x y (h → k) e (j → l) ↦ c.arguments f ts i x y k e l
    | Derived.merges f g ts old new v (h → k) (i → l) e q m ↦ c.merges f g ts old new v k l e q m
    | Derived.normals t (h → k) ↦ c.normals t k
    | FactsDerived.done ↦ FactsHold.done
    | FactsDerived.side x e (h → k) ↦ FactsHold.side x e k
    | FactsDerived.premise x e (r → l) (h → k) ↦ FactsHold.premise x e l k
  ]

-- what the entry accepts is derived
pub accepted-derived : (ws : List ℕ) (p mode : ℕ) (a : Arrays) (index scratch : ℕ) (answer : List ℕ) → (entry ws p mode a index scratch answer).number ≡ 0
    → ClaimRelated (job_of ws) (Derived (job_of ws).program (tree_rows (job_of ws).terms (job_of ws).program.rows) (is_strict mode)) p
accepted-derived ws p mode a index scratch answer e = accepted _ ws p mode a index scratch answer e (derived-closed (job_of ws).program (tree_rows (job_of ws).terms (job_of ws).program.rows) (is_strict mode))
