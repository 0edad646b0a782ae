-- The tests of equality decide equality: on words, literals, terms and trees.
use Prim.Native.Nat.{ℕ, ◌<◌, ◌≤◌}
use mathlib.Core.Path.{◌≡◌, refl, sym, ap, subst}
use mathlib.Core.List.{List, [], ◌∷◌}
use mathlib.Core.Logic.{◌⊎◌, inl, inr}
use mathlib.Core.Bool.{Bool, true, false, not, ◌&&◌, ◌||◌, true≢false}
use lib.Dec.{eqb, eqb→eq, eqb_refl, leb, leb→le, ltb, ltb→lt, T}
use Rattle.model.specs.Cell.{same_words}
use Rattle.model.specs.Term.{Term, Literal, lit, var, app, same_literal, same_term}
use Rattle.model.specs.Tree.{Tree, leaf, named, apply, Trees, tnil, tcons, same_tree, same_trees}

pub or_cases : (a b : Bool) → (a || b) ≡ true → (a ≡ true) ⊎ (b ≡ true)
or_cases true b e = inl refl
or_cases false b e = inr e

pub or_left : (a b : Bool) → (a || b) ≡ false → a ≡ false
or_left true b e = e
or_left false b e = refl

pub or_right : (a b : Bool) → (a || b) ≡ false → b ≡ false
or_right true b e = absurd (true≢false e)
or_right false b e = e

pub not-false : (b : Bool) → not b ≡ false → b ≡ true
not-false true e = refl
not-false false e = absurd (true≢false e)

pub not-true : (b : Bool) → not b ≡ true → b ≡ false
not-true true e = sym e
not-true false e = refl

pub and-true : (t : Bool) → (t && true) ≡ t
and-true true = refl
and-true false = refl

pub and-false : (t : Bool) → (t && false) ≡ false
and-false true = refl
and-false false = refl

pub so : {b : Bool} → b ≡ true → T b
so e = subst T (sym e) tt

pub os : (b : Bool) → T b → b ≡ true
os true t = refl
os false t = absurd t

pub eq_of : (m n : ℕ) → eqb m n ≡ true → m ≡ n
eq_of m n e = eqb→eq m n (so e)

pub lt_of : (m n : ℕ) → ltb m n ≡ true → m < n
lt_of m n e = ltb→lt m n (so e)

pub le_of : (m n : ℕ) → leb m n ≡ true → m ≤ n
le_of m n e = leb→le m n (so e)

pub eqb_same : (n : ℕ) → eqb n n ≡ true
eqb_same n = os (eqb n n) (eqb_refl n)

pub and_left : (a b : Bool) → (a && b) ≡ true → a ≡ true
and_left true b e = refl
and_left false b e = e

pub and_right : (a b : Bool) → (a && b) ≡ true → b ≡ true
and_right true b e = e
and_right false b e = absurd (true≢false (sym e))

pub never {ℓ} : {A : Type ℓ} → false ≡ true → A
never e = absurd (true≢false (sym e))

pub words-eq : (xs ys : List ℕ) → same_words xs ys ≡ true → xs ≡ ys
words-eq [] [] e = refl
words-eq [] (y ∷ ys) e = never e
words-eq (x ∷ xs) [] e = never e
words-eq (x ∷ xs) (y ∷ ys) e =
    let h : x ≡ y = eq_of x y (and_left (eqb x y) (same_words xs ys) e) in
    let t : xs ≡ ys = words-eq xs ys (and_right (eqb x y) (same_words xs ys) e) in
    cc

pub words_same : (xs : List ℕ) → same_words xs xs ≡ true
words_same [] = refl
words_same (x ∷ xs) = rw (eqb_same x) (words_same xs)

pub literal-eq : (a b : Literal) → same_literal a b ≡ true → a ≡ b
literal-eq a b e =
    let k : a.kind ≡ b.kind = eq_of a.kind b.kind (and_left _ _ e) in
    let r = and_right (eqb a.kind b.kind) (eqb a.low b.low && eqb a.high b.high) e in
    let l : a.low ≡ b.low = eq_of a.low b.low (and_left _ _ r) in
    let h : a.high ≡ b.high = eq_of a.high b.high (and_right (eqb a.low b.low) _ r) in
    λ i. record { kind = k i; low = l i; high = h i }

pub literal-same : (a : Literal) → same_literal a a ≡ true
literal-same a = rw (eqb_same a.kind, eqb_same a.low, eqb_same a.high) refl

pub term-eq : (t u : Term) → same_term t u ≡ true → t ≡ u
term-eq (lit a) (lit b) e = ap {B = Term} lit (literal-eq a b e)
term-eq (lit a) (var y) e = never e
term-eq (lit a) (app g ys) e = never e
term-eq (var x) (lit b) e = never e
term-eq (var x) (var y) e = ap {B = Term} var (eq_of x y e)
term-eq (var x) (app g ys) e = never e
term-eq (app f xs) (lit b) e = never e
term-eq (app f xs) (var y) e = never e
term-eq (app f xs) (app g ys) e =
    let h : f ≡ g = eq_of f g (and_left (eqb f g) (same_words xs ys) e) in
    let t : xs ≡ ys = words-eq xs ys (and_right (eqb f g) (same_words xs ys) e) in
    cc

pub term-same : (t : Term) → same_term t t ≡ true
term-same (lit a) = literal-same a
term-same (var x) = eqb_same x
term-same (app f xs) = rw (eqb_same f) (words_same xs)

mutual
  pub tree-eq : (t u : Tree) → same_tree t u ≡ true → t ≡ u
  tree-eq (leaf a) (leaf b) e = ap {B = Tree} leaf (literal-eq a b e)
  tree-eq (leaf a) (named y) e = never e
  tree-eq (leaf a) (apply g ys) e = never e
  tree-eq (named x) (leaf b) e = never e
  tree-eq (named x) (named y) e = ap {B = Tree} named (eq_of x y e)
  tree-eq (named x) (apply g ys) e = never e
  tree-eq (apply f xs) (leaf b) e = never e
  tree-eq (apply f xs) (named y) e = never e
  tree-eq (apply f xs) (apply g ys) e =
      λ i. apply (eq_of f g (and_left (eqb f g) (same_trees xs ys) e) i) (trees-eq xs ys (and_right (eqb f g) (same_trees xs ys) e) i)

  pub trees-eq : (ts us : Trees) → same_trees ts us ≡ true → ts ≡ us
  trees-eq tnil tnil e = refl
  trees-eq tnil (tcons y ys) e = never e
  trees-eq (tcons x xs) tnil e = never e
  trees-eq (tcons x xs) (tcons y ys) e =
      λ i. tcons (tree-eq x y (and_left (same_tree x y) (same_trees xs ys) e) i) (trees-eq xs ys (and_right (same_tree x y) (same_trees xs ys) e) i)

mutual
  pub tree-same : (t : Tree) → same_tree t t ≡ true
  tree-same (leaf a) = literal-same a
  tree-same (named x) = eqb_same x
  tree-same (apply f xs) = rw (eqb_same f) (trees-same xs)

  pub trees-same : (ts : Trees) → same_trees ts ts ≡ true
  trees-same tnil = refl
  trees-same (tcons x xs) = rw (tree-same x) (trees-same xs)
