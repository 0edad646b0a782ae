-- Laws of the search: what the words of the table say, and the offences of an expression by its arguments.
use Rattle.std.specs.Prelude as prelude
use mathlib.Core.Path.{◌≡◌, refl, sym, ap, ap₂, subst, ◌∙◌}
use mathlib.Core.Bool.{Bool, true, false, ◌&&◌, ◌||◌}
use mathlib.Core.List.{List}
use mathlib.Core.Option.{Option, none, some}
use Prim.Native.Nat.{ℕ, suc, ◌+◌, ◌*◌, ◌-◌, ◌/◌, ◌%◌, ◌≤◌, ◌<◌}
use native.Mathlib.Numerals.{add-one}
use native.Mathlib.Omega.{arith}
use native.Mathlib.Decide.{dec_lt}
use lib.Dec.{eqb}
use lib.ListN.{length, get_or, set, drop, drop_of_length-le, length-set}
use lib.Seq.{drop-cons, get_or-set_same, get_or-set_other}
use borrow.Author.Tests.{eq-eqb, ne_eqb, eqb-true, eqb-false}
use Rattle.model.specs.Layout.{sizes_of}
use Rattle.model.specs.Term.{Term}
use Rattle.model.specs.Cell.{Cell, no_cell}
use Rattle.model.specs.Program.{Head, Expr, Fact, Program}
use Rattle.model.specs.Decode.{read_head, arguments_by, expr_in, expr_of}
use Rattle.model.specs.Check.{ok, first_of}
use Rattle.model.specs.Fact as fact
use Rattle.model.specs.Fact.{is_func, is_primitive, is_container_primitive, primitive_non_normal_arg, container_primitive_not_side_condition, offence_if, argument_offence, offence, offences, fact_offence, no_offence, assert_body_proof_normal_form, is_container_side_condition}
use Rattle.model.proofs.Fuel.{expr-node}
use Rattle.model.proofs.Valid.{expressions-lower}
use Rattle.decode.specs.View.{head_of, fact_of}
use Rattle.decode.specs.declared.Head.{Head as HeadView}
use Rattle.decode.specs.declared.Fact.{Fact as FactView}
use Rattle.program.specs.Ready.{tables_for, Ready, program_for}
use Rattle.program.specs.Read.{HeadAt, ArgumentsAt, FactAt, expr_for, fact_for}
use Rattle.normal_form.specs.Search.{offence_of, offence_by, offence_in, container_in, SearchedTo, Searched, Ordinary}
use Rattle.normal_form.specs.declared.Offence.{Offence}

-- what a word says
pub word_none : none ≡ offence_in 0
unfolding offence_in
word_none = refl

pub word-odd : (w : ℕ) → (w ≡ 0 → ⊥) → w % 2 ≡ 1 → some (primitive_non_normal_arg (w / 2)) ≡ offence_in w
unfolding offence_in
word-odd w h e = sym (ap₂ (λ (a b : Bool). offence_by a b w) (ne_eqb w 0 h) (eq-eqb (w % 2) 1 e))

pub word_even : (w : ℕ) → (w ≡ 0 → ⊥) → (w % 2 ≡ 1 → ⊥) → some (container_primitive_not_side_condition (w / 2 - 1)) ≡ offence_in w
unfolding offence_in
word_even w h e = sym (ap₂ (λ (a b : Bool). offence_by a b w) (ne_eqb w 0 h) (ne_eqb (w % 2) 1 e))

pub first_kind : (e : ℕ) → offence_in (2 * e + 1) ≡ some (primitive_non_normal_arg e)
first_kind e =
    let h : (2 * e + 1) / 2 ≡ e = omega arith in
    sym (word-odd (2 * e + 1) (λ q. omega arith) (omega arith)) ∙ ap (λ (n : ℕ). some (primitive_non_normal_arg n)) h

pub second-kind : (e : ℕ) → offence_in (2 * e + 2) ≡ some (container_primitive_not_side_condition e)
second-kind e =
    let h : (2 * e + 2) / 2 - 1 ≡ e = omega arith in
    sym (word_even (2 * e + 2) (λ q. omega arith) (λ q. omega arith)) ∙ ap (λ (n : ℕ). some (container_primitive_not_side_condition n)) h

-- the first of two
pub word_first : (a : ℕ) (o : Option fact.Offence) → (a ≡ 0 → ⊥) → offence_in a ≡ first_of (offence_in a) o
word_first a o h = go (eqb (a % 2) 1) refl
  where
    go : (b : Bool) → eqb (a % 2) 1 ≡ b → offence_in a ≡ first_of (offence_in a) o
    go true e = rw (sym (word-odd a h (eqb-true (a % 2) 1 e))) refl
    go false e = rw (sym (word_even a h (eqb-false (a % 2) 1 e))) refl

pub word-second : (a : ℕ) (o : Option fact.Offence) → a ≡ 0 → o ≡ first_of (offence_in a) o
word-second a o e = ap (λ (x : Option fact.Offence). first_of x o) (word_none ∙ ap offence_in (sym e))

first-both : (a b o : Option fact.Offence) → first_of a (first_of b o) ≡ first_of (first_of a b) o
first-both none b o = refl
first-both (some x) b o = refl

-- an expression's head, and the offence of one under a head
module _ (cells : List Cell) (j : ℕ) where
  head-is : fact.head_of (expr_of cells j) ≡ read_head (get_or cells j no_cell)
  unfolding expr_in
  head-is = refl

  argument_is : (prog : Program) (h : Head)
      → argument_offence prog h (expr_of cells j)
      ≡ first_of (offence_if (is_primitive h && is_func (read_head (get_or cells j no_cell))) (primitive_non_normal_arg j)) (offence_if (is_func h && is_container_primitive prog (read_head (get_or cells j no_cell))) (container_primitive_not_side_condition j))
  unfolding expr_in
  argument_is prog h = refl

  -- the tests as they are made
  pub argument-by : (prog : Program) (h g : Head) {n m : ℕ} {p f q k : Bool} → n ≡ j → m ≡ j → g ≡ read_head (get_or cells n no_cell)
      → p ≡ is_primitive h → f ≡ is_func g → q ≡ is_func h → k ≡ is_container_primitive prog (fact.head_of (expr_of cells m))
      → first_of (offence_if (p && f) (primitive_non_normal_arg j)) (offence_if (q && k) (container_primitive_not_side_condition j)) ≡ argument_offence prog h (expr_of cells j)
  argument-by prog h g {n} {m} {p} {f} {q} {k} en em eg ep ef eq ek =
      let x : f ≡ is_func (read_head (get_or cells j no_cell)) = ef ∙ ap is_func (eg ∙ ap (λ (i : ℕ). read_head (get_or cells i no_cell)) en) in
      let y : k ≡ is_container_primitive prog (read_head (get_or cells j no_cell)) = ek ∙ ap (λ (i : ℕ). is_container_primitive prog (fact.head_of (expr_of cells i))) em ∙ ap (is_container_primitive prog) head-is in
      ap₂ (λ (a b : Option fact.Offence). first_of a b)
      (ap₂ (λ (a b : Bool). offence_if (a && b) (primitive_non_normal_arg j)) ep x)
      (ap₂ (λ (a b : Bool). offence_if (a && b) (container_primitive_not_side_condition j)) eq y)
      ∙ sym (argument_is prog h)

-- what is said of a head
pub head-by : {A : Type 0} (k : Head → A) {J : List ℕ} {n e : ℕ} {h g : HeadView} {a : A} → HeadAt J n h → n ≡ e → h ≡ g → a ≡ k (head_of g)
    → a ≡ k (fact.head_of (expr_for J e))
head-by k {J} {n} {e} H q p r =
    r ∙ ap k (ap head_of (sym p) ∙ H.is ∙ sym (head-is (tables_for J).expressions n) ∙ ap (λ (j : ℕ). fact.head_of (expr_for J j)) q)

-- fact i
pub fact-by : {J : List ℕ} {n i : ℕ} {f g : FactView} → FactAt J n f → n ≡ i → f ≡ g → fact_of (expr_for J) i g ≡ fact_for J i
fact-by {J} {n} {i} {f} A q p =
    ap (fact_of (expr_for J) i) (sym p) ∙ subst (λ (j : ℕ). fact_of (expr_for J) j f ≡ fact_for J j) q A.is

-- half a word is low
pub low_half : (J : List ℕ) (j : ℕ) → Ready J → j < (sizes_of J).expressions → 2 * j + 2 < 32768
low_half J j R l = let m = R.held.limits.expressions in omega arith

-- the tests' outcomes
pub says_first : (j : ℕ) (a b : Bool) → a ≡ true → offence_in (2 * j + 1) ≡ first_of (offence_if a (primitive_non_normal_arg j)) (offence_if b (container_primitive_not_side_condition j))
says_first j a b e = first_kind j ∙ ap (λ (x : Bool). first_of (offence_if x (primitive_non_normal_arg j)) (offence_if b (container_primitive_not_side_condition j))) (sym e)

pub says_second : (j : ℕ) (a b : Bool) → a ≡ false → b ≡ true → offence_in (2 * j + 2) ≡ first_of (offence_if a (primitive_non_normal_arg j)) (offence_if b (container_primitive_not_side_condition j))
says_second j a b e f = second-kind j ∙ ap₂ (λ (x y : Bool). first_of (offence_if x (primitive_non_normal_arg j)) (offence_if y (container_primitive_not_side_condition j))) (sym e) (sym f)

pub says_none : (j : ℕ) (a b : Bool) → a ≡ false → b ≡ false → offence_in 0 ≡ first_of (offence_if a (primitive_non_normal_arg j)) (offence_if b (container_primitive_not_side_condition j))
says_none j a b e f = sym word_none ∙ ap₂ (λ (x y : Bool). first_of (offence_if x (primitive_non_normal_arg j)) (offence_if y (container_primitive_not_side_condition j))) (sym e) (sym f)

-- the word of an expression is in the table
pub word_read : {J F : List ℕ} {e n : ℕ} → Searched J F → e < (sizes_of J).expressions → n ≡ e → n < length F
word_read S l q = omega (arith, S.long, l, q)

-- a word that is 0
zero-half : {w : ℕ} → w ≡ 0 → 0 ≡ w / 2
zero-half e = ap (λ (n : ℕ). n / 2) (sym e)

zero-calls : {w : ℕ} → w ≡ 0 → false ≡ container_in w
zero-calls e = ap container_in (sym e)

no-offence : (prog : Program) (f : Fact) (rule : ℕ) (s : List Term) → offence_in 0 ≡ fact_offence prog f → assert_body_proof_normal_form prog rule f s ≡ ok tt s
unfolding assert_body_proof_normal_form
no-offence prog f rule s h = ap (λ (o : Option fact.Offence). no_offence rule o s) (sym (word_none ∙ h))

-- what is left of an expression's arguments
module _ (J : List ℕ) where
  abbrev pub rest : Head → List ℕ → ℕ → Option fact.Offence
  rest h xs k = offences (arguments_by (expr_for J) (drop k xs)) (program_for J) h

  pub rest_all : Ready J → (e : ℕ) (h : HeadView) (xs : List ℕ) → HeadAt J e h → ArgumentsAt J e xs → rest (head_of h) xs 0 ≡ offence (expr_for J e) (program_for J)
  unfolding offence offences
  rest_all R e h xs H A =
      let T = tables_for J in
      ap₂ (λ (g : Head) (ys : List ℕ). offences (arguments_by (expr_for J) ys) (program_for J) g) H.is A.is
      ∙ ap (λ (x : Expr). offence x (program_for J)) (sym (expr-node T.expressions (expressions-lower (sizes_of J) T R.admitted) e))

  pub rest-none : (h : Head) (xs : List ℕ) (k : ℕ) → length xs ≤ k → offence_in 0 ≡ rest h xs k
  unfolding offences
  rest-none h xs k l = sym word_none ∙ ap (λ (ys : List ℕ). offences (arguments_by (expr_for J) ys) (program_for J) h) (sym (drop_of_length-le xs l))

  -- one argument after another
  module _ (h : Head) (xs F : List ℕ) (e k a n w : ℕ) (S : SearchedTo J e F) (l : k < length xs) (lower : get_or xs k 0 < e) (at : n ≡ get_or xs k 0)
      (s : offence_in a ≡ argument_offence (program_for J) h (expr_for J (get_or xs k 0))) (v : offence_in w ≡ first_of (offence_in a) (offence_in (get_or F n 0 / 2))) where
    rest-step : rest h xs k ≡ first_of (offence_in w) (rest h xs (k + 1))
    unfolding offences
    rest-step =
        let x = get_or xs k 0 in
        let inside : offence_in (get_or F n 0 / 2) ≡ offence (expr_for J x) (program_for J) = ap (λ (i : ℕ). offence_in (get_or F i 0 / 2)) at ∙ S.says x lower in
        ap (λ (ys : List ℕ). offences (arguments_by (expr_for J) ys) (program_for J) h) (drop-cons xs k 0 l)
        ∙ first-both (argument_offence (program_for J) h (expr_for J x)) (offence (expr_for J x) (program_for J)) (rest h xs (suc k))
        ∙ ap₂ (λ (o : Option fact.Offence) (i : ℕ). first_of o (rest h xs i)) (sym (v ∙ ap₂ (λ (o u : Option fact.Offence). first_of o u) s inside)) (sym (add-one k))

    pub rest-yes : (w ≡ 0 → ⊥) → offence_in w ≡ rest h xs k
    rest-yes q = word_first w (rest h xs (k + 1)) q ∙ sym rest-step

    pub rest-no : w ≡ 0 → rest h xs (k + 1) ≡ rest h xs k
    rest-no q = word-second w (rest h xs (k + 1)) q ∙ sym rest-step

  -- one expression after another
  pub searched-none : (F : List ℕ) → SearchedTo J 0 F
  searched-none F = record { long = omega arith; low = λ e h. absurd (omega arith); says = λ e h. absurd (omega arith); calls = λ e h. absurd (omega arith) }

  pub searched-more : (F : List ℕ) (n w : ℕ) → SearchedTo J n F → n < length F → w < 65536 → offence_in (w / 2) ≡ offence (expr_for J n) (program_for J)
      → container_in w ≡ is_container_primitive (program_for J) (fact.head_of (expr_for J n)) → SearchedTo J (n + 1) (set F n w)
  searched-more F n w S l o s k = record {
    long = simp length-set (omega arith);
    low = λ e h. below (λ _ v. v < 65536) S.low o e h;
    says = λ e h. below (λ i v. offence_in (v / 2) ≡ offence (expr_for J i) (program_for J)) S.says s e h;
    calls = λ e h. below (λ i v. container_in v ≡ is_container_primitive (program_for J) (fact.head_of (expr_for J i))) S.calls k e h;
  }
    where
      below : (P : ℕ → ℕ → Type 0) → ((e : ℕ) → e < n → P e (get_or F e 0)) → P n w → (e : ℕ) → e < n + 1 → P e (get_or (set F n w) e 0)
      below P old new e h = go (dec_lt e n)
        where
          go : Dec (e < n) → P e (get_or (set F n w) e 0)
          go (yes q) = subst (P e) (sym (get_or-set_other F n e w 0 (λ i. omega arith))) (old e q)
          go (no q) =
              let i : n ≡ e = omega arith in
              subst (λ (x : ℕ). P x (get_or (set F n w) x 0)) i (subst (P n) (sym (get_or-set_same F n w 0 l)) new)

  -- the head of an expression
  pub container-by : (e : ℕ) (h g : HeadView) (b : Bool) → HeadAt J e h → h ≡ g → b ≡ is_container_primitive (program_for J) (head_of g)
      → b ≡ is_container_primitive (program_for J) (fact.head_of (expr_for J e))
  container-by e h g b H q r = head-by (is_container_primitive (program_for J)) H refl q r

  -- the sides of a fact
  module _ (i : ℕ) (f : FactView) (A : FactAt J i f) where
    fact-is : (g : FactView) → f ≡ g → fact_of (expr_for J) i g ≡ fact_for J i
    fact-is g q = fact-by A refl q

    pub equal-offence : (F : List ℕ) (l r n m w : ℕ) → f ≡ FactView.Equal l r → Searched J F → n ≡ l → m ≡ r
        → offence_in w ≡ first_of (offence_in (get_or F n 0 / 2)) (offence_in (get_or F m 0 / 2)) → offence_in w ≡ fact_offence (program_for J) (fact_for J i)
    equal-offence F l r n m w q S en em s =
        let b = A.equal l r q in
        let x : offence_in (get_or F n 0 / 2) ≡ offence (expr_for J l) (program_for J) = ap (λ (k : ℕ). offence_in (get_or F k 0 / 2)) en ∙ S.says l b.0 in
        let y : offence_in (get_or F m 0 / 2) ≡ offence (expr_for J r) (program_for J) = ap (λ (k : ℕ). offence_in (get_or F k 0 / 2)) em ∙ S.says r b.1 in
        s ∙ ap₂ (λ (o u : Option fact.Offence). first_of o u) x y ∙ ap (fact_offence (program_for J)) (fact-is (FactView.Equal l r) q)

    pub bare-offence : (F : List ℕ) (e n : ℕ) → f ≡ FactView.Bare e → Searched J F → n ≡ e → offence_in (get_or F n 0 / 2) ≡ fact_offence (program_for J) (fact_for J i)
    bare-offence F e n q S en =
        ap (λ (k : ℕ). offence_in (get_or F k 0 / 2)) en ∙ S.says e (A.bare e q) ∙ ap (fact_offence (program_for J)) (fact-is (FactView.Bare e) q)

    pub equal-side : (F : List ℕ) (l r n m : ℕ) {a b : Bool} → f ≡ FactView.Equal l r → Searched J F → n ≡ l → m ≡ r → a ≡ container_in (get_or F n 0) → b ≡ container_in (get_or F m 0)
        → (a || b) ≡ is_container_side_condition (program_for J) (fact_for J i)
    equal-side F l r n m {a} {b} q S en em ea eb =
        let w = A.equal l r q in
        let at : ℕ → Bool = λ k. container_in (get_or F k 0) in
        ap₂ (λ (x y : Bool). x || y) (ea ∙ ap at en ∙ S.calls l w.0) (eb ∙ ap at em ∙ S.calls r w.1) ∙ ap (is_container_side_condition (program_for J)) (fact-is (FactView.Equal l r) q)

    pub bare-side : (F : List ℕ) (e n : ℕ) {a : Bool} → f ≡ FactView.Bare e → Searched J F → n ≡ e → a ≡ container_in (get_or F n 0)
        → a ≡ is_container_side_condition (program_for J) (fact_for J i)
    bare-side F e n q S en ea =
        ea ∙ ap (λ (k : ℕ). container_in (get_or F k 0)) en ∙ S.calls e (A.bare e q) ∙ ap (is_container_side_condition (program_for J)) (fact-is (FactView.Bare e) q)

    -- words that are 0
    pub equal-ordinary : (F : List ℕ) (l r n m : ℕ) → f ≡ FactView.Equal l r → Searched J F → n ≡ l → m ≡ r → get_or F n 0 ≡ 0 → get_or F m 0 ≡ 0 → Ordinary (program_for J) (fact_for J i)
    equal-ordinary F l r n m q S en em zn zm = record {
      premised = sym (equal-side F l r n m q S en em (zero-calls zn) (zero-calls zm));
      normal = λ rule s. no-offence (program_for J) (fact_for J i) rule s (equal-offence F l r n m 0 q S en em (word-second 0 _ refl ∙ ap₂ (λ (a b : ℕ). first_of (offence_in a) (offence_in b)) (zero-half zn) (zero-half zm)));
    }

    pub bare-ordinary : (F : List ℕ) (e n : ℕ) → f ≡ FactView.Bare e → Searched J F → n ≡ e → get_or F n 0 ≡ 0 → Ordinary (program_for J) (fact_for J i)
    bare-ordinary F e n q S en z = record {
      premised = sym (bare-side F e n q S en (zero-calls z));
      normal = λ rule s. no-offence (program_for J) (fact_for J i) rule s (ap offence_in (zero-half z) ∙ bare-offence F e n q S en);
    }

-- normal form, by the offence that was found
pub normal-form : (J : List ℕ) (rule : ℕ) (s : List Term) {n i : ℕ} {o g : prelude.Option Offence} → offence_of o ≡ fact_offence (program_for J) (fact_for J n) → n ≡ i → o ≡ g
    → no_offence rule (offence_of g) s ≡ assert_body_proof_normal_form (program_for J) rule (fact_for J i) s
unfolding assert_body_proof_normal_form
normal-form J rule s d q p =
    ap (λ (x : prelude.Option Offence). no_offence rule (offence_of x) s) (sym p)
    ∙ ap (λ (x : Option fact.Offence). no_offence rule x s) d
    ∙ ap (λ (j : ℕ). no_offence rule (fact_offence (program_for J) (fact_for J j)) s) q
