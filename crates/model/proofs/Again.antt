-- A second evaluation of an expression finds every term in the store: it gives the same value and adds nothing.
use Prim.Native.Nat.{ℕ, zero, suc, ◌<◌, ◌≤◌}
use native.Mathlib.Omega.{arith}
use mathlib.Core.Path.{◌≡◌, refl, ap, ap₂, ◌∙◌}
use mathlib.Core.Logic.{◌⊎◌, inl, inr}
use mathlib.Core.List.Memᴰ
use mathlib.Core.List.{List, [], ◌∷◌, ◌++◌, map, Memᴰ}
use mathlib.Core.Bool.{Bool, true, false, ◌&&◌}
use mathlib.Core.Option.{Option, none, some, none-ne-some, some-injective}
use lib.ListN.{length}
use lib.Dec.{eqb}
use Rattle.model.specs.Cell.{same_words}
use lib.IntN.{ℤ}
use Rattle.model.specs.Counts.{count_of_term, all_of, exact, fitting, count_value}
use Rattle.model.specs.Term.{Term, Literal, lit, var, app, get_term, Extends, Below, Ordered}
use Rattle.model.specs.Program.{Head, literal, variable, constructor, custom, primitive, Expr, node, Exprs, nil, cons, Proposition, Binding, Row, Program, computes}
use Rattle.model.specs.Check.{Outcome, ok, Check, and_then, ◌>>=◌, pure, or_refuse, Room, add_node, ◌>>?◌}
use Rattle.model.specs.Evaluate.{lookup, primitive_at, row_value, counts_in, add_count, validate_by, validate, validated_by, children, concat_map, subterms_in, same, reflexive, Value, Values, valued, head_value, eval_expr, eval_exprs}
use Rattle.model.proofs.Post.{Nonzero, Post, post-ok, post-map, post-bind, post-result}
use Rattle.model.proofs.Agree.{agree-post}
use Rattle.model.proofs.Store.{extends-same, extends-then, extends-length, get-extends, get-inside, find-extends, Children, Added, add-agrees, add-found}

-- a check that, once it gave a value, gives the same one in every later store and adds nothing
module _ {A : Type 0} where
  pub record Settled (c : Check A) (s : List Term) (a : A) (s' : List Term) : Type 0 where
    pub grows : Extends s s'
    pub again : (s'' : List Term) → Extends s' s'' → c s'' ≡ ok a s''

  pub settled-pure : {a : A} {s : List Term} → Settled (pure a) s a s
  settled-pure = record { grows = extends-same; again = λ s'' x. refl }

  pub settled-or : (o : Option A) (n : ℕ) (fs : List ℕ) (s : List Term) → Nonzero {0} n → Post (or_refuse o n fs s) (Settled (or_refuse o n fs) s)
  unfolding or_refuse
  settled-or none n fs s z = record { holds = z }
  settled-or (some a) n fs s z = post-ok settled-pure

module _ {A B : Type 0} where
  pub settled-then : {c : Check A} (f : A → Check B) {s s₁ s₂ : List Term} {a : A} {b : B} → Settled c s a s₁ → Settled (f a) s₁ b s₂ → Settled (c >>= f) s b s₂
  settled-then f m n = record {
    grows = extends-then m.grows n.grows;
    again = λ s'' x. ap (λ (o : Outcome A). and_then o f) (m.again s'' (extends-then n.grows x)) ∙ n.again s'' x;
  }

pub added : (room : Room) (t : Term) (s : List Term) → Post (add_node room t s) (λ n s'. Settled (add_node room t) s n s' × Added room t s n s')
added room t s = post-map (agree-post (add-agrees room t s (tt {0}) λ n s' a.
    (record { grows = a.grows; again = λ s'' x. add-found room t s'' n (find-extends s' s'' t n x a.found) }, a))) λ n s' m. m.2

-- the subterms of a number of the store are the same in every later store
concat-same : (g h : ℕ → List ℕ) (xs : List ℕ) → ((x : ℕ) → Memᴰ x xs → g x ≡ h x) → concat_map g xs ≡ concat_map h xs
concat-same g h [] e = refl
concat-same g h (x ∷ xs) e = ap₂ ◌++◌ (e x (Memᴰ.head refl)) (concat-same g h xs (λ y m. e y (Memᴰ.tail m)))

pub child-lower : (s : List Term) → Ordered s → (n x : ℕ) → Memᴰ x (children (get_term s n)) → x < n
child-lower s o n x m = go (get_term s n) refl m
  where
    go : (q : Option Term) → get_term s n ≡ q → Memᴰ x (children q) → x < n
    go none e m = absurd (Memᴰ.not-nil m)
    go (some (lit l)) e m = absurd (Memᴰ.not-nil m)
    go (some (var y)) e m = absurd (Memᴰ.not-nil m)
    go (some (app f xs)) e m = o.lower n f xs e x m

pub subterms_extend : (s s' : List Term) → Ordered s → Extends s s' → (f n : ℕ) → n < length s → subterms_in f s' n ≡ subterms_in f s n
unfolding subterms_in
subterms_extend s s' o x zero n h = refl
subterms_extend s s' o x (suc f) n h = rw (get-extends s s' x n h)
    (ap {B = List ℕ} (λ (l : List ℕ). n ∷ l) (concat-same (subterms_in f s') (subterms_in f s) (children (get_term s n))
    (λ c m. let l = child-lower s o n c m in subterms_extend s s' o x f c (omega arith))))

pub reflexive-extend : (s s' : List Term) → Ordered s → Extends s s' → (n : ℕ) → n < length s → reflexive s' n ≡ reflexive s n
unfolding reflexive
reflexive-extend s s' o x n h = ap (map same) (subterms_extend s s' o x (suc n) n h)

-- the integers of terms, where each has one, are the same in every later store
all_tail : (o : Option ℤ) (r : Option (List ℤ)) (bs : List ℤ) → (o >>? λ a. r >>? λ as'. some (a ∷ as')) ≡ some bs → (as' : List ℤ) × (r ≡ some as')
all_tail none r bs e = absurd (none-ne-some bs e)
all_tail (some a) none bs e = absurd (none-ne-some bs e)
all_tail (some a) (some as') bs e = (as', refl)

count-inside : (s : List Term) (x : ℕ) (q : Option Term) → get_term s x ≡ q → (r : Option (List ℤ)) (bs : List ℤ)
    → (count_of_term q >>? λ a. r >>? λ as'. some (a ∷ as')) ≡ some bs → x < length s
count-inside s x none e r bs h = absurd (none-ne-some bs h)
count-inside s x (some t) e r bs h = get-inside s x t e

counts-extend : (s s' : List Term) → Extends s s' → (xs : List ℕ) (bs : List ℤ) → all_of (counts_in s xs) ≡ some bs → counts_in s' xs ≡ counts_in s xs
counts-extend s s' g [] bs e = refl
counts-extend s s' g (x ∷ xs) bs e =
    let t = all_tail (count_of_term (get_term s x)) (all_of (counts_in s xs)) bs e in
    ap₂ ◌∷◌ (ap count_of_term (get-extends s s' g x (count-inside s x (get_term s x) refl (all_of (counts_in s xs)) bs e))) (counts-extend s s' g xs t.0 t.1)

value-extend : (s s' : List Term) → Extends s s' → (k : ℕ) (xs : List ℕ) (l : Literal) → count_value k (counts_in s xs) ≡ some l → count_value k (counts_in s' xs) ≡ some l
unfolding count_value
value-extend s s' g k xs l e = go (all_of (counts_in s xs)) refl e
  where
    go : (o : Option (List ℤ)) → all_of (counts_in s xs) ≡ o → (o >>? exact k >>? fitting) ≡ some l → count_value k (counts_in s' xs) ≡ some l
    go none f h = absurd (none-ne-some l h)
    go (some bs) f h = ap (count_value k) (counts-extend s s' g xs bs f) ∙ e

module _ (room : Room) (prog : Program) where
  -- a count's value: it is settled, and a literal was added
  record Computed (c : Check ℕ) (s : List Term) (t : ℕ) (s' : List Term) : Type 0 where
    pub settled : Settled c s t s'
    pub literal : Literal
    pub added : Added room (lit literal) s t s'

  module _ (n p : ℕ) (fs : List ℕ) (ts : List ℕ) where
    abbrev computing : Check ℕ
    computing = validate_by room prog p ts true >>= λ o. or_refuse o n fs

    abbrev kind : ℕ
    kind = (primitive_at prog.primitives p).kind

    computed : (s : List Term) → Nonzero {0} n → Post (computing s) (Computed computing s)
    unfolding or_refuse
    computed s z = by (count_value kind (counts_in s ts)) refl
      where
        by : (v : Option Literal) → count_value kind (counts_in s ts) ≡ v → Post (and_then (add_count room v s) (λ o. or_refuse o n fs)) (Computed computing s)
        by none e = record { holds = z }
        by (some l) e = post-bind {P = λ o s'. (t : ℕ) × (o ≡ some t) × Settled (add_node room (lit l)) s t s' × Added room (lit l) s t s'}
            (post-bind (added room (lit l) s) λ t s' m. post-ok (t, refl, m.0, m.1))
            λ o s' m. rw m.1 (post-ok (record {
              settled = record {
                grows = m.2.grows;
                again = λ s'' x. ap (λ (v : Option Literal). and_then (add_count room v s'') (λ q. or_refuse q n fs)) (value-extend s s'' (extends-then m.2.grows x) kind ts l e)
                    ∙ ap (λ (r : Outcome ℕ). and_then (and_then r (λ t. pure (some t))) (λ q. or_refuse q n fs)) (m.2.again s'' x);
              };
              literal = l;
              added = m.3;
            }))

  pub validated-settled : (n p : ℕ) (ts : List ℕ) (s : List Term) → Nonzero {0} n → (b : Bool) → Post (validated_by room prog n p ts b s) (Settled (validated_by room prog n p ts b) s)
  unfolding validate
  validated-settled n p ts s z false = record { holds = z }
  validated-settled n p ts s z true = by (computes (primitive_at prog.primitives p))
    where
      by : (b : Bool) → Post ((validate_by room prog p ts b >>= λ o. or_refuse o 46 ((primitive_at prog.primitives p).name ∷ [])) s)
          (Settled (validate_by room prog p ts b >>= λ o. or_refuse o 46 ((primitive_at prog.primitives p).name ∷ [])) s)
      by false = settled-or (row_value prog.rows p ts) _ _ s tt
      by true = post-map (computed 46 p _ ts s tt) λ t s' m. m.settled

-- evaluation with pairs: the store is ordered, and the numbers that the bindings and the rows name lie in it
lookup-member : (σ : List Binding) (x t : ℕ) → lookup σ x ≡ some t → (b : Binding) × Memᴰ b σ × (b.term ≡ t)
lookup-member [] x t e = absurd (none-ne-some t e)
lookup-member (b ∷ bs) x t e = go (eqb b.name x) e (lookup-member bs x t)
  where
    go : (d : Bool) → elim d [ true ↦ some b.term | false ↦ lookup bs x ] ≡ some t
        → (lookup bs x ≡ some t → (c : Binding) × Memᴰ c bs × (c.term ≡ t)) → (c : Binding) × Memᴰ c (b ∷ bs) × (c.term ≡ t)
    go true e r = (b, Memᴰ.head refl, some-injective b.term t e)
    go false e r = let k = r e in (k.0, Memᴰ.tail k.1, k.2)

row-member : (rs : List Row) (p : ℕ) (xs : List ℕ) (t : ℕ) → row_value rs p xs ≡ some t → (r : Row) × Memᴰ r rs × (r.result ≡ t)
row-member [] p xs t e = absurd (none-ne-some t e)
row-member (r ∷ rs) p xs t e = go (eqb r.primitive p && same_words r.arguments xs) e (row-member rs p xs t)
  where
    go : (d : Bool) → elim d [ true ↦ some r.result | false ↦ row_value rs p xs ] ≡ some t
        → (row_value rs p xs ≡ some t → (q : Row) × Memᴰ q rs × (q.result ≡ t)) → (q : Row) × Memᴰ q (r ∷ rs) × (q.result ≡ t)
    go true e k = (r, Memᴰ.head refl, some-injective r.result t e)
    go false e k = let m = k e in (m.0, Memᴰ.tail m.1, m.2)

module _ (prog : Program) (room : Room) (rule : ℕ) (σ : List Binding) where
  pub record Sane (s : List Term) : Type 0 where
    pub ordered : Ordered s
    pub bound : (b : Binding) → Memᴰ b σ → b.term < length s
    pub rows : (r : Row) → Memᴰ r prog.rows → r.result < length s

  sane-grows : {s s' : List Term} → Extends s s' → Ordered s' → Sane s → Sane s'
  sane-grows {s} {s'} x o w = let l : length s ≤ length s' = extends-length x in record {
    ordered = o;
    bound = λ b m. let h = w.bound b m in omega arith;
    rows = λ r m. let h = w.rows r m in omega arith;
  }

  pub record Again (c : Check Value) (s : List Term) (v : Value) (s' : List Term) : Type 0 where
    pub settled : Settled c s v s'
    pub sane : Sane s'
    pub inside : v.term < length s'

  record Agains (c : Check Values) (s : List Term) (vs : Values) (s' : List Term) : Type 0 where
    pub settled : Settled c s vs s'
    pub sane : Sane s'
    pub inside : Below (length s') vs.terms

  -- a number in an ordered store, with its pairs
  valued-again : {c : Check ℕ} {s s' : List Term} {t : ℕ} (ps : List Proposition) → Settled c s t s' → Sane s' → t < length s'
      → Post (valued ps t s') (Again (c >>= valued ps) s)
  valued-again {c} {s} {s'} {t} ps m w h = post-ok (record {
    settled = settled-then (valued ps) m (record {
      grows = extends-same;
      again = λ s'' x. ap {B = Outcome Value} (λ (l : List Proposition). ok (record { term = t; pairs = ps ++ l }) s'') (reflexive-extend s' s'' w.ordered x t h);
    });
    sane = w;
    inside = h;
  })

  add-again : (t : Term) (ps : List Proposition) (s : List Term) → Sane s → Children (length s) t → Post ((add_node room t >>= valued ps) s) (Again (add_node room t >>= valued ps) s)
  add-again t ps s w h = post-bind (added room t s) λ n s' m.
      valued-again ps m.0 (sane-grows m.1.grows (m.1.ordered h w.ordered) w) (get-inside s' n t m.1.there)

  or-again : (o : Option ℕ) (n : ℕ) (fs : List ℕ) (ps : List Proposition) (s : List Term) → Nonzero {0} n → Sane s → ((t : ℕ) → o ≡ some t → t < length s)
      → Post ((or_refuse o n fs >>= valued ps) s) (Again (or_refuse o n fs >>= valued ps) s)
  unfolding or_refuse
  or-again none n fs ps s z w h = record { holds = z }
  or-again (some t) n fs ps s z w h = valued-again ps settled-pure w (h t refl)

  row-again : (p : ℕ) (ts : List ℕ) (ps : List Proposition) (s : List Term) → Sane s → (b : Bool)
      → Post ((validated_by room prog 51 p ts b >>= valued ps) s) (Again (validated_by room prog 51 p ts b >>= valued ps) s)
  unfolding validate
  row-again p ts ps s w false = record { holds = tt }
  row-again p ts ps s w true = by (computes (primitive_at prog.primitives p))
    where
      by : (b : Bool) → Post (((validate_by room prog p ts b >>= λ o. or_refuse o 46 ((primitive_at prog.primitives p).name ∷ [])) >>= valued ps) s)
          (Again ((validate_by room prog p ts b >>= λ o. or_refuse o 46 ((primitive_at prog.primitives p).name ∷ [])) >>= valued ps) s)
      by false = or-again (row_value prog.rows p ts) _ _ ps s tt w (λ t e. let k = row-member prog.rows p ts t e in rw k.2 at (w.rows k.0 k.1))
      by true = post-bind (computed room prog 46 p _ ts s tt) λ t s' m.
          valued-again ps m.settled (sane-grows m.added.grows (m.added.ordered tt w.ordered) w) (get-inside s' t (lit m.literal) m.added.there)

  head-again : (h : Head) (vs : Values) (s : List Term) → Sane s → Below (length s) vs.terms
      → Post (head_value room prog rule σ h vs s) (Again (head_value room prog rule σ h vs) s)
  unfolding head_value
  head-again (literal l) vs s w b = add-again (lit l) [] s w tt
  head-again (variable x) vs s w b = or-again (lookup σ x) _ _ [] s tt w
      (λ t e. let k = lookup-member σ x t e in rw k.2 at (w.bound k.0 k.1))
  head-again (constructor f) vs s w b = add-again (app f vs.terms) vs.pairs s w b
  head-again (custom f) vs s w b = add-again (app f vs.terms) vs.pairs s w b
  head-again (primitive p) vs s w b = row-again p vs.terms vs.pairs s w (primitive_at prog.primitives p).validator

  below-cons : (a b t : ℕ) (ts : List ℕ) → t < a → a ≤ b → Below b ts → (x : ℕ) → (x ≡ t) ⊎ Memᴰ x ts → x < b
  below-cons a b t ts h l k x (inl e) = omega arith
  below-cons a b t ts h l k x (inr m) = k x m

  mutual
    unfolding eval_expr

    pub eval-settled : (e : Expr) (s : List Term) → Sane s → Post (eval_expr room prog rule σ e s) (Again (eval_expr room prog rule σ e) s)
    eval-settled (node i h es) s w =
        post-bind (evals_settled es s w) λ vs s₁ m.
        post-map (head-again h vs s₁ m.sane m.inside) λ v s₂ n.
        record { settled = settled-then (head_value room prog rule σ h) m.settled n.settled; sane = n.sane; inside = n.inside }

    evals_settled : (es : Exprs) (s : List Term) → Sane s → Post (eval_exprs room prog rule σ es s) (Agains (eval_exprs room prog rule σ es) s)
    evals_settled nil s w = post-ok (record { settled = settled-pure; sane = w; inside = λ x m. absurd (Memᴰ.not-nil m) })
    evals_settled (cons e es) s w =
        post-bind (eval-settled e s w) λ v s₁ m.
        post-bind (evals_settled es s₁ m.sane) λ vs s₂ n.
        post-ok (record {
          settled = settled-then (λ a. eval_exprs room prog rule σ es >>= λ as'. pure (record { terms = a.term ∷ as'.terms; pairs = a.pairs ++ as'.pairs })) m.settled
              (settled-then (λ as'. pure (record { terms = v.term ∷ as'.terms; pairs = v.pairs ++ as'.pairs })) n.settled settled-pure);
          sane = n.sane;
          inside = λ x k. below-cons (length s₁) (length s₂) v.term vs.terms m.inside (extends-length n.settled.grows) n.inside x (Memᴰ.cases_cons k);
        })

  -- a second evaluation, pairs included
  pub again : (e : Expr) (s s' s'' : List Term) (v : Value) → Sane s → eval_expr room prog rule σ e s ≡ ok v s' → Extends s' s'' → eval_expr room prog rule σ e s'' ≡ ok v s''
  again e s s' s'' v w q x = (post-result (eval-settled e s w) q).settled.again s'' x
