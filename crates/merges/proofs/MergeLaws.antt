-- A merge: the views read, the function run, and the view of its value added.
use mathlib.Core.Path.{◌≡◌, refl, sym, ap, ap₂, subst, ◌∙◌}
use mathlib.Core.Logic.{◌⊎◌, inl, inr}
use mathlib.Core.Bool.{Bool, true, false}
use mathlib.Core.List.Memᴰ
use mathlib.Core.List.{List, [], ◌∷◌, Memᴰ}
use mathlib.Core.Option.{Option, none, some, none-ne-some, some-injective}
use Prim.Native.Nat.{ℕ, ◌<◌}
use native.Mathlib.Omega.{arith}
use lib.Dec.{eqb}
use lib.ListN.{length, length-replicate}
use Rattle.model.specs.Cell.{same_words}
use Rattle.model.specs.Term.{Term, lit, var, app, get_term}
use Rattle.model.specs.Program.{name_old, name_new, Proposition, Binding, Program}
use Rattle.model.specs.Check.{Outcome, Check, and_then, ◌>>=◌, pure, or_refuse, check_that, get_terms, Room}
use Rattle.model.specs.Evaluate.{children, Value}
use Rattle.model.specs.Action.{merge_bindings, run_merge}
use Rattle.model.specs.Normalize.{App, as_app}
use Rattle.model.specs.Walk.{last, front, check_views, check_both_apps}
use Rattle.model.proofs.Post.{Post, post-ok, post-bind, post-result, or-bind, that-bind, post-that}
use Rattle.model.proofs.Store.{get-extends}
use Rattle.index.specs.declared.Fill.{Fill}
use Rattle.termdag.specs.Store.{terms_in, room_of}
use Rattle.outcome.specs.Does.{outcome_of, Does}
use Rattle.outcome.specs.declared.Refusal.{Refusal}
use Rattle.outcome.specs.declared.Checked.{Checked}
use Rattle.outcome.proofs.Laws.{ok_of, does-here, does-then, does-stop}
use Rattle.marks.specs.Covering.{Marks}
use Rattle.marks.proofs.Marking.{marks-cleared}
use Rattle.program.specs.Ready.{program_for}
use Rattle.evaluate.specs.Evaluation.{Checks}
use Rattle.actions.specs.Acting.{Standing, Yields}
use Rattle.heads.specs.Heading.{cleared_if}
use Rattle.merges.specs.declared.Views.{Views}
use Rattle.merges.specs.Merge.{Merging, compare_views, both_views, both_reflexive, read_views, add_view, merge_views, merge_step}
use Rattle.merges.specs.Step.{Small, merging_of, AddsView}
use Rattle.model.proofs.Sequence.{then-assoc, then-alike}
use Rattle.merges.proofs.TestLaws.{plain-stop}
use Rattle.merges.proofs.AddLaws.{small-extends, children-below}

-- the step is what is read, then the merge
module _ (room : Room) (prog : Program) (p : ℕ) (q : Proposition) (function : ℕ) where
  abbrev merges : Merging → Check (Unit {0})
  merges = merge_views room prog p q function

  views-split : (old new : App) (s : List Term) → check_views room prog p q function old new s ≡ and_then (compare_views p old new s) merges
  unfolding check_views compare_views merge_views add_view
  views-split old new s =
      then-alike (check_that (eqb old.head new.head) 34 (p ∷ old.head ∷ new.head ∷ []) s) (λ _ s₁.
      then-alike (or_refuse (last old.args) 35 (p ∷ 0 ∷ []) s₁) (λ x s₂.
      then-alike (or_refuse (last new.args) 35 (p ∷ 1 ∷ []) s₂) (λ y s₃.
      sym (then-assoc (check_that (same_words (front old.args) (front new.args)) 36 (p ∷ []) s₃) (λ _. pure (record { head = old.head; inputs = front old.args; old = x; new = y })) merges))
      ∙ sym (then-assoc (or_refuse (last new.args) 35 (p ∷ 1 ∷ []) s₂) _ merges))
      ∙ sym (then-assoc (or_refuse (last old.args) 35 (p ∷ 0 ∷ []) s₁) _ merges))
      ∙ sym (then-assoc (check_that (eqb old.head new.head) 34 (p ∷ old.head ∷ new.head ∷ []) s) _ merges)

  both-split : (x y : ℕ) (o o' : Option App) (s : List Term) → check_both_apps room prog p q function x y o o' s ≡ and_then (both_views p x y o o' s) merges
  both-split x y none o' s = refl
  both-split x y (some a) none s = refl
  both-split x y (some a) (some b) s = views-split a b s

  pub merge-split : (a b : Proposition) (s : List Term) → merge_step room prog p q function a b s ≡ and_then (read_views p a b s) merges
  unfolding merge_step read_views both_reflexive
  merge-split a b s =
      then-alike (check_that (eqb a.lhs a.rhs) 39 (p ∷ 0 ∷ a.lhs ∷ a.rhs ∷ []) s) (λ _ u.
      then-alike (check_that (eqb b.lhs b.rhs) 39 (p ∷ 1 ∷ b.lhs ∷ b.rhs ∷ []) u) (λ _ v. both-split a.rhs b.rhs (as_app (get_term v a.rhs)) (as_app (get_term v b.rhs)) v)
      ∙ sym (then-assoc (check_that (eqb b.lhs b.rhs) 39 (p ∷ 1 ∷ b.lhs ∷ b.rhs ∷ []) u) (λ _. get_terms >>= λ v. both_views p a.rhs b.rhs (as_app (get_term v a.rhs)) (as_app (get_term v b.rhs))) merges))
      ∙ sym (then-assoc (check_that (eqb a.lhs a.rhs) 39 (p ∷ 0 ∷ a.lhs ∷ a.rhs ∷ []) s) _ merges)
      ∙ ap (λ (o : Outcome Merging). and_then o merges) (sym (then-assoc (check_that (eqb a.lhs a.rhs) 39 (p ∷ 0 ∷ a.lhs ∷ a.rhs ∷ []) s) _ _))

-- the values of the views are their last children
abbrev Values : List Term → Option Term → Option Term → Merging → List Term → Type 0
Values s o o' v s' = (last (children o) ≡ some v.old) × (last (children o') ≡ some v.new) × (s' ≡ s) × (v.inputs ≡ front (children o))

compare-values : (p f g : ℕ) (xs ys : List ℕ) (s : List Term) → Post (compare_views p (record { head = f; args = xs }) (record { head = g; args = ys }) s) (Values s (some (app f xs)) (some (app g ys)))
unfolding compare_views
compare-values p f g xs ys s =
    that-bind (eqb f g) 34 _ s _ tt λ _.
    or-bind (last xs) 35 _ s _ tt λ x e.
    or-bind (last ys) 35 _ s _ tt λ y d.
    that-bind (same_words (front xs) (front ys)) 36 _ s _ tt λ _.
    post-ok (e, d, refl, refl)

both_values : (p x y : ℕ) (o o' : Option Term) (s : List Term) → Post (both_views p x y (as_app o) (as_app o') s) (Values s o o')
both_values p x y none o' s = record { holds = tt }
both_values p x y (some (lit l)) o' s = record { holds = tt }
both_values p x y (some (var n)) o' s = record { holds = tt }
both_values p x y (some (app f xs)) none s = record { holds = tt }
both_values p x y (some (app f xs)) (some (lit l)) s = record { holds = tt }
both_values p x y (some (app f xs)) (some (var n)) s = record { holds = tt }
both_values p x y (some (app f xs)) (some (app g ys)) s = compare-values p f g xs ys s

pub read-values : (p : ℕ) (a b : Proposition) (s : List Term) → Post (read_views p a b s) (λ v s'. (last (children (get_term s a.rhs)) ≡ some v.old) × (last (children (get_term s b.rhs)) ≡ some v.new) × (s' ≡ s) × (v.inputs ≡ front (children (get_term s a.rhs))))
unfolding read_views both_reflexive
read-values p a b s =
    post-bind {P = λ _ s'. s' ≡ s} (that-bind (eqb a.lhs a.rhs) 39 _ s _ tt λ _. post-that (eqb b.lhs b.rhs) 39 _ s tt λ _. refl) λ _ s' e.
    subst (λ (u : List Term). Post (both_views p a.rhs b.rhs (as_app (get_term u a.rhs)) (as_app (get_term u b.rhs)) u) (Values s (get_term s a.rhs) (get_term s b.rhs))) (sym e)
    (both_values p a.rhs b.rhs (get_term s a.rhs) (get_term s b.rhs) s)

pub last-member : (xs : List ℕ) (y : ℕ) → last xs ≡ some y → Memᴰ y xs
last-member [] y e = absurd (none-ne-some y e)
last-member (x ∷ []) y e = Memᴰ.head (sym (some-injective x y e))
last-member (x ∷ z ∷ zs) y e = Memᴰ.tail (last-member (z ∷ zs) y e)

last_some : (xs : List ℕ) (y : ℕ) → last xs ≡ some y → 0 < length xs
last_some [] y e = absurd (none-ne-some y e)
last_some (x ∷ xs) y e = omega arith

-- the bindings of a merge
pub merge-bound : (old new : ℕ) {n : ℕ} → old < n → new < n → (x : Binding) → Memᴰ x (merge_bindings old new) → x.term < n
merge-bound old new {n} h k x m = first (Memᴰ.cases_cons m)
  where
    second : (x ≡ record { name = name_new; term = new }) ⊎ Memᴰ x [] → x.term < n
    second (inl i) = subst (λ (y : Binding). y.term < n) (sym i) k
    second (inr i) = absurd (Memᴰ.not-nil i)

    first : (x ≡ record { name = name_old; term = old }) ⊎ Memᴰ x (record { name = name_new; term = new } ∷ []) → x.term < n
    first (inl i) = subst (λ (y : Binding). y.term < n) (sym i) h
    first (inr i) = second (Memᴰ.cases_cons i)

-- marks that are cleared are as many
pub cleared-length : (b : Bool) (m : List ℕ) → length (cleared_if b m) ≡ length m
cleared-length true m = length-replicate (length m) 0
cleared-length false m = refl

-- the code's merge
module _ (J F : List ℕ) (p : ℕ) (q : Proposition) (function : ℕ) (a b : Proposition) (k e pool ix : List ℕ) (f : Fill) (memo m : List ℕ)
    (S : Standing J F [] k e pool ix f memo m) (sa : Small (terms_in k e pool f) a.rhs) (sb : Small (terms_in k e pool f) b.rhs)
    (v : Views) (R : outcome_of v.refusal (merging_of v (front (children (get_term (terms_in k e pool f) a.rhs)))) (terms_in k e pool f) ≡ read_views p a b (terms_in k e pool f)) where
  abbrev prog : Program
  prog = program_for J

  abbrev s : List Term
  s = terms_in k e pool f

  abbrev inputs : List ℕ
  inputs = front (children (get_term s a.rhs))

  abbrev whole : Outcome (Unit {0})
  whole = merge_step (room_of k pool) prog p q function a b s

  pub merge-unread : (v.refusal.number ≡ 0 → ⊥) → Checks k e pool ix f k e pool ix f v.refusal tt memo whole
  merge-unread n = record {
    does = does-here S.indexed (plain-stop v.refusal (merging_of v inputs) s R tt (merge_views (room_of k pool) prog p q function) n ∙ sym (merge-split (room_of k pool) prog p q function a b s));
    past = λ u. absurd (n u);
  }

  module _ (n : v.refusal.number ≡ 0) where
    values : (last (children (get_term s a.rhs)) ≡ some v.old) × (last (children (get_term s b.rhs)) ≡ some v.new)
    values = let w = post-result (read-values p a b s) (sym R ∙ ok_of v.refusal (merging_of v inputs) s n) in (w.0, w.1)

    pub merge-standing : {m₁ : List ℕ} → length m₁ ≡ length m → Standing J F (merge_bindings v.old v.new) k e pool ix f memo m₁
    merge-standing l = record {
      ready = S.ready;
      keyed = S.keyed;
      indexed = S.indexed;
      sane = record {
        ordered = S.sane.ordered;
        bound = merge-bound v.old v.new (children-below s S.sane.ordered a.rhs v.old (last-member _ _ values.0)) (children-below s S.sane.ordered b.rhs v.new (last-member _ _ values.1));
        rows = S.sane.rows;
      };
      fits = S.fits;
      past = S.past;
      cells = let h = S.cells in omega arith;
    }

    read : Does k e pool ix f k e pool ix f v.refusal (merging_of v inputs) (read_views p a b s)
    read = does-here S.indexed R

    merged : {k₂ e₂ p₂ ix₂ : List ℕ} {f₂ : Fill} {r : Refusal} → Does k e pool ix f k₂ e₂ p₂ ix₂ f₂ r tt (merge_views (room_of k pool) prog p q function (merging_of v inputs) s) → Does k e pool ix f k₂ e₂ p₂ ix₂ f₂ r tt whole
    merged {k₂} {e₂} {p₂} {ix₂} {f₂} {r} d =
        subst (Does k e pool ix f k₂ e₂ p₂ ix₂ f₂ r tt) (sym (merge-split (room_of k pool) prog p q function a b s))
        (does-then (λ room. merge_views room prog p q function) read n d)

    module _ (m₁ k₁ e₁ p₁ ix₁ memo₁ m₂ : List ℕ) (c : Checked)
        (Y : Yields prog (merge_bindings v.old v.new) (run_merge (room_of k pool) prog function v.old v.new s) (eqb q.lhs q.rhs) k e pool ix f m₁ k₁ e₁ p₁ ix₁ c memo₁ m₂) where
      abbrev s₁ : List Term
      s₁ = terms_in k₁ e₁ p₁ c.fill

      abbrev adds : Room → Value → Check (Unit {0})
      adds room w = add_view room p q v.head inputs w.term w.pairs

      pub merge-refused : (c.refusal.number ≡ 0 → ⊥) → Checks k e pool ix f k₁ e₁ p₁ ix₁ c.fill c.refusal tt memo₁ whole
      unfolding merge_views
      merge-refused h = record { does = merged (does-stop tt (adds (room_of k pool)) Y.does h); past = λ u. absurd (h u) }

      module _ (h : c.refusal.number ≡ 0) where
        pub view-small : Small s₁ a.rhs × (0 < length (children (get_term s₁ a.rhs)))
        view-small = (
          small-extends (Y.grows h) sa,
          subst (λ (o : Option Term). 0 < length (children o)) (sym (get-extends s s₁ (Y.grows h) a.rhs sa.inside)) (last_some (children (get_term s a.rhs)) v.old values.0),
        )

        marked : m₁ ≡ cleared_if (eqb q.lhs q.rhs) m → eqb q.lhs q.rhs ≡ true → Marks s₁ m₂ Y.value.pairs
        marked g u = Y.marks h u [] (marks-cleared s m₁ (length m) (g ∙ ap (λ (b : Bool). cleared_if b m) u))

        pub merge-adds : {k₂ e₂ p₂ ix₂ : List ℕ} {d : Checked} → m₁ ≡ cleared_if (eqb q.lhs q.rhs) m → length m₁ ≡ length m → length m₂ ≡ length m₁
            → AddsView p q a.rhs v.head c.value k₁ e₁ p₁ ix₁ c.fill m₂ k₂ e₂ p₂ ix₂ d
            → Checks k e pool ix f k₂ e₂ p₂ ix₂ d.fill d.refusal tt memo₁ whole
        unfolding merge_views
        merge-adds {k₂} {e₂} {p₂} {ix₂} {d} g l l₂ A = record {
          does = merged (does-then adds Y.does h (subst (Does k₁ e₁ p₁ ix₁ c.fill k₂ e₂ p₂ ix₂ d.fill d.refusal tt)
              (ap₂ (λ (xs : List ℕ) (t : ℕ). add_view (room_of k₁ p₁) p q v.head xs t Y.value.pairs s₁)
              (ap (λ (o : Option Term). front (children o)) (get-extends s s₁ (Y.grows h) a.rhs sa.inside)) (sym (Y.term h)))
              (A.does Y.value.pairs (Y.sane h).ordered (Y.inside h) (let x = S.cells in let y = Y.does.grown.len_k in omega arith) (Y.others h q) (marked g))));
          past = λ _. Y.past h;
        }
