-- The actions of a head, one after the other, and the pair that it claims.
use mathlib.Core.Path.{◌≡◌, refl, sym, ap, subst, subst⁻¹, ◌∙◌}
use mathlib.Core.Bool.{Bool, true, false, ◌||◌, true≢false}
use mathlib.Core.List.{List, [], ◌∷◌, ◌++◌, map, append-nil}
use Prim.Native.Nat.{ℕ, suc, ◌+◌, ◌-◌, ◌<◌, ◌≤◌}
use native.Mathlib.Numerals.{add-one}
use native.Mathlib.Omega.{arith}
use lib.ListN.{length, get_or, take, drop, drop_of_length-le}
use lib.Seq.{drop-cons, drop_at, length-take-le}
use Rattle.cells.specs.Table.{put}
use Rattle.cells.proofs.Laws.{to_end}
use Rattle.model.specs.Term.{Term, Extends}
use Rattle.model.specs.Program.{Proposition, Binding, Program, Action}
use Rattle.model.specs.Decode.{read_bindings}
use Rattle.model.specs.Check.{Outcome, ok, refused, and_then, check_that, Room}
use Rattle.model.specs.Action.{ActionContext, start_context, process_action, process_actions, among}
use Rattle.model.proofs.Store.{extends-same, extends-then, extends-length}
use Rattle.index.specs.declared.Fill.{Fill}
use Rattle.termdag.specs.Store.{terms_in, room_of}
use Rattle.outcome.specs.Does.{passed, outcome_of, Grown}
use Rattle.outcome.specs.declared.Checked.{Checked}
use Rattle.outcome.proofs.Laws.{ok_of, refused-of, grown-same, grown-then, room-same}
use Rattle.marks.specs.Covering.{Marks}
use Rattle.program.specs.Ready.{program_for}
use Rattle.program.specs.Read.{action_for}
use Rattle.evaluate.specs.Value.{bindings_in}
use Rattle.evaluate.specs.Evaluation.{Sane}
use Rattle.actions.specs.declared.Effect.{Effect}
use Rattle.actions.specs.declared.Acted.{Acted}
use Rattle.actions.specs.Acting.{Standing, effect_bindings, effect_has, Acts, Pushed, Going, Steady}
use Rattle.actions.proofs.Acting.{among-append, standing-after}
use Rattle.actions.proofs.Steady.{going-steady}
use Rattle.heads.specs.declared.Headed.{Headed}
use Rattle.heads.specs.Heading.{Heads}

-- bindings over others
over-others : (e : Effect) (σ τ : List Binding) → effect_bindings e σ ++ τ ≡ effect_bindings e (σ ++ τ)
over-others (Effect.Bind x t) σ τ = refl
over-others (Effect.Union a b) σ τ = refl
over-others Effect.Nothing σ τ = refl

pub pushed-bindings : {T : List ℕ} {at : ℕ} {e : Effect} {T' : List ℕ} {r : ℕ} (S G : List ℕ) → Pushed T at e T' r
    → effect_bindings e (bindings_in (drop at T) S G) ≡ bindings_in (drop r T') S G
pushed-bindings {T} {at} {e} S G p = sym (over-others e (read_bindings (drop at T)) (read_bindings S ++ read_bindings G)) ∙ ap (λ (σ : List Binding). σ ++ (read_bindings S ++ read_bindings G)) (sym p.bindings)

-- a store that is sane with more bindings
pub sane-fewer : {prog : Program} {σ τ : List Binding} {s s' : List Term} → Sane prog σ s → Extends s s' → Sane prog τ s' → Sane prog σ s'
sane-fewer {s = s} {s' = s'} w x v = let l : length s ≤ length s' = extends-length x in record { ordered = v.ordered; bound = λ b m. let h = w.bound b m in omega arith; rows = v.rows }

module _ (J F : List ℕ) (rule : ℕ) (S G : List ℕ) (q : Proposition) (marking : Bool) where
  abbrev prog : Program
  prog = program_for J

  abbrev action : ℕ → Action
  action = action_for J

  -- after i of the actions xs, from the bindings σ
  pub record Turn (xs : List ℕ) (σ : List Binding) (k₀ e₀ p₀ ix₀ : List ℕ) (f₀ : Fill) (memo₀ m₀ k e p ix : List ℕ) (f : Fill) (memo m T : List ℕ) (at : ℕ) (found kept : Bool) (i : ℕ) : Type 0 where
    pub context : ActionContext
    pub upto : i ≤ length xs
    pub full : length T ≡ 160
    pub low : at ≤ 160
    pub free : (length xs - i) + (length xs - i) ≤ at
    pub first : Standing J F σ k₀ e₀ p₀ ix₀ f₀ memo₀ m₀
    pub stand : Standing J F (bindings_in (drop at T) S G) k e p ix f memo m
    pub going : kept ≡ true → Going J rule (bindings_in (drop at T) S G) marking k e p f memo m
    pub len_memo : length memo ≡ length memo₀
    pub len_m : length m ≡ length m₀
    pub bindings : context.bindings ≡ bindings_in (drop at T) S G
    pub grown : Grown k₀ e₀ p₀ ix₀ f₀ k e p ix f
    pub grows : Extends (terms_in k₀ e₀ p₀ f₀) (terms_in k e p f)
    pub run : process_actions (room_of k₀ p₀) prog rule (map action (drop i xs)) context (terms_in k e p f) ≡ process_actions (room_of k₀ p₀) prog rule (map action xs) (start_context σ) (terms_in k₀ e₀ p₀ f₀)
    pub others : (q.lhs ≡ q.rhs → ⊥) → among q context.pairs ≡ found
    pub marks : marking ≡ true → Marks (terms_in k₀ e₀ p₀ f₀) m₀ [] → Marks (terms_in k e p f) m context.pairs

  pub start : {xs : List ℕ} {B k e p ix : List ℕ} {f : Fill} {memo m T : List ℕ} {at : ℕ} → Standing J F (bindings_in B S G) k e p ix f memo m → length xs ≤ 64 → at ≤ 160 → 128 ≤ at
      → length T ≡ 160 → drop at T ≡ B → Turn xs (bindings_in B S G) k e p ix f memo m k e p ix f memo m T at false false 0
  start {xs} {B} {k} {e} {p} {ix} {f} {memo} {m} {T} {at} st few low high full q = record {
    context = start_context (bindings_in B S G);
    upto = omega arith;
    full = full;
    low = low;
    free = omega arith;
    first = st;
    stand = subst⁻¹ (λ (X : List ℕ). Standing J F (bindings_in X S G) k e p ix f memo m) q st;
    going = λ u. absurd (true≢false (sym u));
    len_memo = refl;
    len_m = refl;
    bindings = ap (λ (X : List ℕ). bindings_in X S G) (sym q);
    grown = grown-same st.indexed;
    grows = extends-same;
    run = refl;
    others = λ h. refl;
    marks = λ t w. w;
  }

  module _ {xs : List ℕ} {σ : List Binding} {k₀ e₀ p₀ ix₀ : List ℕ} {f₀ : Fill} {memo₀ m₀ k e p ix : List ℕ} {f : Fill} {memo m T : List ℕ} {at : ℕ} {found kept : Bool} {i : ℕ}
      (t : Turn xs σ k₀ e₀ p₀ ix₀ f₀ memo₀ m₀ k e p ix f memo m T at found kept i) where
    abbrev s : List Term
    s = terms_in k e p f

    abbrev room : Room
    room = room_of k₀ p₀

    -- the next action, in the context that there is
    module _ {k₁ e₁ p₁ ix₁ : List ℕ} {a : Acted} {memo₁ m₁ : List ℕ} (h : i < length xs)
        (d : Acts prog rule (action (get_or xs i 0)) (bindings_in (drop at T) S G) marking k e p ix f m k₁ e₁ p₁ ix₁ a memo₁ m₁) where
      abbrev s₁ : List Term
      s₁ = terms_in k₁ e₁ p₁ a.fill

      abbrev after : ActionContext
      after = record { bindings = effect_bindings a.effect (bindings_in (drop at T) S G); pairs = t.context.pairs ++ d.pairs }

      is-context : record { bindings = bindings_in (drop at T) S G; pairs = t.context.pairs } ≡ t.context
      is-context = ap (λ (σ : List Binding). record { bindings = σ; pairs = t.context.pairs }) (sym t.bindings)

      next-is : outcome_of a.refusal after s₁ ≡ process_action room prog rule t.context (action (get_or xs i 0)) s
      next-is = (d.does t.context.pairs).outcome
          ∙ (λ j. process_action (room-same t.grown j) prog rule (is-context j) (action (get_or xs i 0)) s)

      split : and_then (process_action room prog rule t.context (action (get_or xs i 0)) s) (process_actions room prog rule (map action (drop (suc i) xs)))
          ≡ process_actions room prog rule (map action xs) (start_context σ) (terms_in k₀ e₀ p₀ f₀)
      unfolding process_actions
      split = ap (λ (ys : List ℕ). process_actions room prog rule (map action ys) t.context s) (sym (drop-cons xs i 0 h)) ∙ t.run

      pub stops : {c : Headed} → (a.refusal.number ≡ 0 → ⊥) → c ≡ record { refusal = a.refusal; found = false; fill = a.fill }
          → Heads prog rule (map action xs) σ q marking k₀ e₀ p₀ ix₀ f₀ m₀ k₁ e₁ p₁ ix₁ c memo₁ m₁
      stops n g = subst⁻¹ (λ (x : Headed). Heads prog rule (map action xs) σ q marking k₀ e₀ p₀ ix₀ f₀ m₀ k₁ e₁ p₁ ix₁ x memo₁ m₁) g (record {
        context = after;
        does = record {
          outcome = refused-of a.refusal after s₁ n
              ∙ ap (λ (o : Outcome ActionContext). and_then o (process_actions room prog rule (map action (drop (suc i) xs)))) (sym (refused-of a.refusal after s₁ n) ∙ next-is)
              ∙ split;
          grown = grown-then t.grown (d.does []).grown;
        };
        past = λ z. absurd (n z);
        grows = λ z. absurd (n z);
        sane = λ z. absurd (n z);
        others = λ z. absurd (n z);
        marks = λ z. absurd (n z);
      })

      pub turns : a.refusal.number ≡ 0 → Going J rule (bindings_in (drop at T) S G) marking k₁ e₁ p₁ a.fill memo₁ m₁ → {kept₁ : Bool} → (kept₁ ≡ true → Steady a.effect (bindings_in (drop at T) S G)) → {has found₁ : Bool} → has ≡ effect_has a.effect q → found₁ ≡ (found || has) → {T₁ : List ℕ} {at₁ : ℕ} → Pushed T at a.effect T₁ at₁ → length T₁ ≡ length T
          → length memo₁ ≡ length memo → length m₁ ≡ length m → Turn xs σ k₀ e₀ p₀ ix₀ f₀ memo₀ m₀ k₁ e₁ p₁ ix₁ a.fill memo₁ m₁ T₁ at₁ found₁ kept₁ (i + 1)
      turns n g w {found₁ = found₁} hq fq {T₁} {at₁} ps lT l_memo l_m = let x = t.free in let v = ps.least in record {
        context = after;
        upto = omega arith;
        full = lT ∙ t.full;
        low = let x = ps.most in let y = t.low in omega arith;
        free = omega arith;
        first = t.first;
        stand = standing-after t.stand (d.does []).grown (subst (λ (τ : List Binding). Sane prog τ s₁) (pushed-bindings S G ps) (d.sane n)) (d.past n) l_memo l_m;
        going = λ u. subst (λ (τ : List Binding). Going J rule τ marking k₁ e₁ p₁ a.fill memo₁ m₁) (pushed-bindings S G ps) (going-steady a.effect (w u) g);
        len_memo = l_memo ∙ t.len_memo;
        len_m = l_m ∙ t.len_m;
        bindings = bound-after;
        grown = grown-then t.grown (d.does []).grown;
        grows = extends-then t.grows (d.grows n);
        run = ap (λ (j : ℕ). process_actions room prog rule (map action (drop j xs)) after s₁) (add-one i)
            ∙ ap (λ (o : Outcome ActionContext). and_then o (process_actions room prog rule (map action (drop (suc i) xs)))) (sym (ok_of a.refusal after s₁ n) ∙ next-is)
            ∙ split;
        others = λ u. others-after u;
        marks = λ k w. marks-after k w;
      }
        where
          bound-after : after.bindings ≡ bindings_in (drop at₁ T₁) S G
          bound-after = pushed-bindings S G ps

          others-after : (q.lhs ≡ q.rhs → ⊥) → among q after.pairs ≡ found₁
          others-after u = among-append q t.context.pairs d.pairs ∙ (λ j. t.others u j || (d.others n q u ∙ sym hq) j) ∙ sym fq

          marks-after : marking ≡ true → Marks (terms_in k₀ e₀ p₀ f₀) m₀ [] → Marks s₁ m₁ after.pairs
          marks-after k w = d.marks n k t.context.pairs (t.marks k w)

    all_done : length xs ≤ i → ok t.context s ≡ process_actions room prog rule (map action (drop i xs)) t.context s
    unfolding process_actions
    all_done h = ap (λ (ys : List ℕ). process_actions room prog rule (map action ys) t.context s) (sym (drop_of_length-le xs {i = i} h))

    pub finishes : {c : Headed} → length xs ≤ i → c ≡ record { refusal = passed; found = found; fill = f } → Heads prog rule (map action xs) σ q marking k₀ e₀ p₀ ix₀ f₀ m₀ k e p ix c memo m
    finishes h g = subst⁻¹ (λ (x : Headed). Heads prog rule (map action xs) σ q marking k₀ e₀ p₀ ix₀ f₀ m₀ k e p ix x memo m) g (record {
      context = t.context;
      does = record { outcome = all_done h ∙ t.run; grown = t.grown };
      past = λ _. t.stand.past;
      grows = λ _. t.grows;
      sane = λ _. sane-fewer t.first.sane t.grows t.stand.sane;
      others = λ _. t.others;
      marks = λ _. t.marks;
    })

-- the table from a place on, as the code lends it
pub part-is : {n : ℕ} (T : List ℕ) (at : ℕ) → length T ≡ n → take (n - at) (drop at T) ≡ drop at T
part-is T at e = ap (λ (m : ℕ). take (m - at) (drop at T)) (sym e) ∙ to_end at T

pub standing-part : (S G : List ℕ) {J F : List ℕ} {X Y k e p ix : List ℕ} {f : Fill} {memo m : List ℕ} → X ≡ Y → Standing J F (bindings_in Y S G) k e p ix f memo m → Standing J F (bindings_in X S G) k e p ix f memo m
standing-part S G {J} {F} {k = k} {e = e} {p = p} {ix = ix} {f = f} {memo = memo} {m = m} q st = subst⁻¹ (λ (X : List ℕ). Standing J F (bindings_in X S G) k e p ix f memo m) q st

pub going-part : (S G : List ℕ) {J : List ℕ} {rule : ℕ} {marking : Bool} {X Y k e p : List ℕ} {f : Fill} {memo m : List ℕ} → X ≡ Y → Going J rule (bindings_in Y S G) marking k e p f memo m → Going J rule (bindings_in X S G) marking k e p f memo m
going-part S G {J} {rule} {marking} {k = k} {e = e} {p = p} {f = f} {memo = memo} {m = m} q g = subst⁻¹ (λ (X : List ℕ). Going J rule (bindings_in X S G) marking k e p f memo m) q g

pub steady-part : (S G : List ℕ) {a : Effect} {X Y : List ℕ} → X ≡ Y → Steady a (bindings_in X S G) → Steady a (bindings_in Y S G)
steady-part S G {a} q w = subst (λ (X : List ℕ). Steady a (bindings_in X S G)) q w

pub acts-part : (S G : List ℕ) {prog : Program} {rule : ℕ} {a : Action} {X Y : List ℕ} {marking : Bool} {K E P I : List ℕ} {f : Fill} {m K₁ E₁ P₁ I₁ : List ℕ} {r : Acted} {memo₁ m₁ : List ℕ} → X ≡ Y
    → Acts prog rule a (bindings_in X S G) marking K E P I f m K₁ E₁ P₁ I₁ r memo₁ m₁ → Acts prog rule a (bindings_in Y S G) marking K E P I f m K₁ E₁ P₁ I₁ r memo₁ m₁
acts-part S G {prog} {rule} {a} {marking = marking} {K = K} {E = E} {P = P} {I = I} {f = f} {m = m} {K₁ = K₁} {E₁ = E₁} {P₁ = P₁} {I₁ = I₁} {r = r} {memo₁ = memo₁} {m₁ = m₁} q d =
    subst (λ (X : List ℕ). Acts prog rule a (bindings_in X S G) marking K E P I f m K₁ E₁ P₁ I₁ r memo₁ m₁) q d

-- the table with the bindings copied to its end
pub copied : (T B : List ℕ) (at : ℕ) → at + length B ≡ length T → drop at (put T at B) ≡ B
unfolding put
copied T B at e =
    let n : length (take at T) ≡ at = length-take-le at T (omega arith) in
    drop_at (take at T) (B ++ drop (at + length B) T) at n
    ∙ ap (λ (x : List ℕ). B ++ x) (drop_of_length-le T {i = at + length B} (omega arith)) ∙ append-nil B

pub copied_at : (T B : List ℕ) (at : ℕ) {T₁ : List ℕ} → at + length B ≡ length T → T₁ ≡ put T at B → drop at T₁ ≡ B
copied_at T B at e q = ap (drop at) q ∙ copied T B at e

-- 31, or not
pub produced-yes : (rule l r : ℕ) {b : Bool} {f : Fill} {c : Checked} → c ≡ record { refusal = passed; value = 0; fill = f } → b ≡ true
    → (c.fill ≡ f) × ((s : List Term) → outcome_of c.refusal tt s ≡ check_that b 31 (rule ∷ l ∷ r ∷ []) s)
unfolding check_that
produced-yes rule l r d e =
    (ap (λ (x : Checked). x.fill) d, λ s. ap (λ (x : Checked). outcome_of x.refusal tt s) d ∙ ap (λ (b : Bool). check_that b 31 (rule ∷ l ∷ r ∷ []) s) (sym e))

pub produced-no : (rule l r : ℕ) {b : Bool} {f : Fill} → b ≡ false
    → (f ≡ f) × ((s : List Term) → refused (record { number = 31; fields = rule ∷ l ∷ r ∷ [] }) s ≡ check_that b 31 (rule ∷ l ∷ r ∷ []) s)
unfolding check_that
produced-no rule l r e = (refl, λ s. ap (λ (b : Bool). check_that b 31 (rule ∷ l ∷ r ∷ []) s) (sym e))
