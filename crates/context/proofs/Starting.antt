-- The global actions one after another, and the context that they leave.
use Rattle.std.specs.Prelude as prelude
use Rattle.std.specs.Prelude.{Some, None}
use mathlib.Core.Path.{◌≡◌, refl, sym, ap, subst, ◌∙◌}
use mathlib.Core.Bool.{Bool, true, ◌||◌}
use mathlib.Core.List.{List, [], ◌∷◌, ◌++◌, append-nil}
use Prim.Native.Nat.{ℕ, suc, ◌+◌, ◌-◌, ◌*◌, ◌<◌, ◌≤◌}
use native.Mathlib.Omega.{arith}
use native.Mathlib.Numerals.{add-one}
use lib.ListN.{length, take, drop, drop_of_length-le}
use lib.Seq.{drop-cons}
use Rattle.model.specs.Layout.{sizes_of}
use Rattle.model.specs.Term.{Term, Extends}
use Rattle.model.specs.Program.{name_global_actions, Proposition, Binding, Program, Action, idle}
use Rattle.model.specs.Decode.{read_bindings, read_program}
use Rattle.model.specs.Check.{Outcome, ok, refused, Check, and_then, Room}
use Rattle.model.specs.Action.{ActionContext, start_context, process_action, process_actions, among}
use Rattle.model.specs.Walk.{duplicate_rule_name, no_duplicate, new_context}
use Rattle.model.proofs.Store.{extends-same, extends-then}
use Rattle.model.proofs.Valid.{length-tabulate}
use Rattle.index.specs.declared.Fill.{Fill}
use Rattle.cells.proofs.Laws.{to_end, get_d_tabulate}
use Rattle.termdag.specs.Store.{terms_in, Indexed, room_of}
use Rattle.outcome.specs.Does.{passed, refusal, Grown, Does}
use Rattle.outcome.specs.declared.Refusal.{Refusal}
use Rattle.outcome.proofs.Laws.{grown-same, grown-then, room-same, ok_of, refused-of, does-here, does-stop}
use Rattle.marks.specs.Marks.{close}
use Rattle.marks.specs.Covering.{Marks}
use Rattle.marks.proofs.Marking.{marks-closed}
use Rattle.termdag.proofs.Laws.{terms-length}
use Rattle.load.specs.Held.{Limits}
use Rattle.program.specs.Ready.{program_for, option_of}
use Rattle.program.specs.Read.{action_for}
use Rattle.evaluate.specs.Evaluation.{Sane}
use Rattle.evaluate.specs.Value.{bindings_in}
use Rattle.actions.specs.Acting.{Standing, Acts, Pushed, effect_bindings}
use Rattle.actions.specs.declared.Acted.{Acted}
use Rattle.actions.proofs.Acting.{among-append, standing-after}
use Rattle.context.specs.declared.Globals.{Globals}
use Rattle.context.specs.Contexts.{unions_have, Even, Joined, Turned, Collected, Context}

abbrev globals : Refusal → ℕ → ℕ → Fill → Globals
globals r b u f = record { refusal = r; bindings = b; unions = u; fill = f }

abbrev has : List Binding → List Proposition → ActionContext
has σ ps = record { bindings = σ; pairs = ps }

-- the table from a place on, as the code lends it, with no other bindings
pub bound-is : (T : List ℕ) (at : ℕ) → bindings_in (take (length T - at) (drop at T)) [] [] ≡ read_bindings (drop at T)
bound-is T at = append-nil (read_bindings (take (length T - at) (drop at T))) ∙ ap read_bindings (to_end at T)

pub standing-as : {J F : List ℕ} {σ τ : List Binding} {k e p ix : List ℕ} {f : Fill} {memo m : List ℕ} → σ ≡ τ → Standing J F σ k e p ix f memo m → Standing J F τ k e p ix f memo m
standing-as {J} {F} {k = k} {e = e} {p = p} {ix = ix} {f = f} {memo = memo} {m = m} q S = subst (λ (σ : List Binding). Standing J F σ k e p ix f memo m) q S

-- a refusal has no value
does-refused : {A : Type 0} {K E P I : List ℕ} {f : Fill} {K₁ E₁ P₁ I₁ : List ℕ} {f₁ : Fill} {r : Refusal} {a : A} {o : Outcome A} (b : A) → Does K E P I f K₁ E₁ P₁ I₁ f₁ r a o → (r.number ≡ 0 → ⊥) → Does K E P I f K₁ E₁ P₁ I₁ f₁ r b o
does-refused {K₁ = K₁} {E₁ = E₁} {P₁ = P₁} {I₁ = I₁} {f₁ = f₁} {r = r} {a = a} b d h = record {
  outcome = refused-of r b (terms_in K₁ E₁ P₁ f₁) h ∙ sym (refused-of r a (terms_in K₁ E₁ P₁ f₁) h) ∙ d.outcome;
  grown = d.grown;
}

-- a check after growth
does-after : {A : Type 0} {K₀ E₀ P₀ I₀ : List ℕ} {f₀ : Fill} {K E P I : List ℕ} {f : Fill} {K₁ E₁ P₁ I₁ : List ℕ} {f₁ : Fill} {r : Refusal} {a : A} {o o' : Outcome A}
    → Grown K₀ E₀ P₀ I₀ f₀ K E P I f → Does K E P I f K₁ E₁ P₁ I₁ f₁ r a o → o ≡ o' → Does K₀ E₀ P₀ I₀ f₀ K₁ E₁ P₁ I₁ f₁ r a o'
does-after g d q = record { outcome = d.outcome ∙ q; grown = grown-then g d.grown }

-- one action: refused, or done and kept
module _ {prog : Program} {a : Action} {σ : List Binding} {K E P I : List ℕ} {f : Fill} {m K₁ E₁ P₁ I₁ : List ℕ} {r : Acted} {memo₁ m₁ : List ℕ} (A : Acts prog name_global_actions a σ true K E P I f m K₁ E₁ P₁ I₁ r memo₁ m₁)
    (T : List ℕ) (at : ℕ) (U : List ℕ) (n : ℕ) (q : σ ≡ read_bindings (drop at T)) where
  before : (ps : List Proposition) (b : ActionContext) → Does K E P I f K₁ E₁ P₁ I₁ r.fill r.refusal b (process_action (room_of K P) prog name_global_actions (has σ ps) a (terms_in K E P f))
      → Does K E P I f K₁ E₁ P₁ I₁ r.fill r.refusal b (process_action (room_of K P) prog name_global_actions (has (read_bindings (drop at T)) ps) a (terms_in K E P f))
  before ps b d = subst (λ (τ : List Binding). Does K E P I f K₁ E₁ P₁ I₁ r.fill r.refusal b (process_action (room_of K P) prog name_global_actions (has τ ps) a (terms_in K E P f))) q d

  pub turn-stops : Even n → (r.refusal.number ≡ 0 → ⊥) → Turned prog a K E P I f m T at U n K₁ E₁ P₁ I₁ (globals r.refusal at n r.fill) memo₁ m₁ T U
  turn-stops even h = record {
    pairs = [];
    does = λ ps. before ps (has (read_bindings (drop at T)) (ps ++ [])) (does-refused (has (read_bindings (drop at T)) (ps ++ [])) (A.does ps) h);
    past = λ z. absurd (h z);
    grows = λ z. absurd (h z);
    sane = λ z. absurd (h z);
    marks = λ z. absurd (h z);
    others = λ z. absurd (h z);
    even = even;
    least = omega arith;
    most = omega arith;
    unions = omega arith;
  }

  pub turn-goes : {T₁ : List ℕ} {b : ℕ} {U₁ : List ℕ} {u : ℕ} → Pushed T at r.effect T₁ b → Joined U n r.effect U₁ u
      → Turned prog a K E P I f m T at U n K₁ E₁ P₁ I₁ (globals r.refusal b u r.fill) memo₁ m₁ T₁ U₁
  turn-goes {T₁} {b} {U₁} {u} p j = record {
    pairs = A.pairs;
    does = λ ps. before ps (has (read_bindings (drop b T₁)) (ps ++ A.pairs)) (subst (λ (β : List Binding). Does K E P I f K₁ E₁ P₁ I₁ r.fill r.refusal (has β (ps ++ A.pairs)) (process_action (room_of K P) prog name_global_actions (has σ ps) a (terms_in K E P f))) bindings (A.does ps));
    past = A.past;
    grows = A.grows;
    sane = λ z. subst (λ (β : List Binding). Sane prog β (terms_in K₁ E₁ P₁ r.fill)) bindings (A.sane z);
    marks = λ z ps w. A.marks z refl ps w;
    others = λ z x h. ap (λ (t : Bool). unions_have (take n U) x || t) (A.others z x h) ∙ sym (j.has x);
    even = j.even;
    least = p.least;
    most = p.most;
    unions = j.most;
  }
    where
      bindings : effect_bindings r.effect σ ≡ read_bindings (drop b T₁)
      bindings = ap (effect_bindings r.effect) q ∙ sym p.bindings

-- the global actions from the i-th on
pub globals-from : (J : List ℕ) (i : ℕ) → i < (sizes_of J).globals → drop i (program_for J).globals ≡ action_for J i ∷ drop (suc i) (program_for J).globals
unfolding read_program
globals-from J i h =
    let l = length-tabulate (sizes_of J).globals (action_for J) in
    drop-cons (program_for J).globals i idle (omega arith)
    ∙ ap {B = List Action} (λ (a : Action). a ∷ drop (suc i) (program_for J).globals) (get_d_tabulate (sizes_of J).globals (action_for J) i idle h)

pub globals-end : (J : List ℕ) (i : ℕ) → (sizes_of J).globals ≤ i → drop i (program_for J).globals ≡ []
unfolding read_program
globals-end J i h = let l = length-tabulate (sizes_of J).globals (action_for J) in drop_of_length-le (program_for J).globals {i = i} (omega arith)

-- after i of the global actions
module _ (J F : List ℕ) where
  abbrev prog : Program
  prog = program_for J

  abbrev runs : Room → List Action → ActionContext → Check ActionContext
  runs room as' c s = process_actions room prog name_global_actions as' c s

  run_none : (room : Room) (c : ActionContext) (s : List Term) → runs room [] c s ≡ ok c s
  unfolding process_actions
  run_none room c s = refl

  run-one : (room : Room) (a : Action) (as' : List Action) (c : ActionContext) (s : List Term) → runs room (a ∷ as') c s ≡ and_then (process_action room prog name_global_actions c a s) (runs room as')
  unfolding process_actions
  run-one room a as' c s = refl

  pub record Through (k₀ e₀ p₀ ix₀ : List ℕ) (f₀ : Fill) (memo₀ m₀ k e p ix : List ℕ) (f : Fill) (memo m T : List ℕ) (at : ℕ) (U : List ℕ) (n i : ℕ) : Type 0 where
    pub pairs : List Proposition
    pub upto : i ≤ (sizes_of J).globals
    pub grown : Grown k₀ e₀ p₀ ix₀ f₀ k e p ix f
    pub run : runs (room_of k₀ p₀) (drop i prog.globals) (has (read_bindings (drop at T)) pairs) (terms_in k e p f) ≡ runs (room_of k₀ p₀) prog.globals (start_context []) (terms_in k₀ e₀ p₀ f₀)
    pub standing : Standing J F (read_bindings (drop at T)) k e p ix f memo m
    pub grows : Extends (terms_in k₀ e₀ p₀ f₀) (terms_in k e p f)
    pub marks : Marks (terms_in k e p f) m pairs
    pub others : (q : Proposition) → (q.lhs ≡ q.rhs → ⊥) → among q pairs ≡ unions_have (take n U) q
    pub even : Even n
    pub len_memo : length memo ≡ length memo₀
    pub len_m : length m ≡ length m₀
    pub table : length T ≡ 512
    pub unions : length U ≡ 512
    pub low : 512 ≤ at + (i + i)
    pub high : at ≤ 512
    pub few : n ≤ i + i

  pub start : {k e p ix : List ℕ} {f : Fill} {memo m T U : List ℕ} → Standing J F [] k e p ix f memo m → Marks (terms_in k e p f) m [] → length T ≡ 512 → length U ≡ 512 → Through k e p ix f memo m k e p ix f memo m T 512 U 0 0
  start {k} {e} {p} {ix} {f} {memo} {m} {T} {U} S w t u = record {
    pairs = [];
    upto = omega arith;
    grown = grown-same S.indexed;
    run = ap (λ (σ : List Binding). runs (room_of k p) prog.globals (has σ []) (terms_in k e p f)) none-bound;
    standing = standing-as (sym none-bound) S;
    grows = extends-same;
    marks = w;
    others = λ q h. refl;
    even = record { half = 0; twice = refl };
    len_memo = refl;
    len_m = refl;
    table = t;
    unions = u;
    low = omega arith;
    high = omega arith;
    few = omega arith;
  }
    where
      none-bound : read_bindings (drop 512 T) ≡ []
      none-bound = ap read_bindings (drop_of_length-le T {i = 512} (omega arith))

  module _ {k₀ e₀ p₀ ix₀ : List ℕ} {f₀ : Fill} {memo₀ m₀ k e p ix : List ℕ} {f : Fill} {memo m T : List ℕ} {at : ℕ} {U : List ℕ} {n i : ℕ} (H : Through k₀ e₀ p₀ ix₀ f₀ memo₀ m₀ k e p ix f memo m T at U n i) where
    abbrev s : List Term
    s = terms_in k e p f

    abbrev σ : List Binding
    σ = read_bindings (drop at T)

    abbrev later : List Action
    later = drop (suc i) prog.globals

    module _ {k₁ e₁ p₁ ix₁ : List ℕ} {r : Globals} {memo₁ m₁ T₁ U₁ : List ℕ} (h : i < (sizes_of J).globals) (t : Turned prog (action_for J i) k e p ix f m T at U n k₁ e₁ p₁ ix₁ r memo₁ m₁ T₁ U₁) where
      -- the next action, in the room that there was at the start, is the first of what remains
      next : and_then (process_action (room_of k p) prog name_global_actions (has σ H.pairs) (action_for J i) s) (runs (room_of k₀ p₀) later) ≡ runs (room_of k₀ p₀) prog.globals (start_context []) (terms_in k₀ e₀ p₀ f₀)
      next = ap (λ (room : Room). and_then (process_action room prog name_global_actions (has σ H.pairs) (action_for J i) s) (runs (room_of k₀ p₀) later)) (room-same H.grown)
          ∙ sym (run-one (room_of k₀ p₀) (action_for J i) later (has σ H.pairs) s)
          ∙ ap (λ (as' : List Action). runs (room_of k₀ p₀) as' (has σ H.pairs) s) (sym (globals-from J i h))
          ∙ H.run

      pub stops : Limits (sizes_of J) → (r.refusal.number ≡ 0 → ⊥) → Collected prog k₀ e₀ p₀ ix₀ f₀ k₁ e₁ p₁ ix₁ r memo₁ m₁ T₁ U₁
      stops w x = record {
        context = start_context [];
        does = does-after H.grown (does-stop (start_context []) (runs (room_of k₀ p₀) later) (t.does H.pairs) x) next;
        past = λ y. absurd (x y);
        grows = λ y. absurd (x y);
        bindings = λ y. absurd (x y);
        sane = λ y. absurd (x y);
        marks = λ y. absurd (x y);
        others = λ y. absurd (x y);
        table = let a = t.most in let b = H.high in omega arith;
        unions = let a = t.unions in let b = H.few in let c = w.globals in omega arith;
      }

      pub turns : r.refusal.number ≡ 0 → length memo₁ ≡ length memo → length m₁ ≡ length m → length T₁ ≡ length T → length U₁ ≡ length U
          → Through k₀ e₀ p₀ ix₀ f₀ memo₀ m₀ k₁ e₁ p₁ ix₁ r.fill memo₁ m₁ T₁ r.bindings U₁ r.unions (i + 1)
      turns x lm la lt lu = record {
        pairs = H.pairs ++ t.pairs;
        upto = omega arith;
        grown = grown-then H.grown (t.does []).grown;
        run = ap (λ (j : ℕ). runs (room_of k₀ p₀) (drop j prog.globals) after s₁) (add-one i)
            ∙ ap (λ (o : Outcome ActionContext). and_then o (runs (room_of k₀ p₀) later)) (sym (ok_of r.refusal after s₁ x) ∙ (t.does H.pairs).outcome)
            ∙ next;
        standing = standing-after H.standing (t.does []).grown (t.sane x) (t.past x) lm la;
        grows = extends-then H.grows (t.grows x);
        marks = t.marks x H.pairs H.marks;
        others = λ q y. among-append q H.pairs t.pairs ∙ ap (λ (b : Bool). b || among q t.pairs) (H.others q y) ∙ t.others x q y;
        even = t.even;
        len_memo = lm ∙ H.len_memo;
        len_m = la ∙ H.len_m;
        table = lt ∙ H.table;
        unions = lu ∙ H.unions;
        low = let a = t.least in let b = H.low in omega arith;
        high = let a = t.most in let b = H.high in omega arith;
        few = let a = t.unions in let b = H.few in omega arith;
      }
        where
          s₁ : List Term
          s₁ = terms_in k₁ e₁ p₁ r.fill

          after : ActionContext
          after = has (read_bindings (drop r.bindings T₁)) (H.pairs ++ t.pairs)

    pub finishes : Limits (sizes_of J) → (sizes_of J).globals ≤ i → Collected prog k₀ e₀ p₀ ix₀ f₀ k e p ix (globals passed at n f) memo m T U
    finishes w h = record {
      context = has σ H.pairs;
      does = record {
        outcome = sym (run_none (room_of k₀ p₀) (has σ H.pairs) s)
            ∙ ap (λ (as' : List Action). runs (room_of k₀ p₀) as' (has σ H.pairs) s) (sym (globals-end J i h))
            ∙ H.run;
        grown = H.grown;
      };
      past = λ _. H.standing.past;
      grows = λ _. H.grows;
      bindings = λ _. refl;
      sane = λ _. H.standing.sane;
      marks = λ _. H.marks;
      others = λ _. H.others;
      table = H.high;
      unions = let a = H.few in let b = w.globals in let c = H.upto in omega arith;
    }

-- no rule name twice
once : (prog : Program) (room : Room) (s : List Term) {l : prelude.Option ℕ} → l ≡ None → option_of l ≡ duplicate_rule_name [] prog.rules
    → process_actions room prog name_global_actions prog.globals (start_context []) s ≡ new_context room prog s
unfolding new_context
once prog room s l q = ap (λ o. and_then (no_duplicate o s) (λ _. process_actions room prog name_global_actions prog.globals (start_context []))) (ap option_of (sym l) ∙ q)

twice : (prog : Program) (room : Room) (s : List Term) {l : prelude.Option ℕ} (name : ℕ) → l ≡ Some name → option_of l ≡ duplicate_rule_name [] prog.rules
    → refused (record { number = 44; fields = name ∷ [] }) s ≡ new_context room prog s
unfolding new_context
twice prog room s name l q = ap (λ o. and_then (no_duplicate o s) (λ _. process_actions room prog name_global_actions prog.globals (start_context []))) (ap option_of (sym l) ∙ q)

-- the context: refused, or with its marks closed
module _ {prog : Program} {k e p ix : List ℕ} {f : Fill} {l : prelude.Option ℕ} (q : option_of l ≡ duplicate_rule_name [] prog.rules) where
  pub context-twice : {name : ℕ} {memo m T U : List ℕ} → Indexed k e p ix f → l ≡ Some name
      → Context prog k e p ix f k e p ix (globals (refusal 44 1 (name ∷ 0 ∷ 0 ∷ 0 ∷ 0 ∷ 0 ∷ [])) 0 0 f) memo m T U
  context-twice {name} S n = record {
    context = start_context [];
    does = does-here S (twice prog (room_of k p) (terms_in k e p f) name n q);
    past = λ z. absurd (never z);
    grows = λ z. absurd (never z);
    bindings = λ z. absurd (never z);
    sane = λ z. absurd (never z);
    pairs = λ z. absurd (never z);
    table = omega arith;
    unions = omega arith;
  }
    where
      never : ◌≡◌ {A = ℕ} 44 0 → ⊥
      never z = omega arith

  module _ {k₁ e₁ p₁ ix₁ : List ℕ} {r : Globals} {memo₁ m₁ T₁ U₁ : List ℕ} (n : l ≡ None) (C : Collected prog k e p ix f k₁ e₁ p₁ ix₁ r memo₁ m₁ T₁ U₁) where
    does-new : Does k e p ix f k₁ e₁ p₁ ix₁ r.fill r.refusal C.context (new_context (room_of k p) prog (terms_in k e p f))
    does-new = record { outcome = C.does.outcome ∙ once prog (room_of k p) (terms_in k e p f) n q; grown = C.does.grown }

    pub context-stops : (r.refusal.number ≡ 0 → ⊥) → Context prog k e p ix f k₁ e₁ p₁ ix₁ r memo₁ m₁ T₁ U₁
    context-stops h = record {
      context = C.context;
      does = does-new;
      past = λ z. absurd (h z);
      grows = λ z. absurd (h z);
      bindings = λ z. absurd (h z);
      sane = λ z. absurd (h z);
      pairs = λ z. absurd (h z);
      table = C.table;
      unions = C.unions;
    }

    pub context-goes : {m₂ : List ℕ} → length k ≤ 32 * length m₁ → m₂ ≡ close (terms_in k₁ e₁ p₁ r.fill) r.fill.cells m₁ → Context prog k e p ix f k₁ e₁ p₁ ix₁ r memo₁ m₂ T₁ U₁
    context-goes {m₂} l c = record {
      context = C.context;
      does = does-new;
      past = C.past;
      grows = C.grows;
      bindings = C.bindings;
      sane = C.sane;
      pairs = λ z. record {
        others = C.others z;
        reflexive = marks-closed r.fill.cells (terms-length k₁ e₁ p₁ r.fill) (C.sane z).ordered (let a = C.does.grown.indexed.stored.formed.kinds in let b = C.does.grown.len_k in omega arith) (C.marks z) c;
      };
      table = C.table;
      unions = C.unions;
    }
