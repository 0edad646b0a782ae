-- The evaluator's turns: an expression that is noted, an argument evaluated, known, refused, all of them evaluated.
use Rattle.std.specs.Prelude as prelude
use Rattle.std.specs.Prelude.{Some}
use mathlib.Core.Path.{◌≡◌, refl, sym, ap, subst, subst⁻¹, ◌∙◌}
use mathlib.Core.Logic.{◌⊎◌, inl, inr}
use mathlib.Core.Bool.{Bool, true, false, true≢false}
use mathlib.Core.List.Memᴰ
use mathlib.Core.List.{List, [], ◌∷◌, Memᴰ}
use mathlib.Core.Option.{some}
use Prim.Native.Nat.{ℕ, zero, suc, ◌+◌, ◌<◌, ◌≤◌}
use native.Mathlib.Nat.{not-suc-le-zero, le_of_suc-le-suc}
use native.Mathlib.Omega.{arith}
use lib.Dec.{eqb}
use borrow.Author.Tests.{eqb-true, eqb-false}
use lib.ListN.{length, get_or, set, take, replicate, length-set}
use Rattle.model.specs.Cell.{no_cell}
use Rattle.model.specs.Layout.{sizes_of}
use Rattle.model.specs.Term.{Term, Extends}
use Rattle.model.specs.Program.{Head, variable, Expr, node, Binding, Program}
use Rattle.model.specs.Decode.{read_head, read_arguments, arguments_by}
use Rattle.model.specs.Check.{Outcome, ok, Check, and_then, Room}
use Rattle.model.proofs.Post.{post-result}
use Rattle.model.proofs.Store.{extends-same}
use Rattle.index.specs.declared.Fill.{Fill}
use Rattle.termdag.specs.Store.{terms_in, Indexed, room_of, Known}
use Rattle.memo.specs.Memo.{value_at, is_noted, note_at, Started}
use Rattle.memo.proofs.Laws.{note-length, note-other, note-value-other, note-here, note-value, note-past}
use Rattle.outcome.specs.Does.{passed, Does}
use Rattle.outcome.specs.declared.Refusal.{Refusal}
use Rattle.outcome.specs.declared.Checked.{Checked}
use Rattle.outcome.proofs.Laws.{ok_of, room-same, does-here}
use Rattle.model.proofs.Fuel.{expr-node}
use Rattle.model.proofs.Valid.{expressions-lower}
use Rattle.decode.specs.View.{cell}
use Rattle.decode.specs.declared.Head as view
use Rattle.program.specs.Ready.{tables_for, Ready, program_for}
use Rattle.program.specs.Read.{expr_for, arguments_for, head_for}
use Rattle.evaluate.specs.Value.{eval_for, value_for, head_term, eval_term, eval_terms, Reaches, here, down}
use Rattle.evaluate.specs.Evaluation.{Memo, Knows, noted, bound, unknown, Noted, Evaluates, EvaluatesMore, EvaluatesRoot}
use Rattle.evaluate.proofs.HeadValues.{given-some, head-does, variable-does}
use Rattle.evaluate.proofs.Collecting.{each, each-is, rest, Run, run-start, run-turn, run-done}
use Rattle.evaluate.proofs.Settling.{value-term, same-value, head-settled, term-settled, term-again}

-- members by place
pub member-at : (xs : List ℕ) (i : ℕ) → i < length xs → Memᴰ (get_or xs i 0) xs
member-at [] i h = absurd (not-suc-le-zero h)
member-at (x ∷ xs) zero h = Memᴰ.head refl
member-at (x ∷ xs) (suc i) h = Memᴰ.tail (member-at xs i (le_of_suc-le-suc h))

pub place_of : (xs : List ℕ) (a : ℕ) → Memᴰ a xs → (i : ℕ) × (i < length xs) × (get_or xs i 0 ≡ a)
place_of [] a m = absurd (Memᴰ.not-nil m)
place_of (x ∷ xs) a m = go (Memᴰ.cases_cons m) (place_of xs a)
  where
    go : (a ≡ x) ⊎ Memᴰ a xs → (Memᴰ a xs → (i : ℕ) × (i < length xs) × (get_or xs i 0 ≡ a)) → (i : ℕ) × (i < length (x ∷ xs)) × (get_or (x ∷ xs) i 0 ≡ a)
    go (inl e) r = (0, omega arith, sym e)
    go (inr m) r = let p = r m in (suc p.0, let q = p.1 in omega arith, p.2)

-- the head that was read
pub at_head : (fact : Bool) (room : Room) (prog : Program) (rule : ℕ) (σ : List Binding) (ts : List ℕ) (s : List Term) {g h : Head}
    {K E P I : List ℕ} {f : Fill} {K' E' P' I' : List ℕ} {f' : Fill} {r : Refusal} {a : ℕ} → g ≡ h
    → Does K E P I f K' E' P' I' f' r a (head_term fact room prog rule σ g ts s) → Does K E P I f K' E' P' I' f' r a (head_term fact room prog rule σ h ts s)
at_head fact room prog rule σ ts s {K = K} {E = E} {P = P} {I = I} {f = f} {K' = K'} {E' = E'} {P' = P'} {I' = I'} {f' = f'} {r = r} {a = a} e d =
    subst (λ (x : Head). Does K E P I f K' E' P' I' f' r a (head_term fact room prog rule σ x ts s)) e d

-- a value that needs no new term
pub found-does : (K E P I : List ℕ) (f : Fill) {r : prelude.Option ℕ} {t : ℕ} {o : Outcome ℕ} → Indexed K E P I f → Known r o (terms_in K E P f) → r ≡ Some t → Does K E P I f K E P I f passed t o
found-does K E P I f {t = t} S F q = does-here S (sym (F.value t q))

module _ (fact : Bool) (prog : Program) (rule : ℕ) (σ : List Binding) (n : ℕ) (args : ℕ → List ℕ) (head : ℕ → Head) (expr : ℕ → Expr) where
  abbrev eval : Room → ℕ → Check ℕ
  eval room e = eval_term fact room prog rule σ (expr e)

  -- what is done with the values of e's arguments
  abbrev value : ℕ → Room → List ℕ → Check ℕ
  value e room = head_term fact room prog rule σ (head e)

  terms-each : (room : Room) (xs : List ℕ) (s : List Term) → each (eval room) xs s ≡ eval_terms fact room prog rule σ (arguments_by expr xs) s
  unfolding eval_terms
  terms-each room xs s = each-is (eval room) (λ ys. eval_terms fact room prog rule σ (arguments_by expr ys)) (λ u. refl) (λ y ys u. refl) xs s

  pub rest_all : (room : Room) (e : ℕ) (s : List Term) → expr e ≡ node e (head e) (arguments_by expr (args e)) → rest (eval room) (value e room) [] (args e) s ≡ eval room e s
  unfolding eval_term
  rest_all room e s q = ap (λ (o : Outcome (List ℕ)). and_then o (value e room)) (terms-each room (args e) s) ∙ ap (λ (x : Expr). eval_term fact room prog rule σ x s) (sym q)

  -- a memo in a room of the same size, and in a larger store
  pub memo-room : {a b : Room} {s : List Term} {m : List ℕ} → a ≡ b → Memo args (eval a) n s m → Memo args (eval b) n s m
  memo-room {s = s} {m = m} q M = subst (λ (x : Room). Memo args (eval x) n s m) q M

  -- after i arguments of e, whose numbers are xs
  pub record Turn (e : ℕ) (xs K₀ E₀ P₀ I₀ : List ℕ) (f₀ : Fill) (m₀ K E P I : List ℕ) (f : Fill) (m vals : List ℕ) (i : ℕ) : Type 0 where
    pub full : length vals ≡ 16
    pub run : Run eval (value e) xs K₀ E₀ P₀ I₀ f₀ K E P I f vals i (eval (room_of K₀ P₀) e (terms_in K₀ E₀ P₀ f₀))
    pub memo : Memo args (eval (room_of K₀ P₀)) n (terms_in K E P f) m
    pub len_m : length m ≡ length m₀
    pub keeps : (k : ℕ) → k < n → is_noted m₀ k ≡ true → is_noted m k ≡ true
    pub only : (k : ℕ) → k < n → is_noted m k ≡ true → (is_noted m₀ k ≡ true) ⊎ Reaches args k e
    pub each : (j : ℕ) → j < i → is_noted m (get_or xs j 0) ≡ true

  -- an expression that is noted
  pub known : {e : ℕ} {K E P I : List ℕ} {f : Fill} {m : List ℕ} {c : Checked} → e < n → Indexed K E P I f → Memo args (eval (room_of K P)) n (terms_in K E P f) m → is_noted m e ≡ true
      → c ≡ record { refusal = passed; value = value_at m e; fill = f } → Evaluates args eval n e K E P I f m K E P I c m
  known {e} {K} {E} {P} {I} {f} {m} {c} h S M q d = subst (λ (x : Checked). Evaluates args eval n e K E P I f m K E P I x m) (sym d) (record {
    does = does-here S (sym (M.value e h q));
    memo = λ z. M;
    noted = λ z. record { root = q; keeps = λ k l p. p; only = λ k l p. inl p };
  })

  pub start : {e : ℕ} {xs K E P I : List ℕ} {f : Fill} {m vals : List ℕ} → expr e ≡ node e (head e) (arguments_by expr (args e)) → xs ≡ args e → Indexed K E P I f → Memo args (eval (room_of K P)) n (terms_in K E P f) m → length vals ≡ 16
      → Turn e xs K E P I f m K E P I f m vals 0
  start {e} {xs} {K} {E} {P} {I} {f} d q S M l = record {
    full = l;
    run = run-start S (ap (λ (ys : List ℕ). rest (eval (room_of K P)) (value e (room_of K P)) [] ys (terms_in K E P f)) q ∙ rest_all (room_of K P) e (terms_in K E P f) d);
    memo = M;
    len_m = refl;
    keeps = λ k h p. p;
    only = λ k h p. inl p;
    each = λ j h. absurd (not-suc-le-zero h);
  }

  module _ {e : ℕ} {xs K₀ E₀ P₀ I₀ : List ℕ} {f₀ : Fill} {m₀ K E P I : List ℕ} {f : Fill} {m vals : List ℕ} {i : ℕ} (T : Turn e xs K₀ E₀ P₀ I₀ f₀ m₀ K E P I f m vals i) where
    abbrev room : Room
    room = room_of K₀ P₀

    same-room : room_of K P ≡ room
    same-room = room-same T.run.grown

    -- what is asked of the next argument
    pub next-memo : Memo args (eval (room_of K P)) n (terms_in K E P f) m
    next-memo = memo-room (sym same-room) T.memo

    module _ {K' E' P' I' : List ℕ} {c : Checked} {m' : List ℕ} (h : i < length xs) (d : Evaluates args eval n (get_or xs i 0) K E P I f m K' E' P' I' c m') where
      pub turns : xs ≡ args e → length xs ≤ 16 → ((j : ℕ) → j < length xs → get_or xs j 0 < n) → length m' ≡ length m → c.refusal.number ≡ 0
          → Turn e xs K₀ E₀ P₀ I₀ f₀ m₀ K' E' P' I' c.fill m' (set vals i c.value) (i + 1)
      turns q few low l z = record {
        full = length-set vals i c.value ∙ T.full;
        run = run-turn T.run h d.does (let w = T.full in omega arith) z;
        memo = memo-room same-room (d.memo z);
        len_m = l ∙ T.len_m;
        keeps = λ k u p. (d.noted z).keeps k u (T.keeps k u p);
        only = λ k u p. below k ((d.noted z).only k u p) (T.only k u);
        each = λ j u. noted-at j u (eqb j i) refl;
      }
        where
          below : (k : ℕ) → (is_noted m k ≡ true) ⊎ Reaches args k (get_or xs i 0) → (is_noted m k ≡ true → (is_noted m₀ k ≡ true) ⊎ Reaches args k e) → (is_noted m₀ k ≡ true) ⊎ Reaches args k e
          below k (inl p) r = r p
          below k (inr p) r = inr (down (subst (Memᴰ (get_or xs i 0)) q (member-at xs i h)) p)

          noted-at : (j : ℕ) → j < i + 1 → (b : Bool) → eqb j i ≡ b → is_noted m' (get_or xs j 0) ≡ true
          noted-at j u true p = subst (λ (k : ℕ). is_noted m' (get_or xs k 0) ≡ true) (sym (eqb-true j i p)) (d.noted z).root
          noted-at j u false p =
              let ne = eqb-false j i p in
              let lt : j < i = omega arith in
              (d.noted z).keeps (get_or xs j 0) (low j (omega arith)) (T.each j lt)

    -- all arguments, the head's value, and its note
    module _ {K' E' P' I' : List ℕ} {c : Checked} {m' : List ℕ} (h : length xs ≤ i) (q : xs ≡ args e) (lt : e < n)
        (d : Does K E P I f K' E' P' I' c.fill c.refusal c.value (head_term fact (room_of K P) prog rule σ (head e) (take (length xs) vals) (terms_in K E P f)))
        (g : m' ≡ note_at m e c.value) where
      abbrev s'' : List Term
      s'' = terms_in K' E' P' c.fill

      whole : Does K₀ E₀ P₀ I₀ f₀ K' E' P' I' c.fill c.refusal c.value (eval room e (terms_in K₀ E₀ P₀ f₀))
      whole = run-done T.run h d

      module _ (z : c.refusal.number ≡ 0) where
        grows : Extends (terms_in K E P f) s''
        grows = (post-result (head-settled fact (room_of K P) prog rule σ (head e) (take (length xs) vals) (terms_in K E P f)) (sym d.outcome ∙ ok_of c.refusal c.value s'' z)).grows

        has_value : eval room e s'' ≡ ok c.value s''
        has_value = term-again fact room prog rule σ (expr e) (terms_in K₀ E₀ P₀ f₀) s'' s'' c.value (sym whole.outcome ∙ ok_of c.refusal c.value s'' z) extends-same

        fits : e + e + 2 < length m
        fits = let a = T.memo.long in omega arith

        is-noted : (k : ℕ) → is_noted m k ≡ true → is_noted (note_at m e c.value) k ≡ true
        is-noted k p = go (eqb k e) refl
          where
            go : (b : Bool) → eqb k e ≡ b → is_noted (note_at m e c.value) k ≡ true
            go true u = subst (λ (j : ℕ). is_noted (note_at m e c.value) j ≡ true) (sym (eqb-true k e u)) (note-here m e c.value fits)
            go false u = note-other m e c.value k (eqb-false k e u) ∙ p

        note-memo : Memo args (eval room) n s'' (note_at m e c.value)
        note-memo = record {
          long = rw (note-length m e c.value) T.memo.long;
          past = note-past m e c.value fits T.memo.past;
          value = λ k u p. value-at k u p (eqb k e) refl;
          closed = λ k a u p w. closed_at k a u p w (eqb k e) refl;
        }
          where
            value-at : (k : ℕ) → k < n → is_noted (note_at m e c.value) k ≡ true → (b : Bool) → eqb k e ≡ b → eval room k s'' ≡ ok (value_at (note_at m e c.value) k) s''
            value-at k u p true w =
                subst (λ (j : ℕ). eval room j s'' ≡ ok (value_at (note_at m e c.value) j) s'') (sym (eqb-true k e w))
                (has_value ∙ ap {B = Outcome ℕ} (λ (v : ℕ). ok v s'') (sym (note-value m e c.value fits)))
            value-at k u p false w =
                let ne = eqb-false k e w in
                term-again fact room prog rule σ (expr k) (terms_in K E P f) (terms_in K E P f) s'' (value_at m k) (T.memo.value k u (sym (note-other m e c.value k ne) ∙ p)) grows
                ∙ ap {B = Outcome ℕ} (λ (v : ℕ). ok v s'') (sym (note-value-other m e c.value k ne))

            closed_at : (k a : ℕ) → k < n → is_noted (note_at m e c.value) k ≡ true → Memᴰ a (args k) → (b : Bool) → eqb k e ≡ b → is_noted (note_at m e c.value) a ≡ true
            closed_at k a u p w true v =
                let o = place_of xs a (subst (Memᴰ a) (sym q) (subst (λ (j : ℕ). Memᴰ a (args j)) (eqb-true k e v) w)) in
                is-noted a (subst (λ (j : ℕ). is_noted m j ≡ true) o.2 (T.each o.0 (let x = o.1 in omega arith)))
            closed_at k a u p w false v = is-noted a (T.memo.closed k a u (sym (note-other m e c.value k (eqb-false k e v)) ∙ p) w)

        note-noted : Noted args n e m₀ (note_at m e c.value)
        note-noted = record {
          root = note-here m e c.value fits;
          keeps = λ k u p. is-noted k (T.keeps k u p);
          only = λ k u p. only_at k u p (eqb k e) refl;
        }
          where
            only_at : (k : ℕ) → k < n → is_noted (note_at m e c.value) k ≡ true → (b : Bool) → eqb k e ≡ b → (is_noted m₀ k ≡ true) ⊎ Reaches args k e
            only_at k u p true w = inr (here (eqb-true k e w))
            only_at k u p false w = T.only k u (sym (note-other m e c.value k (eqb-false k e w)) ∙ p)

      pub finishes : Evaluates args eval n e K₀ E₀ P₀ I₀ f₀ m₀ K' E' P' I' c m'
      finishes = subst⁻¹ (Evaluates args eval n e K₀ E₀ P₀ I₀ f₀ m₀ K' E' P' I' c) g (record {
        does = whole;
        memo = note-memo;
        noted = note-noted;
      })

  -- an expression whose value needs no evaluation
  pub knows : {e : ℕ} {K E P I : List ℕ} {f : Fill} {m : List ℕ} {r : prelude.Option ℕ} {m' : List ℕ} {t : ℕ} → e < n → expr e ≡ node e (head e) (arguments_by expr (args e)) → ((x : ℕ) → variable x ≡ head e → args e ≡ [])
      → Indexed K E P I f → Memo args (eval (room_of K P)) n (terms_in K E P f) m → Knows head σ e m r m' → r ≡ Some t
      → Evaluates args eval n e K E P I f m K E P I (record { refusal = passed; value = t; fill = f }) m'
  knows {e} {K} {E} {P} {I} {f} {m} {r} {m'} {t} h d a S M (noted p q g) z =
      let y : t ≡ value_at m e = cc in
      subst⁻¹ (Evaluates args eval n e K E P I f m K E P I (record { refusal = passed; value = t; fill = f })) g
      (known h S M p (ap (λ (v : ℕ). record { refusal = passed; value = v; fill = f }) y))
  knows {e} {K} {E} {P} {I} {f} {m} {r} {m'} {t} h d a S M (bound x u p q b g) z =
      let y : u ≡ t = cc in
      finishes (start {vals = replicate 16 0} d refl S M refl) (rw (a x p) (omega arith)) refl h
      (at_head fact (room_of K P) prog rule σ _ (terms_in K E P f) p
      (head-does fact (room_of K P) prog rule σ _ (terms_in K E P f) (view.Head.Var x) (view.Head.Var x) refl
      (variable-does S (given-some (record { refusal = passed; value = t; fill = f }) t 45 (rule ∷ x ∷ []) f refl (ap (λ (v : ℕ). some v) (sym y) ∙ q)))))
      (g ∙ ap (note_at m e) y)
  knows h d a S M (unknown u p g) z = let y : ◌≡◌ {A = ℕ} 0 1 = cc in absurd (omega arith)

  -- the next argument: its value is known, or nothing changed
  module _ {e : ℕ} {xs K₀ E₀ P₀ I₀ : List ℕ} {f₀ : Fill} {m₀ K E P I : List ℕ} {f : Fill} {m vals : List ℕ} {i : ℕ} (T : Turn e xs K₀ E₀ P₀ I₀ f₀ m₀ K E P I f m vals i)
      {r : prelude.Option ℕ} {m' : List ℕ} (w : Knows head σ (get_or xs i 0) m r m') where
    pub turn-known : {t : ℕ} → i < length xs → xs ≡ args e → length xs ≤ 16 → ((j : ℕ) → j < length xs → get_or xs j 0 < n) → ((a : ℕ) → expr a ≡ node a (head a) (arguments_by expr (args a)))
        → ((a x : ℕ) → variable x ≡ head a → args a ≡ []) → length m' ≡ length m → r ≡ Some t → Turn e xs K₀ E₀ P₀ I₀ f₀ m₀ K E P I f m' (set vals i t) (i + 1)
    turn-known h q few low d a l z = turns T h (knows (low i h) (d (get_or xs i 0)) (a (get_or xs i 0)) T.run.grown.indexed (next-memo T) w z) q few low l refl

-- an expression of an admitted job is its head over its arguments
pub node-for : {J : List ℕ} → Ready J → (e : ℕ) → expr_for J e ≡ node e (head_for J e) (arguments_by (expr_for J) (arguments_for J e))
node-for {J} R e = expr-node (tables_for J).expressions (expressions-lower (sizes_of J) (tables_for J) R.admitted) e

-- a variable has no arguments
pub no_arguments : (J : List ℕ) (e x : ℕ) → variable x ≡ head_for J e → arguments_for J e ≡ []
no_arguments J e x q = let c = get_or (tables_for J).expressions e no_cell in go c.kind c.words q
  where
    go : (k : ℕ) (ws : List ℕ) → variable x ≡ read_head (cell k ws) → read_arguments (cell k ws) ≡ []
    go zero ws q = refl
    go (suc zero) ws q = refl
    go (suc (suc zero)) ws q = let z : ◌≡◌ {A = ℕ} 0 1 = cc in absurd (omega arith)
    go (suc (suc (suc zero))) ws q = let z : ◌≡◌ {A = ℕ} 0 1 = cc in absurd (omega arith)
    go (suc (suc (suc (suc k)))) ws q = let z : ◌≡◌ {A = ℕ} 0 1 = cc in absurd (omega arith)

-- an evaluation by itself: the memo says nothing yet
pub root-memo : {args : ℕ → List ℕ} {eval : ℕ → Check ℕ} {n : ℕ} {s : List Term} {m : List ℕ} → n + n < length m → Started m → Memo args eval n s m
root-memo {m = m} l S = record {
  long = l;
  past = S.past;
  value = λ k h p. absurd (true≢false (sym p ∙ S.none k));
  closed = λ k a h p w. absurd (true≢false (sym p ∙ S.none k));
}

-- after an evaluation the memo holds in the room that there is then
pub memo-after : {args : ℕ → List ℕ} {eval : Room → ℕ → Check ℕ} {n e : ℕ} {K E P I : List ℕ} {f : Fill} {m K' E' P' I' : List ℕ} {c : Checked} {m' : List ℕ}
    → Evaluates args eval n e K E P I f m K' E' P' I' c m' → c.refusal.number ≡ 0 → Memo args (eval (room_of K' P')) n (terms_in K' E' P' c.fill) m'
memo-after {args} {eval} {n} {K' = K'} {E' = E'} {P' = P'} {c = c} {m' = m'} d z = subst (λ (x : Room). Memo args (eval x) n (terms_in K' E' P' c.fill) m') (sym (room-same d.does.grown)) (d.memo z)

module _ (fact : Bool) (J : List ℕ) (rule : ℕ) (σ : List Binding) where
  value-is : (room : Room) (e : ℕ) (s : List Term) → eval_for fact J rule σ room e s ≡ value_for fact J rule σ room e s
  value-is room e s = sym (value-term fact room (program_for J) rule σ (expr_for J e) s)

  reach : {eval : ℕ → Check ℕ} {s : List Term} {m : List ℕ} → Ready J → Memo (arguments_for J) eval (sizes_of J).expressions s m → (j a : ℕ) → a < (sizes_of J).expressions → is_noted m a ≡ true
      → Reaches (arguments_for J) j a → is_noted m j ≡ true
  reach {m = m} R M j a l u (here i) = subst (λ (x : ℕ). is_noted m x ≡ true) (sym i) u
  reach {m = m} R M j a l u (down {a = b} w r) =
      let v = expressions-lower (sizes_of J) (tables_for J) R.admitted a b w in
      reach R M j b (omega arith) (M.closed a b l u w) r

  -- in a round that goes on
  module _ {e : ℕ} {k e' p ix : List ℕ} {f : Fill} {m k' e'' p' ix' : List ℕ} {c : Checked} {m' : List ℕ} (R : Ready J) (h : e < (sizes_of J).expressions)
      (M : Memo (arguments_for J) (eval_for fact J rule σ (room_of k p)) (sizes_of J).expressions (terms_in k e' p f) m)
      (d : Evaluates (arguments_for J) (eval_for fact J rule σ) (sizes_of J).expressions e k e' p ix f m k' e'' p' ix' c m') where
    -- the value of what was noted stays
    same_noted : c.refusal.number ≡ 0 → (j : ℕ) → j < (sizes_of J).expressions → is_noted m j ≡ true → is_noted m' j ≡ true → value_at m j ≡ value_at m' j
    same_noted q j l u v =
        let s = terms_in k e' p f in
        let s' = terms_in k' e'' p' c.fill in
        let x = (post-result (term-settled fact (room_of k p) (program_for J) rule σ (expr_for J e) s) (sym d.does.outcome ∙ ok_of c.refusal c.value s' q)).grows in
        let again = term-again fact (room_of k p) (program_for J) rule σ (expr_for J j) s s s' (value_at m j) (M.value j l u) x in
        same-value (sym again ∙ (d.memo q).value j l v)

    pub more-done : {Old : ℕ → Type 0} → ((j : ℕ) → j < (sizes_of J).expressions → is_noted m j ≡ true → Old (value_at m j))
        → EvaluatesMore Old (arguments_for J) (value_for fact J rule σ) (sizes_of J).expressions e k e' p ix f k' e'' p' ix' c m'
    more-done {Old} o = record {
      does = subst (Does k e' p ix f k' e'' p' ix' c.fill c.refusal c.value) (value-is (room_of k p) e (terms_in k e' p f)) d.does;
      past = λ q. (d.memo q).past;
      value = λ q j l u. sym (value-is (room_of k p) j (terms_in k' e'' p' c.fill)) ∙ (d.memo q).value j l u;
      below = λ q j r. reach R (d.memo q) j e h (d.noted q).root r;
      only = λ q j l u. elim ((d.noted q).only j l u) [ inl v ↦ inl (subst Old (same_noted q j l v u) (o j l v)) | inr r ↦ inr r ];
    }

  pub root-done : {e : ℕ} {k e' p ix : List ℕ} {f : Fill} {m k' e'' p' ix' : List ℕ} {c : Checked} {m' : List ℕ} → Ready J → e < (sizes_of J).expressions → (sizes_of J).expressions + (sizes_of J).expressions < length m → Started m
      → Evaluates (arguments_for J) (eval_for fact J rule σ) (sizes_of J).expressions e k e' p ix f m k' e'' p' ix' c m'
      → EvaluatesRoot (arguments_for J) (value_for fact J rule σ) (sizes_of J).expressions e k e' p ix f k' e'' p' ix' c m'
  root-done {k = k} {e' = e'} {p = p} {f = f} R h l S d = more-done R h (root-memo l S) d (λ j _ u. true≢false (sym u ∙ S.none j))
