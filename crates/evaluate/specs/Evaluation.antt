-- The contract of the evaluator: its outcome, and its memo.
use Rattle.std.specs.Prelude as prelude
use Rattle.index.specs.declared.Store.{Store}
use Rattle.std.specs.Prelude.{Some, None}
use Rattle.std.specs.Prelude.{ℕ, ◌+◌, ◌<◌, ◌≡◌, ◌⊎◌, true, false, length, get_or, set}
use mathlib.Core.List.{List, Memᴰ}
use Rattle.std.proofs.Math.Option.{some}
use Rattle.model.specs.Term.{Term, Ordered}
use Rattle.model.specs.Program.{Head, variable, Binding, Row, Program}
use Rattle.model.specs.Check.{Outcome, ok, Check, Room}
use Rattle.model.specs.Evaluate.{lookup}
use Rattle.termdag.specs.Store.{terms_in, room_of}
use Rattle.memo.specs.Memo.{value_at, is_noted, note_at, Past}
use Rattle.outcome.specs.Does.{Does}
use Rattle.outcome.specs.declared.Checked.{Checked}
use Rattle.outcome.specs.declared.Refusal.{Refusal}
use Rattle.index.specs.declared.Fill.{Fill}
use Rattle.evaluate.specs.Value.{Reaches}

-- Children are lower than their own number, and the terms that the bindings and the rows name are in the store.
pub record Sane (prog : Program) (σ : List Binding) (s : List Term) : Type 0 where
  pub ordered : Ordered s
  pub bound : (b : Binding) → Memᴰ b σ → b.term < length s
  pub rows : (r : Row) → Memᴰ r prog.rows → r.result < length s

-- What a memo says of the first n expressions: the value of each that is noted, in a store where it is evaluated already; its arguments are noted as well.
pub record Memo (args : ℕ → List ℕ) (eval : ℕ → Check ℕ) (n : ℕ) (s : List Term) (m : List ℕ) : Type 0 where
  pub long : n + n < length m
  pub past : Past m
  pub value : (k : ℕ) → k < n → is_noted m k ≡ true → eval k s ≡ ok (value_at m k) s
  pub closed : (k a : ℕ) → k < n → is_noted m k ≡ true → Memᴰ a (args k) → is_noted m a ≡ true

-- The value r of e that needs no evaluation, and the memo after: e is noted, or a variable that is bound, which is noted then. Without a value nothing is noted.
pub data Knows (head : ℕ → Head) (σ : List Binding) (e : ℕ) (m : List ℕ) (r : prelude.Option ℕ) (m' : List ℕ) : Type 0 where
  noted : is_noted m e ≡ true → r ≡ Some (value_at m e) → m' ≡ m → Knows head σ e m r m'
  bound : (x t : ℕ) → variable x ≡ head e → some t ≡ lookup σ x → r ≡ Some t → m' ≡ note_at m e t → Knows head σ e m r m'
  unknown : is_noted m e ≡ false → r ≡ None → m' ≡ m → Knows head σ e m r m'

-- The values of the first i of xs, put into vals, need no evaluation.
pub data KnowsFirst (head : ℕ → Head) (σ : List Binding) (xs m₀ vals₀ : List ℕ) : ℕ → List ℕ → List ℕ → Type 0 where
  none : KnowsFirst head σ xs m₀ vals₀ 0 m₀ vals₀
  more : {i t : ℕ} {m m' vals : List ℕ} → KnowsFirst head σ xs m₀ vals₀ i m vals → i < length xs → Knows head σ (get_or xs i 0) m (Some t) m'
      → KnowsFirst head σ xs m₀ vals₀ (i + 1) m' (set vals i t)

-- What is noted after the evaluation of e: what was, and e with all below it.
pub record Noted (args : ℕ → List ℕ) (n e : ℕ) (m m' : List ℕ) : Type 0 where
  pub root : is_noted m' e ≡ true
  pub keeps : (k : ℕ) → k < n → is_noted m k ≡ true → is_noted m' k ≡ true
  pub only : (k : ℕ) → k < n → is_noted m' k ≡ true → (is_noted m k ≡ true) ⊎ Reaches args k e

-- The evaluation of e, with a memo that holds in the store: the outcome is the definition's, and after a value the memo holds in the store that there is.
pub record Evaluates (args : ℕ → List ℕ) (eval : Room → ℕ → Check ℕ) (n e : ℕ) (K E P I : List ℕ) (f : Fill) (m K' E' P' I' : List ℕ) (r : Checked) (m' : List ℕ) : Type 0 where
  pub does : Does K E P I f K' E' P' I' r.fill r.refusal r.value (eval (room_of K P) e (terms_in K E P f))
  pub memo : r.refusal.number ≡ 0 → Memo args (eval (room_of K P)) n (terms_in K' E' P' r.fill) m'
  pub noted : r.refusal.number ≡ 0 → Noted args n e m m'

-- The same, of a store.
abbrev pub EvaluatesIn : (ℕ → List ℕ) → (Room → ℕ → Check ℕ) → ℕ → ℕ → Store → Fill → List ℕ → Store → Checked → List ℕ → Type 0
EvaluatesIn args eval n e s f m s' r m' = Evaluates args eval n e s.kinds.now s.ends.now s.pool.now s.index.now f m s'.kinds.now s'.ends.now s'.pool.now s'.index.now r m'

-- The evaluation of e in a round that may have begun before: what is noted then is e with all below it, and what was noted, whose values are Old.
pub record EvaluatesMore (Old : ℕ → Type 0) (args : ℕ → List ℕ) (eval : Room → ℕ → Check ℕ) (n e : ℕ) (K E P I : List ℕ) (f : Fill) (K' E' P' I' : List ℕ) (r : Checked) (m' : List ℕ) : Type 0 where
  pub does : Does K E P I f K' E' P' I' r.fill r.refusal r.value (eval (room_of K P) e (terms_in K E P f))
  pub past : r.refusal.number ≡ 0 → Past m'
  pub value : r.refusal.number ≡ 0 → (k : ℕ) → k < n → is_noted m' k ≡ true → eval (room_of K P) k (terms_in K' E' P' r.fill) ≡ ok (value_at m' k) (terms_in K' E' P' r.fill)
  pub below : r.refusal.number ≡ 0 → (k : ℕ) → Reaches args k e → is_noted m' k ≡ true
  pub only : r.refusal.number ≡ 0 → (k : ℕ) → k < n → is_noted m' k ≡ true → Old (value_at m' k) ⊎ Reaches args k e

-- The evaluation of e by itself: what is noted then is e with all below it.
abbrev pub EvaluatesRoot : (ℕ → List ℕ) → (Room → ℕ → Check ℕ) → ℕ → ℕ → List ℕ → List ℕ → List ℕ → List ℕ → Fill → List ℕ → List ℕ → List ℕ → List ℕ → Checked → List ℕ → Type 0
EvaluatesRoot = EvaluatesMore (λ _. ⊥)

-- The same, of a store.
abbrev pub EvaluatesRootIn : (ℕ → List ℕ) → (Room → ℕ → Check ℕ) → ℕ → ℕ → Store → Fill → Store → Checked → List ℕ → Type 0
EvaluatesRootIn args eval n e s f s' r m' = EvaluatesRoot args eval n e s.kinds.now s.ends.now s.pool.now s.index.now f s'.kinds.now s'.ends.now s'.pool.now s'.index.now r m'

-- The contract of a check that evaluates: value a or refusal r, and the terms after, are the outcome o of the definition; after a value the memo m' can be used again.
pub record Checks {A : Type 0} (K E P I : List ℕ) (f : Fill) (K' E' P' I' : List ℕ) (f' : Fill) (r : Refusal) (a : A) (m' : List ℕ) (o : Outcome A) : Type 0 where
  pub does : Does K E P I f K' E' P' I' f' r a o
  pub past : r.number ≡ 0 → Past m'

-- The same, of a store.
abbrev pub ChecksIn : {A : Type 0} → Store → Fill → Store → Fill → Refusal → A → List ℕ → Outcome A → Type 0
ChecksIn s f s' f' r a m' o = Checks s.kinds.now s.ends.now s.pool.now s.index.now f s'.kinds.now s'.ends.now s'.pool.now s'.index.now f' r a m' o
