-- The contracts of the merge step and of what it shares with other steps.
use Rattle.std.specs.Prelude.{ℕ, ◌*◌, ◌≤◌, ◌<◌, ◌≡◌, List, Bool, true, false, eqb, length}
use Rattle.index.specs.declared.Store.{Store}
use Rattle.std.proofs.Math.Option.{Option, none, some}
use Rattle.model.specs.Term.{Term, get_term, Ordered}
use Rattle.model.specs.Program.{Proposition}
use Rattle.model.specs.Evaluate.{children}
use Rattle.model.specs.Action.{among}
use Rattle.model.specs.Normalize.{App}
use Rattle.model.specs.Walk.{front}
use Rattle.index.specs.declared.Fill.{Fill}
use Rattle.termdag.specs.Store.{terms_in, room_of}
use Rattle.outcome.specs.Does.{passed, Does}
use Rattle.outcome.specs.declared.Refusal.{Refusal}
use Rattle.outcome.specs.declared.Checked.{Checked}
use Rattle.marks.specs.Covering.{Marks}
use Rattle.merges.specs.declared.Views.{Views}
use Rattle.merges.specs.Merge.{Merging, add_view}

-- The refusal, unless the test passes.
abbrev pub refused_unless : Bool → Refusal → Refusal
refused_unless true r = passed
refused_unless false r = r

-- The application of a head, if there is one.
abbrev pub app_with : Option ℕ → List ℕ → Option App
app_with none xs = none
app_with (some f) xs = some (record { head = f; args = xs })

-- Term t lies in the store and has at most 16 children, as every term of a job has.
pub record Small (s : List Term) (t : ℕ) : Type 0 where
  pub inside : t < length s
  pub few : length (children (get_term s t)) ≤ 16

-- The views as the code holds them; the inputs are read again where they are needed.
abbrev pub merging_of : Views → List ℕ → Merging
merging_of v xs = record { head = v.head; inputs = xs; old = v.old; new = v.new }

-- What the view of a merged value, added to the store, claims: for all pairs ps of the merge that the marks m stand for.
pub record AddsView (p : ℕ) (q : Proposition) (t head value : ℕ) (k e pool ix : List ℕ) (f : Fill) (m k' e' pool' ix' : List ℕ) (r : Checked) : Type 0 where
  pub does : (ps : List Proposition) → Ordered (terms_in k e pool f) → value < length (terms_in k e pool f) → length k ≤ 32 * length m
      → ((q.lhs ≡ q.rhs → ⊥) → among q ps ≡ false) → (eqb q.lhs q.rhs ≡ true → Marks (terms_in k e pool f) m ps)
      → Does k e pool ix f k' e' pool' ix' r.fill r.refusal tt (add_view (room_of k pool) p q head (front (children (get_term (terms_in k e pool f) t))) value ps (terms_in k e pool f))

-- The same, of a store.
abbrev pub AddsViewIn : ℕ → Proposition → ℕ → ℕ → ℕ → Store → Fill → List ℕ → Store → Checked → Type 0
AddsViewIn p q t head value s f m s' r = AddsView p q t head value s.kinds.now s.ends.now s.pool.now s.index.now f m s'.kinds.now s'.ends.now s'.pool.now s'.index.now r
