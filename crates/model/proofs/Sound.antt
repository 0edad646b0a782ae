-- THE THIRD DEMAND on the definitions: what the entry accepts in a mode is related by every relation of the job that is closed in that mode.
use Prim.Native.Nat.{ℕ, zero, suc, ◌≤◌}
use mathlib.Core.Path.{◌≡◌, refl}
use mathlib.Core.List.Memᴰ
use mathlib.Core.List.{List, [], ◌∷◌}
use mathlib.Core.Bool.{Bool, true, false}
use mathlib.Core.Option.{Option, none, some}
use native.Mathlib.Omega.{arith}
use lib.ListN.{length}
use lib.Dec.{eqb}
use Rattle.model.specs.Term.{Term}
use Rattle.model.specs.Program.{name_global_actions, Proposition, Job}
use Rattle.model.specs.Layout.{sizes_of, tables_of}
use Rattle.model.specs.Decode.{job_of}
use Rattle.model.specs.Check.{Refusal, Outcome, ok, refused, Room}
use Rattle.model.specs.Load.{Lent, is_strict, refused_if, first_marked, first_refusal, load_tests, load_refusal}
use Rattle.model.specs.Action.{start_context}
use Rattle.model.specs.Walk.{claim_at, duplicate_rule_name, no_duplicate, new_context, check_proof}
use Rattle.model.specs.Answer.{Arrays, Left, checked_by, checked, loaded, lent_by, check, entry}
use Rattle.model.specs.Tree.{Tree, tree_of, tree_rows, tree_start}
use Rattle.model.specs.Relation.{ClosedFor}
use Rattle.model.proofs.Post.{Nonzero, nonzero-at, Post, post-ok, post-bind, same-bind}
use Rattle.model.proofs.Agree.{agree-post}
use Rattle.model.proofs.Evaluation.{bnil, covers-none}
use Rattle.model.proofs.Facts.{actions-agree}
use Rattle.model.proofs.Valid.{Valid, valid-world, loads-valid}
use Rattle.model.proofs.Steps.{walk-sound}

no-duplicate : (o : Option ℕ) (s : List Term) → Post (no_duplicate o s) (λ _ s'. (s' ≡ s) × Unit {0})
no-duplicate none s = post-ok (refl, tt)
no-duplicate (some n) s = record { holds = tt }

-- the two sides that proof p of a job claims are related
pub record ClaimRelated {ℓ} (job : Job) (R : Tree → Tree → Type ℓ) (p : ℕ) : Type ℓ where
  pub related : R (tree_of job.terms (claim_at job.proofs p).lhs) (tree_of job.terms (claim_at job.proofs p).rhs)

check_sound {ℓ} : (room : Room) (job : Job) (p : ℕ) → Valid job → (strict : Bool) (R : Tree → Tree → Type ℓ) → ClosedFor strict job R
    → Post (check_proof room job.program job.proofs strict p job.terms) (λ _ _. ClaimRelated job R p)
unfolding check_proof new_context
check_sound room job p valid strict R closed =
    post-bind (same-bind _ (no-duplicate (duplicate_rule_name [] job.program.rules) job.terms) λ _ _.
    agree-post (actions-agree job.program (tree_rows job.terms job.program.rows) room name_global_actions job.program.globals (tree_start []) (start_context []) job.terms
    (valid-world job valid) bnil covers-none)) λ ctx s₁ g.
    post-bind ((walk-sound room job valid strict R closed ctx g.0 g.1 (suc (length job.proofs))).call p [] s₁
    (record { after = g.2.after; binds = g.2.binds; pairs = g.2.pairs }) (record { each = λ m. absurd (Memᴰ.not-nil m) })) λ _ s₂ m.
    post-ok (record { related = m.this.related })

-- no refusal below 20 has the number 0
abbrev NumberedBy : Option Refusal → Type 0
NumberedBy none = Unit {0}
NumberedBy (some r) = Nonzero r.number

record Numbered (o : Option Refusal) : Type 0 where
  pub number : NumberedBy o

data AllNumbered : List (Unit {0} → Option Refusal) → Type 0 where
  end : AllNumbered []
  next : {t : Unit {0} → Option Refusal} {ts : List (Unit {0} → Option Refusal)} → ((u : Unit {0}) → Numbered (t u)) → AllNumbered ts → AllNumbered (t ∷ ts)

if-numbered : (b : Bool) (n : ℕ) → Nonzero {0} n → Numbered (refused_if b n)
unfolding refused_if
if-numbered true n z = record { number = z }
if-numbered false n z = record { number = tt }

marked-numbered : (n i : ℕ) (ms : List Bool) → Nonzero {0} n → Numbered (first_marked n i ms)
unfolding first_marked
marked-numbered n i [] z = record { number = tt }
marked-numbered n i (false ∷ ms) z = marked-numbered n (suc i) ms z
marked-numbered n i (true ∷ ms) z = record { number = z }

first-numbered : {ts : List (Unit {0} → Option Refusal)} → AllNumbered ts → Numbered (first_refusal ts)
first-numbered end = record { number = tt }
first-numbered (next {t = t} {ts = ts} h k) = go (t tt) (h tt) (first-numbered k)
  where
    go : (o : Option Refusal) → Numbered o → Numbered (first_refusal ts) → Numbered (elim o [ none ↦ first_refusal ts | some r ↦ some r ])
    go none h k = k
    go (some r) h k = h

load-numbered : (ws : List ℕ) (p mode : ℕ) (lent : Lent) → Numbered (load_refusal ws p mode lent)
unfolding load_refusal
load-numbered ws p mode lent = first-numbered {ts = load_tests ws (sizes_of ws) (tables_of ws) p mode lent}
    (next (λ _. if-numbered _ 1 tt) (next (λ _. if-numbered _ 2 tt) (next (λ _. if-numbered _ 3 tt) (next (λ _. if-numbered _ 11 tt) (next (λ _. if-numbered _ 5 tt)
    (next (λ _. marked-numbered 6 0 _ tt) (next (λ _. marked-numbered 7 0 _ tt) (next (λ _. marked-numbered 8 _ _ tt)
    (next (λ _. marked-numbered 9 0 _ tt) (next (λ _. if-numbered _ 10 tt) (next (λ _. if-numbered _ 12 tt) end)))))))))))

not-zero : (n : ℕ) → Nonzero {0} n → ¬ (n ≡ 0)
not-zero zero z e = z.lower
not-zero (suc n) z e = absurd (let h : 1 ≤ suc n = omega arith in omega arith)

module _ {ℓ} (R : Tree → Tree → Type ℓ) where
  checked-sound : (job : Job) (p : ℕ) (strict : Bool) (a : Arrays) → Valid job → ClosedFor strict job R → (checked job p strict a).number ≡ 0 → ClaimRelated job R p
  unfolding checked
  checked-sound job p strict a valid closed e =
      go (check_proof (record { cells = length a.kinds; words = length a.pool }) job.program job.proofs strict p job.terms) (check_sound _ job p valid strict R closed) e
    where
      go : (o : Outcome Proposition) → Post o (λ _ _. ClaimRelated job R p) → (checked_by job p a o).number ≡ 0 → ClaimRelated job R p
      go (ok q s) h e = h.holds
      go (refused r s) h e = absurd (not-zero r.number (nonzero-at r.number h.holds) e)

  check-accepts : (ws : List ℕ) (p mode : ℕ) (a : Arrays) (index scratch : ℕ) → (check ws p mode a index scratch).number ≡ 0 → ClosedFor (is_strict mode) (job_of ws) R → ClaimRelated (job_of ws) R p
  unfolding check
  check-accepts ws p mode a index scratch e closed = go (load_refusal ws p mode (lent_by a index scratch)) refl (load-numbered ws p mode (lent_by a index scratch)) e
    where
      go : (o : Option Refusal) → load_refusal ws p mode (lent_by a index scratch) ≡ o → Numbered o → (loaded (job_of ws) p (is_strict mode) a o).number ≡ 0 → ClaimRelated (job_of ws) R p
      go none h n e = checked-sound (job_of ws) p (is_strict mode) a (loads-valid ws p mode (lent_by a index scratch) h) closed e
      go (some r) h n e = absurd (not-zero r.number n.number e)

  -- DEMAND 3: whatever words, asked proof, mode, arrays, scratch and answer's buffer are handed in, if the entry's number is 0, every relation of the job that
  -- is closed in that mode relates the trees of the two sides that the asked proof claims.
  pub accepted : (ws : List ℕ) (p mode : ℕ) (a : Arrays) (index scratch : ℕ) (answer : List ℕ)
      → (entry ws p mode a index scratch answer).number ≡ 0 → ClosedFor (is_strict mode) (job_of ws) R → ClaimRelated (job_of ws) R p
  unfolding entry
  accepted ws p mode a index scratch answer e closed = go (eqb (length answer) 8) e
    where
      go : (b : Bool) → (elim b as (λ _. Left) [ true ↦ check ws p mode a index scratch | false ↦ record { number = 10; answer = answer; arrays = a } ]).number ≡ 0 → ClaimRelated (job_of ws) R p
      go true e = check-accepts ws p mode a index scratch e closed
      go false e = absurd (not-zero 10 tt e)
