-- The arrays of a job that loads: its program, its proofs and its terms, the room that there is for them, and the index that lists them.
use mathlib.Core.Path.{◌≡◌, refl, sym, ap, subst, ◌∙◌}
use mathlib.Core.Bool.{true, false, not}
use mathlib.Core.List.Memᴰ
use mathlib.Core.List.{List, [], ◌∷◌, map, Memᴰ}
use mathlib.Core.Option.{Option, none}
use Prim.Native.Nat.{ℕ, suc, ◌+◌, ◌*◌, ◌≤◌, ◌<◌}
use native.Mathlib.Omega.{arith}
use lib.Dec.{eqb, ltb, lit<}
use lib.ListN.{length, get_or}
use borrow.Author.Tests.{ltb-false, leb-false}
use Rattle.model.specs.Cell.{Cell, no_cell, start_of, cells_of}
use Rattle.model.specs.Term.{Term, cell_of, read_term}
use Rattle.model.specs.Program.{Program}
use Rattle.model.specs.Layout.{Sizes, sizes_of, cell_count, kinds_of, ends_of, pool_of, Tables, tables_of}
use Rattle.model.specs.Decode.{read_job, job_of}
use Rattle.model.specs.Check.{Refusal}
use Rattle.model.specs.Load.{Lent, Admitted, no_room, wrong_slots, refused_if, term_fits, first_refusal, load_refusal}
use Rattle.model.specs.Answer.{lent_by}
use Rattle.model.proofs.Tests.{eq_of, not-false}
use Rattle.model.proofs.Represent.{Distinct}
use Rattle.model.proofs.Valid.{term-cell, loads-admitted, loads-valid}
use Rattle.index.specs.declared.Fill.{Fill}
use Rattle.index.specs.Listing.{Lists}
use Rattle.termdag.specs.Store.{terms_in, Indexed, Loadable, Loaded}
use Rattle.termdag.proofs.Laws.{once-of}
use Rattle.load.specs.Held.{writer_tests, room_lacks}
use Rattle.load.proofs.Loading.{terms-are, room-is, right-length, held_of, loads-held, or_no, refused-no, test-passes}
use Rattle.load.proofs.Intake.{slots-over}
use Rattle.program.specs.Ready.{Ready, fill_for, tables_for, program_for}
use Rattle.program.specs.Read.{proofs_for}
use Rattle.evaluate.specs.Evaluation.{Sane}
use Rattle.prepare.specs.Prepares.{arrays_of, Loads, Started}

-- the program, the proofs and the terms of the job's words are the job's
module _ (ws : List ℕ) where
  pub tables-for : tables_for ws ≡ tables_of ws
  unfolding tables_of
  tables-for = refl

  pub job-program : program_for ws ≡ (job_of ws).program
  unfolding read_job tables_of
  job-program = refl

  pub job-proofs : proofs_for ws ≡ (job_of ws).proofs
  unfolding read_job tables_of
  job-proofs = refl

  first-cells : (tables_for ws).terms ≡ cells_of (kinds_of ws) (ends_of ws) (pool_of ws) (sizes_of ws).terms
  first-cells = terms-are (kinds_of ws) (ends_of ws) (pool_of ws) (held_of (sizes_of ws))

  pub job-terms : map read_term (cells_of (kinds_of ws) (ends_of ws) (pool_of ws) (sizes_of ws).terms) ≡ (job_of ws).terms
  unfolding read_job
  job-terms = ap (map read_term) (sym first-cells) ∙ ap (λ (t : Tables). map read_term t.terms) tables-for

-- cells that fit are their terms' cells
fits-cells : (cs : List Cell) → ((k : ℕ) → k < length cs → term_fits (get_or cs k no_cell) ≡ true) → map cell_of (map read_term cs) ≡ cs
fits-cells [] h = refl
fits-cells (c ∷ cs) h = λ i. sym (term-cell c (h 0 (omega arith))) i ∷ fits-cells cs (λ k l. h (suc k) (omega arith)) i

-- what loading tests
all_none : (ts : List (Unit {0} → Option Refusal)) → ((t : Unit {0} → Option Refusal) → Memᴰ t ts → t tt ≡ none) → first_refusal ts ≡ none
all_none [] h = refl
all_none (t ∷ ts) h = rw (h t (Memᴰ.head refl)) (all_none ts (λ u m. h u (Memᴰ.tail m)))

-- the room that there is
pub record Room (z : Sizes) (words : ℕ) (l : Lent) : Type 0 where
  pub terms : z.terms ≤ l.kinds
  pub words-fit : words ≤ l.pool
  pub few : l.kinds ≤ 65536
  pub small : l.pool ≤ 1048576
  pub even : l.kinds ≡ l.ends
  pub enough : 2 * (l.kinds + z.proofs) ≤ l.scratch

room_of_lem : (z : Sizes) (words : ℕ) (l : Lent) → room_lacks z words l ≡ false → Room z words l
room_of_lem z words l h =
    let a1 = or_no _ (ltb l.scratch (2 * (l.kinds + z.proofs))) h in
    let a2 = or_no _ (not (eqb l.kinds l.ends)) a1.0 in
    let a3 = or_no _ (ltb 1048576 l.pool) a2.0 in
    let a4 = or_no _ (ltb 65536 l.kinds) a3.0 in
    let a5 = or_no _ (ltb l.pool words) a4.0 in
    record {
      terms = ltb-false l.kinds z.terms a5.0;
      words-fit = ltb-false l.pool words a5.1;
      few = ltb-false 65536 l.kinds a4.1;
      small = ltb-false 1048576 l.pool a3.1;
      even = eq_of l.kinds l.ends (not-false _ a2.1);
      enough = ltb-false l.scratch (2 * (l.kinds + z.proofs)) a1.1;
    }

module _ (ws : List ℕ) (asked mode : ℕ) (l : Lent) (a : load_refusal ws asked mode l ≡ none) where
  -- the proof asked for is there
  pub loads-asked : asked < (sizes_of ws).proofs
  loads-asked = leb-false (sizes_of ws).proofs asked (refused-no _ 3 (test-passes ws asked mode l a _ (Memᴰ.tail (Memᴰ.tail (Memᴰ.head refl)))))

  writer-passes : first_refusal (writer_tests (sizes_of ws) (tables_of ws)) ≡ none
  writer-passes = all_none (writer_tests (sizes_of ws) (tables_of ws))
      (λ t m. test-passes ws asked mode l a t (Memᴰ.tail (Memᴰ.tail (Memᴰ.tail (Memᴰ.tail (Memᴰ.tail (Memᴰ.append_left ((λ _. refused_if (no_room (sizes_of ws) (map read_term (tables_of ws).terms) l) 10) ∷ (λ _. refused_if (wrong_slots l) 12) ∷ []) m)))))))

  pub loads-ready : Ready ws
  loads-ready =
      let q = eq_of (length ws) (12 + 2 * cell_count (sizes_of ws) + (sizes_of ws).pool) (not-false _ (or_no (ltb (length ws) 12) _ (right-length ws asked mode l a)).1) in
      record {
        held = record { long = omega (arith, q); formed = (loads-held ws asked mode l a).formed; limits = (loads-held ws asked mode l a).limits };
        admitted = subst (Admitted (sizes_of ws)) (sym (tables-for ws)) (loads-admitted ws asked mode l a);
      }

  pub loads-room : Room (sizes_of ws) (start_of (ends_of ws) (sizes_of ws).terms) l
  loads-room =
      let e = (λ i. first_refusal (writer_tests (sizes_of ws) (tables-for ws i))) ∙ writer-passes in
      let b = test-passes ws asked mode l a _ (Memᴰ.tail (Memᴰ.tail (Memᴰ.tail (Memᴰ.tail (Memᴰ.tail (Memᴰ.tail (Memᴰ.tail (Memᴰ.tail (Memᴰ.tail (Memᴰ.head refl)))))))))) in
      room_of_lem (sizes_of ws) (start_of (ends_of ws) (sizes_of ws).terms) l (sym (room-is (loads-held ws asked mode l a) l e) ∙ (λ i. no_room (sizes_of ws) (map read_term (tables-for ws i).terms) l) ∙ refused-no _ 10 b)

  -- the index has more slots than the store has cells
  pub loads-slots : l.kinds < l.index
  loads-slots = slots-over l (refused-no _ 12 (test-passes ws asked mode l a _ (Memᴰ.tail (Memᴰ.tail (Memᴰ.tail (Memᴰ.tail (Memᴰ.tail (Memᴰ.tail (Memᴰ.tail (Memᴰ.tail (Memᴰ.tail (Memᴰ.tail (Memᴰ.head refl)))))))))))))

-- what the start of a job needs and leaves
module _ {ws K E P : List ℕ} (L : Loads ws K E P) where
  abbrev lent : Lent
  lent = lent_by (arrays_of K E P) L.slots L.scratch

  pub start-ready : Ready ws
  start-ready = loads-ready ws L.asked L.mode lent L.passes

  room : Room (sizes_of ws) (start_of (ends_of ws) (sizes_of ws).terms) lent
  room = loads-room ws L.asked L.mode lent L.passes

  pub start_loadable : Loadable (kinds_of ws) (ends_of ws) (pool_of ws) (fill_for ws) (sizes_of ws).terms K E P
  start_loadable = record {
    formed = start-ready.held.formed;
    within = omega arith;
    once = once-of (cells_of (kinds_of ws) (ends_of ws) (pool_of ws) (sizes_of ws).terms) (subst Distinct (sym (job-terms ws)) (loads-valid ws L.asked L.mode lent L.passes).distinct);
    terms = subst (λ (cs : List Cell). map cell_of (map read_term cs) ≡ cs) (first-cells ws) (fits-cells (tables_for ws).terms (start-ready.admitted.fits 0 (lit< tt)));
    cells = room.terms;
    words = room.words-fit;
    even = sym room.even;
    few = let h = room.few in omega arith;
    small = let h = room.small in omega arith;
  }

  start-sane : Sane (job_of ws).program [] (job_of ws).terms
  start-sane =
      let v = loads-valid ws L.asked L.mode lent L.passes in
      record { ordered = v.ordered; bound = λ b m. absurd (Memᴰ.not-nil m); rows = λ r m. (v.rows r m).0 }

  module _ {K' E' P' I' : List ℕ} {x : ℕ} {f : Fill} (D : Loaded (kinds_of ws) (ends_of ws) (pool_of ws) (sizes_of ws).terms x K E P K' E' P' f)
      (n : length I' ≡ L.slots) (l : Lists x I' (cells_of (kinds_of ws) (ends_of ws) (pool_of ws) (sizes_of ws).terms)) where
    loaded-terms : terms_in K' E' P' f ≡ (job_of ws).terms
    loaded-terms = D.terms ∙ job-terms ws

    -- the cells of the store are the job's first
    loaded-cells : cells_of K' E' P' f.cells ≡ cells_of (kinds_of ws) (ends_of ws) (pool_of ws) (sizes_of ws).terms
    loaded-cells = sym D.stored.terms ∙ ap (map cell_of) D.terms ∙ start_loadable.terms

    start-indexed : Indexed K' E' P' I' f
    start-indexed = record {
      stored = D.stored;
      lists = subst (λ (y : ℕ × List Cell). Lists y.0 I' y.1) (λ i. (sym D.multiplier i, sym loaded-cells i)) l;
      room = omega (arith, D.len_k, n, loads-slots ws L.asked L.mode lent L.passes);
    }

    pub starts : Started ws K E P K' E' P' I' f
    starts = record {
      ready = start-ready;
      indexed = start-indexed;
      terms = loaded-terms;
      cells = D.cells;
      len_k = D.len_k;
      len_e = D.len_e;
      len_p = D.len_p;
      kinds = D.kinds;
      ends = D.ends;
      pool = D.pool;
      even = sym room.even;
      few = room.few;
      small = room.small;
      sane = subst (λ (x : Program × List Term). Sane x.0 [] x.1) (λ i. (sym (job-program ws) i, sym loaded-terms i)) start-sane;
    }
