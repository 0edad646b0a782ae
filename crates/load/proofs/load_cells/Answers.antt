use Rattle.std.proofs.lemmas.Result.{err_from_is_err_and}
use Prim.Native.Nat.{ℕ}
use lib.ListN.{length}
use Rattle.load.proofs.Rounds.{room-cells}
use Rattle.load.proofs.Loading.{held-of, refuses-5, refuses-writer, refuses-10, refuses-12, admits, room-is}
use Rattle.load.proofs.Intake.{slots-many, lists-all}
use Rattle.load.specs.Held.{sizes_in, tables_for, refusal_of, room_lacks}
use mathlib.Core.Path.{sym, ap, ◌∙◌}
use native.Mathlib.Omega.{arith}
use Rattle.model.specs.Load.{Lent}
use Rattle.load.proofs.load_cells.Goals as goal

pub returns-then-not-ends_rise : goal.returns-then-not-ends_rise
returns-then-not-ends_rise c = let a = c.args in
    let l : Lent = record { kinds = a.lent_kinds; ends = a.lent_ends; pool = a.lent_pool; index = length a.index.now; scratch = a.scratch } in
    let t = tables_for a.cells.now.kinds.now a.cells.now.ends.now a.cells.now.pool.now a.cells.now.sizes in
    record { refusal = refuses-5 a.cells.now.ends.now (sizes_in a.cells.now.sizes) t l (sym c.ends_rise.ensures ∙ c.if-not-ends_rise.true); lists = tt }

pub known_terms-distinct-requires : goal.known_terms-distinct-requires
known_terms-distinct-requires c = held-of c.requires (sym c.ends_rise.ensures ∙ c.if-not-ends_rise.false)

pub writer_refusal-requires : goal.writer_refusal-requires
writer_refusal-requires c = record { held = held-of c.requires (sym c.ends_rise.ensures ∙ c.if-not-ends_rise.false); distinct = c.known_terms-distinct.ensures.distinct }

pub start-words-requires : goal.start-words-requires
start-words-requires c = let h = held-of c.requires (sym c.ends_rise.ensures ∙ c.if-not-ends_rise.false) in omega (arith, c.requires.ends)

pub no_room-requires : goal.no_room-requires
no_room-requires c = c.requires.limits

pub returns-then-no_room : goal.returns-then-no_room
returns-then-no_room c = let a = c.args in
    let l : Lent = record { kinds = a.lent_kinds; ends = a.lent_ends; pool = a.lent_pool; index = length a.index.now; scratch = a.scratch } in
    let t = tables_for a.cells.now.kinds.now a.cells.now.ends.now a.cells.now.pool.now a.cells.now.sizes in
    let e = sym c.ends_rise.ensures ∙ c.if-not-ends_rise.false in
    let w = sym c.writer_refusal.ensures ∙ ap refusal_of c.in_ok-writer_refusal.was in
    let n = room-is (held-of c.requires e) l w ∙ ap (λ (k : ℕ). room_lacks (sizes_in a.cells.now.sizes) k l) (sym c.start-words.ensures) ∙ sym (c.no_room.ensures l.index) ∙ c.if-no_room.true in
    record { refusal = refuses-10 a.cells.now.ends.now (sizes_in a.cells.now.sizes) t l e w n; lists = tt }

pub wrong_slots-requires : goal.wrong_slots-requires
wrong_slots-requires c = let a = c.args in
    let l : Lent = record { kinds = a.lent_kinds; ends = a.lent_ends; pool = a.lent_pool; index = length a.index.now; scratch = a.scratch } in
    room-cells (sizes_in a.cells.now.sizes) c.start-words.result l (sym (c.no_room.ensures l.index) ∙ c.if-no_room.false)

pub returns-then-wrong_slots : goal.returns-then-wrong_slots
returns-then-wrong_slots c = let a = c.args in
    let l : Lent = record { kinds = a.lent_kinds; ends = a.lent_ends; pool = a.lent_pool; index = length a.index.now; scratch = a.scratch } in
    let t = tables_for a.cells.now.kinds.now a.cells.now.ends.now a.cells.now.pool.now a.cells.now.sizes in
    let e = sym c.ends_rise.ensures ∙ c.if-not-ends_rise.false in
    let w = sym c.writer_refusal.ensures ∙ ap refusal_of c.in_ok-writer_refusal.was in
    let n = room-is (held-of c.requires e) l w ∙ ap (λ (k : ℕ). room_lacks (sizes_in a.cells.now.sizes) k l) (sym c.start-words.ensures) ∙ sym (c.no_room.ensures l.index) ∙ c.if-no_room.false in
    record { refusal = refuses-12 a.cells.now.ends.now (sizes_in a.cells.now.sizes) t l e w n (sym (c.wrong_slots.ensures l.ends l.pool l.scratch) ∙ c.if-wrong_slots.true); lists = tt }

pub returns : goal.returns
returns c = let a = c.args in
    let l : Lent = record { kinds = a.lent_kinds; ends = a.lent_ends; pool = a.lent_pool; index = length a.index.now; scratch = a.scratch } in
    let t = tables_for a.cells.now.kinds.now a.cells.now.ends.now a.cells.now.pool.now a.cells.now.sizes in
    let e = sym c.ends_rise.ensures ∙ c.if-not-ends_rise.false in
    let w = sym c.writer_refusal.ensures ∙ ap refusal_of c.in_ok-writer_refusal.was in
    let r = sym (c.no_room.ensures l.index) ∙ c.if-no_room.false in
    let n = room-is (held-of c.requires e) l w ∙ ap (λ (k : ℕ). room_lacks (sizes_in a.cells.now.sizes) k l) (sym c.start-words.ensures) ∙ r in
    let s = sym (c.wrong_slots.ensures l.ends l.pool l.scratch) ∙ c.if-wrong_slots.false in
    record { refusal = admits a.cells.now.ends.now (sizes_in a.cells.now.sizes) t l e w n s; lists = lists-all (c.known_terms-distinct.ensures.fills (slots-many (sizes_in a.cells.now.sizes) c.start-words.result l r s)) w }

pub returns-in_err-writer_refusal : goal.returns-in_err-writer_refusal
returns-in_err-writer_refusal c = let a = c.args in
    let l : Lent = record { kinds = a.lent_kinds; ends = a.lent_ends; pool = a.lent_pool; index = length a.index.now; scratch = a.scratch } in
    let t = tables_for a.cells.now.kinds.now a.cells.now.ends.now a.cells.now.pool.now a.cells.now.sizes in
    let p = err_from_is_err_and c.from_residual.result c.from_residual.ensures.1 in
    rw (p.1, p.2) (record { refusal = refuses-writer a.cells.now.ends.now (sizes_in a.cells.now.sizes) t l (sym c.ends_rise.ensures ∙ c.if-not-ends_rise.false) _ (sym c.in_err-writer_refusal.ensures); lists = tt })
