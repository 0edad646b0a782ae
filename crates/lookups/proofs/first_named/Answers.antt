use mathlib.Core.Path.{refl, sym, ◌∙◌}
use Prim.Native.Nat.{◌+◌}
use native.Mathlib.Omega.{arith}
use lib.Dec.{eqb}
use lib.ListN.{take}
use borrow.Author.Tests.{eq-eqb, ne_eqb}
use Rattle.model.specs.Decode.{word}
use Rattle.program.specs.Ready.{number_of, table_for}
use Rattle.program.proofs.Words.{number-below, inside-from, name_in, first-end, has_end, span-first, span-within, span-words, span-next}
use Rattle.program.proofs.Laws.{front_long}
use Rattle.lookups.proofs.Laws.{mark-yes, mark-no, mark-end, at-within, none_within}
use Rattle.lookups.proofs.first_named.Goals as goal

pub start-from-requires : goal.start-from-requires
start-from-requires c = first-end c.requires.held c.ends-all_ends.ensures (number_of c.args.table) (number-below c.args.table) c.first-start.ensures

pub loop-i-init : goal.loop-i-init
loop-i-init c = (span-first c.args.job.now c.ends-all_ends.ensures _ c.start-from.ensures, refl)

pub overflow_add-start : goal.overflow_add-start
overflow_add-start c = omega (arith, inside-from c.args.job.now (number_of c.args.table) (number-below c.args.table) c.loop-i.i (omega arith) c.first-start.ensures, c.requires.held.long)

pub offset_bounds-all_ends-start : goal.offset_bounds-all_ends-start
offset_bounds-all_ends-start c = omega (arith, inside-from c.args.job.now (number_of c.args.table) (number-below c.args.table) c.loop-i.i (omega arith) c.first-start.ensures, c.requires.held.long)

pub bounds-all_ends-start : goal.bounds-all_ends-start
bounds-all_ends-start c = has_end c.requires.held (c.first-start.result + c.loop-i.i) (inside-from c.args.job.now (number_of c.args.table) (number-below c.args.table) c.loop-i.i (omega arith) c.first-start.ensures) c.ends-all_ends.ensures

pub offset_bounds-all_words-from : goal.offset_bounds-all_words-from
offset_bounds-all_words-from c = omega (arith, (span-within c.requires.held (c.first-start.result + c.loop-i.i) (inside-from c.args.job.now (number_of c.args.table) (number-below c.args.table) c.loop-i.i (omega arith) c.first-start.ensures) c.ends-all_ends.ensures c.loop-i.invariant.0 c.wide-to.ensures c.pool-all_words.ensures))

pub slice_bounds-at-count : goal.slice_bounds-at-count
slice_bounds-at-count c = omega (arith, (span-within c.requires.held (c.first-start.result + c.loop-i.i) (inside-from c.args.job.now (number_of c.args.table) (number-below c.args.table) c.loop-i.i (omega arith) c.first-start.ensures) c.ends-all_ends.ensures c.loop-i.invariant.0 c.wide-to.ensures c.pool-all_words.ensures))

pub slice_bounds-at-start : goal.slice_bounds-at-start
slice_bounds-at-start c = omega (arith, (span-within c.requires.held (c.first-start.result + c.loop-i.i) (inside-from c.args.job.now (number_of c.args.table) (number-below c.args.table) c.loop-i.i (omega arith) c.first-start.ensures) c.ends-all_ends.ensures c.loop-i.invariant.0 c.wide-to.ensures c.pool-all_words.ensures))

pub slice_bounds-at-end : goal.slice_bounds-at-end
slice_bounds-at-end c = omega (arith, (span-within c.requires.held (c.first-start.result + c.loop-i.i) (inside-from c.args.job.now (number_of c.args.table) (number-below c.args.table) c.loop-i.i (omega arith) c.first-start.ensures) c.ends-all_ends.ensures c.loop-i.invariant.0 c.wide-to.ensures c.pool-all_words.ensures))

pub returns-then-at-name : goal.returns-then-at-name
returns-then-at-name c = let a = c.args in
    let J = a.job.now in
    let l = c.loop-i in
    let t = take a.count (table_for J (number_of a.table)) in
    let long = front_long J (number_of a.table) (number-below a.table) a.count c.requires.count_bound in
    record {
      is = mark-yes (λ x. eqb (word x 0) a.name) t l.i (omega arith) (eq-eqb _ a.name (sym ((name_in c.args.job.now (number_of c.args.table) (number-below c.args.table) c.loop-i.i (omega arith) {n = c.args.count} (omega arith) c.first-start.ensures (span-words c.requires.held (c.first-start.result + c.loop-i.i) (inside-from c.args.job.now (number_of c.args.table) (number-below c.args.table) c.loop-i.i (omega arith) c.first-start.ensures) c.ends-all_ends.ensures c.loop-i.invariant.0 c.wide-to.ensures c.pool-all_words.ensures) c.at.ensures)) ∙ c.if-at-name.true)) ∙ sym l.invariant.1;
      within = λ j. at-within (omega arith);
    }

pub loop-i-preserved : goal.loop-i-preserved
loop-i-preserved c = let a = c.args in
    let J = a.job.now in
    let l = c.loop-i in
    let t = take a.count (table_for J (number_of a.table)) in
    let long = front_long J (number_of a.table) (number-below a.table) a.count c.requires.count_bound in (
      span-next c.requires.held (c.first-start.result + l.i) (inside-from c.args.job.now (number_of c.args.table) (number-below c.args.table) c.loop-i.i (omega arith) c.first-start.ensures) c.ends-all_ends.ensures l.invariant.0 c.wide-to.ensures (omega arith),
      l.invariant.1 ∙ mark-no (λ x. eqb (word x 0) a.name) t l.i (omega arith) (ne_eqb _ a.name (λ e. c.if-at-name.false ((name_in c.args.job.now (number_of c.args.table) (number-below c.args.table) c.loop-i.i (omega arith) {n = c.args.count} (omega arith) c.first-start.ensures (span-words c.requires.held (c.first-start.result + c.loop-i.i) (inside-from c.args.job.now (number_of c.args.table) (number-below c.args.table) c.loop-i.i (omega arith) c.first-start.ensures) c.ends-all_ends.ensures c.loop-i.invariant.0 c.wide-to.ensures c.pool-all_words.ensures) c.at.ensures) ∙ e))),
    )

pub returns : goal.returns
returns c = let a = c.args in
    let J = a.job.now in
    let l = c.loop-i in
    let t = take a.count (table_for J (number_of a.table)) in
    let long = front_long J (number_of a.table) (number-below a.table) a.count c.requires.count_bound in
    record {
      is = mark-end (λ x. eqb (word x 0) a.name) t l.i (omega arith) ∙ sym l.invariant.1;
      within = λ j. none_within;
    }
