use borrow.Author.Tests.{le-leb, lt-leb, lt-ltb, le-ltb}
use Rattle.index.specs.Listing.{Lists}
use Rattle.load.specs.Held.{sizes_in}
use Rattle.load.proofs.Loading.{refuses-1, refuses-2, refuses-3, refuses-11, behind-11, sizes-words, limits_of, inside, cut_of, cut-terms, cut-refusal}
use Rattle.std.proofs.lemmas.Result.{on_ok_weaker}
use mathlib.Core.Path.{sym, ap, subst, ◌∙◌}
use mathlib.Core.List.{List}
use native.Mathlib.Omega.{arith}
use lib.Dec.{leb}
use lib.ListN.{length}
use Rattle.model.specs.Cell.{Cell}
use Rattle.model.specs.Layout.{Sizes}
use Rattle.model.specs.Load.{Lent, too_large}
use Rattle.load.proofs.load.Goals as goal

pub returns-then-wrong_length : goal.returns-then-wrong_length
returns-then-wrong_length c = let a = c.args in
    let l : Lent = record { kinds = a.kinds; ends = a.ends; pool = a.pool; index = length a.index.now; scratch = a.scratch } in
    record { refusal = refuses-1 a.job.now a.asked a.mode l (sym c.wrong_length.ensures ∙ c.if-wrong_length.true); lists = tt }

pub read_sizes-z-requires : goal.read_sizes-z-requires
read_sizes-z-requires c = sizes-words c.args.job.now (sym c.wrong_length.ensures ∙ c.if-wrong_length.false)

pub returns-then-too_large : goal.returns-then-too_large
returns-then-too_large c = let a = c.args in
    let l : Lent = record { kinds = a.kinds; ends = a.ends; pool = a.pool; index = length a.index.now; scratch = a.scratch } in
    record { refusal = refuses-2 a.job.now a.asked a.mode l (sym c.wrong_length.ensures ∙ c.if-wrong_length.false) (ap too_large (sym c.read_sizes-z.ensures.is) ∙ sym c.too_large.ensures ∙ c.if-too_large.true); lists = tt }

pub returns-then-z-wide : goal.returns-then-z-wide
returns-then-z-wide c = let a = c.args in
    let l : Lent = record { kinds = a.kinds; ends = a.ends; pool = a.pool; index = length a.index.now; scratch = a.scratch } in
    let p = ap (λ (y : Sizes). leb y.proofs a.asked) (sym c.read_sizes-z.ensures.is) ∙ le-leb c.read_sizes-z.result.proofs a.asked (omega (arith, c.wide.ensures)) in
    record { refusal = refuses-3 a.job.now a.asked a.mode l (sym c.wrong_length.ensures ∙ c.if-wrong_length.false) (ap too_large (sym c.read_sizes-z.ensures.is) ∙ sym c.too_large.ensures ∙ c.if-too_large.false) p; lists = tt }

pub returns-then-mode-gt1 : goal.returns-then-mode-gt1
returns-then-mode-gt1 c = let a = c.args in
    let l : Lent = record { kinds = a.kinds; ends = a.ends; pool = a.pool; index = length a.index.now; scratch = a.scratch } in
    let p = ap (λ (y : Sizes). leb y.proofs a.asked) (sym c.read_sizes-z.ensures.is) ∙ lt-leb c.read_sizes-z.result.proofs a.asked (omega (arith, c.wide.ensures)) in
    record { refusal = refuses-11 a.job.now a.asked a.mode l (sym c.wrong_length.ensures ∙ c.if-wrong_length.false) (ap too_large (sym c.read_sizes-z.ensures.is) ∙ sym c.too_large.ensures ∙ c.if-too_large.false) p (lt-ltb 1 a.mode (omega arith)); lists = tt }

pub cell_count-n-requires : goal.cell_count-n-requires
cell_count-n-requires c = c.read_sizes-z.ensures.small

pub slice_bounds-cells-end : goal.slice_bounds-cells-end
slice_bounds-cells-end c = let i = inside c.args.job.now c.read_sizes-z.result c.cell_count-n.result c.read_sizes-z.ensures.is c.cell_count-n.ensures (sym c.wrong_length.ensures ∙ c.if-wrong_length.false) in omega (arith, i)

pub slice_bounds-cells-end-2 : goal.slice_bounds-cells-end-2
slice_bounds-cells-end-2 c = let i = inside c.args.job.now c.read_sizes-z.result c.cell_count-n.result c.read_sizes-z.ensures.is c.cell_count-n.ensures (sym c.wrong_length.ensures ∙ c.if-wrong_length.false) in omega (arith, i)

pub slice_bounds-cells-count-3 : goal.slice_bounds-cells-count-3
slice_bounds-cells-count-3 c = inside c.args.job.now c.read_sizes-z.result c.cell_count-n.result c.read_sizes-z.ensures.is c.cell_count-n.ensures (sym c.wrong_length.ensures ∙ c.if-wrong_length.false)

pub slice_bounds-cells-start-3 : goal.slice_bounds-cells-start-3
slice_bounds-cells-start-3 c = let i = inside c.args.job.now c.read_sizes-z.result c.cell_count-n.result c.read_sizes-z.ensures.is c.cell_count-n.ensures (sym c.wrong_length.ensures ∙ c.if-wrong_length.false) in omega (arith, i)

pub load_cells-requires : goal.load_cells-requires
load_cells-requires c = cut_of c.args.job.now c.read_sizes-z.result c.cell_count-n.result c.read_sizes-z.ensures.is c.cell_count-n.ensures (sym c.wrong_length.ensures ∙ c.if-wrong_length.false) (limits_of (sizes_in c.read_sizes-z.result) (sym c.too_large.ensures ∙ c.if-too_large.false))

pub returns : goal.returns
returns c = let a = c.args in
    let l : Lent = record { kinds = a.kinds; ends = a.ends; pool = a.pool; index = length a.index.now; scratch = a.scratch } in
    let w = sym c.wrong_length.ensures ∙ c.if-wrong_length.false in
    let s = c.read_sizes-z.ensures.is in
    let p = ap (λ (y : Sizes). leb y.proofs a.asked) (sym s) ∙ lt-leb c.read_sizes-z.result.proofs a.asked (omega (arith, c.wide.ensures)) in
    record { refusal = c.load_cells.ensures.refusal ∙ cut-refusal a.job.now c.read_sizes-z.result c.cell_count-n.result s c.cell_count-n.ensures w l ∙ behind-11 a.job.now a.asked a.mode l w (ap too_large (sym c.read_sizes-z.ensures.is) ∙ sym c.too_large.ensures ∙ c.if-too_large.false) p (le-ltb 1 a.mode (omega arith)); lists = on_ok_weaker c.load_cells.result (subst (λ (cs : List Cell). Lists a.multiplier c.load_cells.new.index cs) (cut-terms a.job.now c.read_sizes-z.result c.cell_count-n.result s c.cell_count-n.ensures w)) c.load_cells.ensures.lists }
