use Rattle.model.specs.Cell.{words_at}
use mathlib.Core.Path.{sym}
use native.Mathlib.Omega.{arith}
use Rattle.cells.proofs.Laws.{rising, within, cell-words}
use Rattle.cells.proofs.words.Goals as goal

pub offset_bounds-pool-s : goal.offset_bounds-pool-s
offset_bounds-pool-s c = let s = c in
    omega (arith, rising s.requires.formed s.args.i s.requires.i_lt_cells, within s.requires.formed s.args.i s.requires.i_lt_cells)

pub slice_bounds-result-count : goal.slice_bounds-result-count
slice_bounds-result-count c = let s = c in
    omega (arith, rising s.requires.formed s.args.i s.requires.i_lt_cells, within s.requires.formed s.args.i s.requires.i_lt_cells)

pub slice_bounds-result-start : goal.slice_bounds-result-start
slice_bounds-result-start c = let s = c in
    omega (arith, rising s.requires.formed s.args.i s.requires.i_lt_cells, within s.requires.formed s.args.i s.requires.i_lt_cells)

pub slice_bounds-result-end : goal.slice_bounds-result-end
slice_bounds-result-end c = let s = c in
    omega (arith, rising s.requires.formed s.args.i s.requires.i_lt_cells, within s.requires.formed s.args.i s.requires.i_lt_cells)

pub returns : goal.returns
unfolding words_at
returns c = let s = c in
    rw (c.wide-e.ensures, c.start-s.ensures) (sym (cell-words s.requires.formed s.args.i s.requires.i_lt_cells))
