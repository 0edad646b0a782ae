use mathlib.Core.Path.{sym, ◌∙◌}
use mathlib.Core.Bool.{true≢false}
use Rattle.load.proofs.tables.term_passes.Goals as goal

pub returns-then-not-term_fits : goal.returns-then-not-term_fits
returns-then-not-term_fits c = λ u. absurd (true≢false (sym u))

pub returns : goal.returns
returns c = λ u. (sym c.if-not-term_fits.false ∙ c.term_fits.ensures, sym u ∙ c.term_refers.ensures)
