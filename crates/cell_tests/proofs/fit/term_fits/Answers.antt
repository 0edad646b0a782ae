use Rattle.cell_tests.proofs.fit.term_fits.Goals as goal

pub returns-in-0 : goal.returns-in-0
returns-in-0 c = rw c.in-0.is (c.literal_fits.ensures 0)
