use Rattle.cell_tests.proofs.once.same_head.Goals as goal

pub returns : goal.returns
returns c = λ j k. rw (c.at-2.ensures, c.at.ensures)
