use Rattle.load.proofs.tables.action_fits.Goals as goal

pub returns : goal.returns
returns c = rw (c.set_fits-call.ensures, c.counted-counted.ensures)
