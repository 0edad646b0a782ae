use Rattle.std.proofs.Common.{sym, ◌∙◌}
use Rattle.cells.proofs.Appending.{add-old, add-new}
use Rattle.cells.proofs.add_by_value.Goals as goal

pub returns-in-Some : goal.returns-in-Some
returns-in-Some c = add-old c.requires.formed (record { kind = c.args.kind; words = c.args.ws.now }) c.in-Some.i (sym c.requires.found_value ∙ c.in-Some.is)

pub returns : goal.returns
returns c = add-new c.requires.formed (record { kind = c.args.kind; words = c.args.ws.now }) (sym c.requires.found_value ∙ c.in_default.is) c.append.ensures
