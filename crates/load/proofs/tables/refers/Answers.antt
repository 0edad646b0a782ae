use Rattle.load.proofs.tables.refers.Goals as goal

pub returns-in-2 : goal.returns-in-2
returns-in-2 c = rw c.in-2.is c.all_below.ensures

pub returns-in-6 : goal.returns-in-6
returns-in-6 c = rw c.in-6.is (c.row_refers.ensures c.args.kind)

pub returns-in-8 : goal.returns-in-8
returns-in-8 c = rw c.in-8.is (c.rule_refers.ensures c.args.kind)
