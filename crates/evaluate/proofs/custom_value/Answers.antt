use Rattle.evaluate.proofs.HeadValues.{custom-fact, custom-elsewhere}
use Rattle.evaluate.proofs.custom_value.Goals as goal

pub returns-then-fact-clause-does : goal.returns-then-fact-clause-does
returns-then-fact-clause-does c = custom-fact _ _ _ c.requires.indexed c.if-fact.true c.refuse1.ensures

pub returns-clause-does : goal.returns-clause-does
returns-clause-does c = custom-elsewhere _ _ _ c.if-fact.false c.add_app.ensures.does
