use Rattle.program.specs.Ready.{program_for}
use Rattle.evaluate.proofs.HeadValues.{head-does, variable-does, number-above, by_number}
use Rattle.evaluate.proofs.head_value.Goals as goal

pub validated-requires : goal.validated-requires
validated-requires c = record { ready = c.requires.ready; keyed = c.requires.keyed; indexed = c.requires.indexed; p_bound = c.requires.by_index _ c.in-Primitive.is; n_nonzero = number-above c.args.fact c.no_validator-n.ensures }

pub returns-in-Lit-clause-does : goal.returns-in-Lit-clause-does
returns-in-Lit-clause-does c = let a = c.args in head-does a.fact _ _ a.scope.now.rule _ a.args.now _ a.head _ c.in-Lit.is c.add_lit.ensures.does

pub returns-in-Var-clause-does : goal.returns-in-Var-clause-does
returns-in-Var-clause-does c = let a = c.args in head-does a.fact _ _ a.scope.now.rule _ a.args.now _ a.head _ c.in-Var.is (variable-does c.requires.indexed (c.variable.ensures.fill_value, c.variable.ensures.s_value))

pub returns-in-Constructor-clause-does : goal.returns-in-Constructor-clause-does
returns-in-Constructor-clause-does c = let a = c.args in head-does a.fact _ _ a.scope.now.rule _ a.args.now _ a.head _ c.in-Constructor.is c.add_app.ensures.does

pub returns-in-Custom-clause-does : goal.returns-in-Custom-clause-does
returns-in-Custom-clause-does c = let a = c.args in head-does a.fact _ _ a.scope.now.rule _ a.args.now _ a.head _ c.in-Custom.is c.custom_value.ensures.does

pub returns-in-Primitive-clause-does : goal.returns-in-Primitive-clause-does
returns-in-Primitive-clause-does c = let a = c.args in head-does a.fact _ _ a.scope.now.rule _ a.args.now _ a.head _ c.in-Primitive.is (by_number _ (program_for a.scope.now.job.now) _ a.args.now _ c.no_validator-n.ensures c.validated.ensures.does)
