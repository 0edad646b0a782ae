use Rattle.decode.specs.View.{proposition_of}
use Rattle.steps.proofs.JobLaws.{claim-of, term-small}
use Rattle.steps.proofs.ConcludeLaws.{congr-as}
use Rattle.steps.proofs.congr_at.Goals as goal

pub congr_step-requires : goal.congr_step-requires
congr_step-requires c = let a = c.args in let pre = c.requires in record { indexed = pre.indexed; small = term-small pre.ready pre.terms_first c.claim_at-a.ensures.rhs }

pub returns-clause-does : goal.returns-clause-does
returns-clause-does c = let a = c.args in let pre = c.requires in congr-as a.p (proposition_of a.q) a.i (claim-of c.claim_at-a.ensures c.wide.ensures) (claim-of c.claim_at-b.ensures c.wide-2.ensures) c.congr_step.ensures.does
