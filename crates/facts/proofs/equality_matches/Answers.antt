use Rattle.program.specs.Read.{expr_for}
use Rattle.decode.specs.View.{proposition_of}
use Rattle.facts.proofs.Wants.{pair_matches, call-differs, pair-differs}
use Rattle.facts.proofs.equality_matches.Goals as goal

pub returns-then-q-w : goal.returns-then-q-w
returns-then-q-w c = let a = c.args in let expr = expr_for a.job.now in λ s. pair_matches a.rule a.i (proposition_of a.w) (proposition_of a.q) s (expr a.left) (expr a.right) c.if-q-w.true

pub returns-in-Some : goal.returns-in-Some
returns-in-Some c = let a = c.args in let expr = expr_for a.job.now in λ s. call-differs a.rule a.i (proposition_of a.w) (proposition_of a.q) s (expr a.left) (expr a.right) c.if-q-w.false c.function_fact-call.ensures c.in-Some.is

pub returns-in-None : goal.returns-in-None
returns-in-None c = let a = c.args in let expr = expr_for a.job.now in λ s. pair-differs a.rule a.i (proposition_of a.w) (proposition_of a.q) s (expr a.left) (expr a.right) c.if-q-w.false c.function_fact-call.ensures c.in-None.is
