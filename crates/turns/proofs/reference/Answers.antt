use Rattle.turns.proofs.Planning.{reference-inside, rule-reference, plain-reference}
use Rattle.program.specs.Read.{premises_for, proof_cell}
use native.Mathlib.Omega.{arith}
use Prim.Native.Nat.{ℕ}
use mathlib.Core.Path.{ap, ◌∙◌}
use Rattle.turns.proofs.reference.Goals as goal

pub premises_at-premises-requires : goal.premises_at-premises-requires
premises_at-premises-requires c = let a = c.args in let pre = c.requires in let h = pre.p_bound in record { ready = pre.ready; p_bound = omega arith; p_value = ap (λ (n : ℕ). (proof_cell a.job.now n).kind) c.wide.ensures ∙ pre.planned.kind c.if-rule.true }

pub bounds-premises-i : goal.bounds-premises-i
bounds-premises-i c = let a = c.args in let pre = c.requires in let l = reference-inside c.if-rule.true pre.planned (c.premises_at-premises.ensures.is ∙ ap (premises_for a.job.now) c.wide.ensures) in let h = pre.i_lt_count in omega arith

pub returns-then-rule : goal.returns-then-rule
returns-then-rule c = let a = c.args in let pre = c.requires in rule-reference c.if-rule.true pre.planned pre.i_lt_count (c.premises_at-premises.ensures.is ∙ ap (premises_for a.job.now) c.wide.ensures)

pub bounds-refs-i : goal.bounds-refs-i
bounds-refs-i c = let pre = c.requires in let l = pre.planned.plain c.if-rule.false in let h = pre.i_lt_count in omega arith

pub returns : goal.returns
returns c = let pre = c.requires in plain-reference c.if-rule.false pre.planned pre.i_lt_count
