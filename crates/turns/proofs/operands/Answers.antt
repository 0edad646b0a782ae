use Rattle.turns.proofs.Operating.{operates_other, operates_rule}
use native.Mathlib.Omega.{arith}
use mathlib.Core.Path.{refl}
use Rattle.turns.proofs.operands.Goals as goal

pub returns-in-Fiat : goal.returns-in-Fiat
returns-in-Fiat c = operates_other c.justification_at-justification.ensures c.wide.ensures c.in-Fiat.is _ refl refl refl (omega arith)

pub returns-in-Rule : goal.returns-in-Rule
returns-in-Rule c = operates_rule c.justification_at-justification.ensures c.wide.ensures c.in-Rule.is _ refl refl refl

pub returns-in-MergeFn : goal.returns-in-MergeFn
returns-in-MergeFn c = operates_other c.justification_at-justification.ensures c.wide.ensures c.in-MergeFn.is _ refl refl refl (omega arith)

pub returns-in-Trans : goal.returns-in-Trans
returns-in-Trans c = operates_other c.justification_at-justification.ensures c.wide.ensures c.in-Trans.is _ refl refl refl (omega arith)

pub returns-in-Sym : goal.returns-in-Sym
returns-in-Sym c = operates_other c.justification_at-justification.ensures c.wide.ensures c.in-Sym.is _ refl refl refl (omega arith)

pub returns-in-Congr : goal.returns-in-Congr
returns-in-Congr c = operates_other c.justification_at-justification.ensures c.wide.ensures c.in-Congr.is _ refl refl refl (omega arith)

pub returns-in-ContainerNormalize : goal.returns-in-ContainerNormalize
returns-in-ContainerNormalize c = operates_other c.justification_at-justification.ensures c.wide.ensures c.in-ContainerNormalize.is _ refl refl refl (omega arith)

pub returns-in-Eval : goal.returns-in-Eval
returns-in-Eval c = operates_other c.justification_at-justification.ensures c.wide.ensures c.in-Eval.is _ refl refl refl (omega arith)
