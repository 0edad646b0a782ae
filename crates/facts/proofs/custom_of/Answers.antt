use Rattle.model.specs.Fact.{custom_of}
use mathlib.Core.Path.{refl}
use Rattle.normal_form.proofs.Laws.{head-by}
use Rattle.facts.proofs.custom_of.Goals as goal

pub returns-in-Lit : goal.returns-in-Lit
returns-in-Lit c = head-by custom_of c.head_at-head.ensures c.wide.ensures c.in-Lit.is refl

pub returns-in-Var : goal.returns-in-Var
returns-in-Var c = head-by custom_of c.head_at-head.ensures c.wide.ensures c.in-Var.is refl

pub returns-in-Constructor : goal.returns-in-Constructor
returns-in-Constructor c = head-by custom_of c.head_at-head.ensures c.wide.ensures c.in-Constructor.is refl

pub returns-in-Custom : goal.returns-in-Custom
returns-in-Custom c = head-by custom_of c.head_at-head.ensures c.wide.ensures c.in-Custom.is refl

pub returns-in-Primitive : goal.returns-in-Primitive
returns-in-Primitive c = head-by custom_of c.head_at-head.ensures c.wide.ensures c.in-Primitive.is refl
