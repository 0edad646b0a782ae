use mathlib.Core.Bool.{true≢false}
use mathlib.Core.Path.{sym}
use Rattle.context.proofs.Starting.{bound-is, standing-as, turn-stops, turn-goes}
use borrow.Author.Rules.{rules}
use Rattle.context.proofs.global_action.Goals as goal

pub process_action-r-requires : goal.process_action-r-requires
process_action-r-requires c = let a = c.args in record { standing = standing-as (sym (bound-is a.table.now a.at)) c.requires.standing; going_2 = λ u. absurd (true≢false (sym u)); i_bound = c.requires.i_bound }

pub returns-then-refusal-ne0-clause-does : goal.returns-then-refusal-ne0-clause-does
returns-then-refusal-ne0-clause-does c = let a = c.args in turn-stops c.process_action-r.ensures.acts a.table.now a.at a.unions.now a.n (bound-is a.table.now a.at) c.requires.even (search rules)

pub push_binding-bindings-requires : goal.push_binding-bindings-requires
push_binding-bindings-requires c = record { le_at = c.requires.le_at; at_in_bounds = c.requires.at_in_bounds }

pub push_union-unions-requires : goal.push_union-unions-requires
push_union-unions-requires c = record { count_in_bounds = c.requires.n_in_bounds; even = c.requires.even }

pub returns-clause-does : goal.returns-clause-does
returns-clause-does c = let a = c.args in turn-goes c.process_action-r.ensures.acts a.table.now a.at a.unions.now a.n (bound-is a.table.now a.at) c.push_binding-bindings.ensures c.push_union-unions.ensures
