use mathlib.Core.Path.{ap, ◌∙◌}
use mathlib.Core.Option.{some}
use Rattle.model.specs.Check.{ok}
use Rattle.model.specs.Normalize.{as_app, normalize_app}
use Rattle.decode.specs.View.{term_of}
use Rattle.decode.specs.declared.Term.{Term}
use Rattle.termdag.specs.Store.{terms_in}
use Rattle.program.specs.Ready.{program_for}
use Rattle.lookups.proofs.Laws.{normal-view}
use Rattle.lookups.proofs.normalize_container.Goals as goal

pub returns-in-Lit : goal.returns-in-Lit
returns-in-Lit c = let a = c.args in
    let prog = program_for a.job.now in
    let s = terms_in a.store.now.kinds.now a.store.now.ends.now a.store.now.pool.now a.sfill in
    let xs = c.children-args.result.now in
    λ room. normal-view room prog a.t c.wide-n.result s c.get-term.result xs (ok a.t s) c.wide-n.ensures c.get-term.ensures c.children-args.ensures
    (ap (λ (r : Term). normalize_app room prog a.t (as_app (some (term_of r xs))) s) c.in-Lit.is)

pub returns-in-Var : goal.returns-in-Var
returns-in-Var c = let a = c.args in
    let prog = program_for a.job.now in
    let s = terms_in a.store.now.kinds.now a.store.now.ends.now a.store.now.pool.now a.sfill in
    let xs = c.children-args.result.now in
    λ room. normal-view room prog a.t c.wide-n.result s c.get-term.result xs (ok a.t s) c.wide-n.ensures c.get-term.ensures c.children-args.ensures
    (ap (λ (r : Term). normalize_app room prog a.t (as_app (some (term_of r xs))) s) c.in-Var.is)

pub returns-in-App : goal.returns-in-App
returns-in-App c = let a = c.args in
    let prog = program_for a.job.now in
    let s = terms_in a.store.now.kinds.now a.store.now.ends.now a.store.now.pool.now a.sfill in
    let xs = c.children-args.result.now in
    λ room. normal-view room prog a.t c.wide-n.result s c.get-term.result xs (ok c.normalize_app.result s) c.wide-n.ensures c.get-term.ensures c.children-args.ensures
    (ap (λ (r : Term). normalize_app room prog a.t (as_app (some (term_of r xs))) s) c.in-App.is ∙ c.normalize_app.ensures room s)
