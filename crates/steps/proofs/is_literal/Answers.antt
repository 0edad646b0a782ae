use Prim.Native.Nat.{ℕ}
use mathlib.Core.Path.{◌≡◌, refl, subst}
use mathlib.Core.Option.{some}
use Rattle.model.specs.Term.{get_term}
use Rattle.model.specs.Evaluate.{children}
use Rattle.decode.specs.View.{term_of}
use Rattle.termdag.specs.Store.{terms_in}
use Rattle.steps.proofs.PlainLaws.{literal-by}
use Rattle.steps.proofs.is_literal.Goals as goal

pub returns-in-Lit : goal.returns-in-Lit
returns-in-Lit c = let a = c.args in literal-by _ _ _ (subst (λ (n : ℕ). get_term (terms_in a.store.now.kinds.now a.store.now.ends.now a.store.now.pool.now a.fill) n ≡ some (term_of c.get-term.result (children (get_term (terms_in a.store.now.kinds.now a.store.now.ends.now a.store.now.pool.now a.fill) n)))) c.wide.ensures c.get-term.ensures) _ _ c.in-Lit.is refl

pub returns-in-Var : goal.returns-in-Var
returns-in-Var c = let a = c.args in literal-by _ _ _ (subst (λ (n : ℕ). get_term (terms_in a.store.now.kinds.now a.store.now.ends.now a.store.now.pool.now a.fill) n ≡ some (term_of c.get-term.result (children (get_term (terms_in a.store.now.kinds.now a.store.now.ends.now a.store.now.pool.now a.fill) n)))) c.wide.ensures c.get-term.ensures) _ _ c.in-Var.is refl

pub returns-in-App : goal.returns-in-App
returns-in-App c = let a = c.args in literal-by _ _ _ (subst (λ (n : ℕ). get_term (terms_in a.store.now.kinds.now a.store.now.ends.now a.store.now.pool.now a.fill) n ≡ some (term_of c.get-term.result (children (get_term (terms_in a.store.now.kinds.now a.store.now.ends.now a.store.now.pool.now a.fill) n)))) c.wide.ensures c.get-term.ensures) _ _ c.in-App.is refl
