use mathlib.Core.Path.{refl, sym, subst}
use mathlib.Core.List.{[], ◌∷◌}
use Prim.Native.Nat.{ℕ}
use Rattle.std.specs.Prelude.{None}
use Rattle.termdag.specs.Store.{terms_of, room_in}
use Rattle.model.specs.Check.{and_then, or_refuse}
use Rattle.model.specs.Counts.{count_value}
use Rattle.model.specs.Evaluate.{counts_in, add_count}
use Rattle.outcome.specs.Does.{DoesIn}
use Rattle.counts.proofs.Laws.{no-value}
use Rattle.computing.proofs.Laws.{count_none}
use Rattle.computing.proofs.computed.Goals as goal

pub returns-in_default-clause-does : goal.returns-in_default-clause-does
returns-in_default-clause-does c = let a = c.args in
    count_none (count_value a.kind (counts_in (terms_of a.store.now a.fill) a.args.now)) a.name c.requires None c.refuse1.result refl (sym (no-value a.kind _ c.in_default.ensures)) c.refuse1.ensures

pub returns-clause-does : goal.returns-clause-does
returns-clause-does c = let a = c.args in
    let s = terms_of a.store.now a.fill in
    subst
    (λ (k : ℕ). DoesIn a.store.now a.fill c.compute.new.store c.compute.result.fill c.compute.result.refusal c.compute.result.value (and_then (add_count (room_in a.store.now) (count_value k (counts_in s a.args.now)) s) (λ o. or_refuse o 46 (a.name ∷ []))))
    c.in-Some.ensures c.compute.ensures.does
