use mathlib.Core.Path.{sym, ap, ◌∙◌}
use mathlib.Core.List.{[], ◌∷◌}
use mathlib.Core.Option.{some}
use Prim.Native.Nat.{ℕ, ◌+◌}
use Rattle.load.specs.Held.{sizes_in, tables_of, tests_for, round_of}
use Rattle.load.proofs.Rounds.{found_refusal, failing-is}
use Rattle.load.proofs.test_refusal.Goals as goal

pub returns-in-Some : goal.returns-in-Some
returns-in-Some c = let a = c.args in
    let k = round_of a.test in
    let t = tables_of a.cells.now in
    ap (λ (n : ℕ). some (record { number = n; fields = c.in-Some.cell ∷ [] })) c.number.ensures
    ∙ sym (failing-is (6 + k) (tests_for k (sizes_in a.cells.now.sizes) t) t ∙ ap (found_refusal (6 + k)) (sym c.first_marked.ensures ∙ c.in-Some.is))

pub returns-in-None : goal.returns-in-None
returns-in-None c = let a = c.args in
    let k = round_of a.test in
    let t = tables_of a.cells.now in
    sym (failing-is (6 + k) (tests_for k (sizes_in a.cells.now.sizes) t) t ∙ ap (found_refusal (6 + k)) (sym c.first_marked.ensures ∙ c.in-None.is))
