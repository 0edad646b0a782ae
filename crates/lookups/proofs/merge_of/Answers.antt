use mathlib.Core.Path.{refl, ◌≡◌, sym, ap, ◌∙◌}
use Prim.Native.Nat.{ℕ}
use native.Mathlib.Omega.{arith}
use lib.ListN.{get_or}
use Rattle.model.specs.Cell.{no_cell}
use Rattle.model.specs.Layout.{sizes_of}
use Rattle.model.specs.Program.{Expr, Function}
use Rattle.model.specs.Decode.{expr_of, read_function}
use Rattle.model.specs.Action.{merge_of}
use Rattle.decode.specs.View.{function_of}
use Rattle.program.specs.Ready.{tables_for}
use Rattle.program.proofs.Words.{cell-read}
use Rattle.program.proofs.Laws.{functions-read, function-counts, function-refers, function-words, merge-within}
use Rattle.lookups.proofs.Laws.{look-found, look-nothing, merge-looks}
use Rattle.lookups.proofs.merge_of.Goals as goal

pub find_named-place-requires : goal.find_named-place-requires
find_named-place-requires c = record { held = c.requires.ready.held; start_bound = omega arith; by_name = refl; chained_table = c.requires.keyed.functions }

pub returns-in_default : goal.returns-in_default
returns-in_default c = let a = c.args in
    let J = a.job.now in
    let T = tables_for J in
    record {
      is = sym (ap (λ fs. merge_of fs a.function) (functions-read (sizes_of J).globals T) ∙ look-nothing (merge-looks (expr_of T.expressions) a.function) T.functions (sym c.find_named-place.ensures.is ∙ c.in_default.is));
      within = λ e q. let n : ◌≡◌ {A = ℕ} 0 1 = cc in absurd (omega arith);
    }

pub kind_at-requires : goal.kind_at-requires
kind_at-requires c = record { held = c.requires.ready.held; i_bound = c.find_named-place.ensures.within c.in-Some.i c.in-Some.is }

pub words_at-requires : goal.words_at-requires
words_at-requires c = record { held = c.requires.ready.held; i_bound = c.find_named-place.ensures.within c.in-Some.i c.in-Some.is }

pub read_function-f-requires : goal.read_function-f-requires
read_function-f-requires c = let i = c.in-Some.i in
    function-words (cell-read _ c.kind_at.ensures c.words_at.ensures) (function-counts c.requires.ready i (c.find_named-place.ensures.within i c.in-Some.is))

pub returns : goal.returns
returns c = let a = c.args in
    let J = a.job.now in
    let T = tables_for J in
    let i = c.in-Some.i in
    let h = c.find_named-place.ensures.within i c.in-Some.is in
    let expr = expr_of T.expressions in
    let reads : (expr : ℕ → Expr) → function_of expr c.read_function-f.result ≡ read_function expr (get_or T.functions i no_cell) = λ expr. c.read_function-f.ensures expr ∙ ap (read_function expr) (cell-read _ c.kind_at.ensures c.words_at.ensures) in
    record {
      is = ap (λ (g : Function). g.merge) (reads expr)
          ∙ sym (ap (λ fs. merge_of fs a.function) (functions-read (sizes_of J).globals T) ∙ look-found (merge-looks expr a.function) T.functions i (sym c.find_named-place.ensures.is ∙ c.in-Some.is));
      within = merge-within (sizes_of J).expressions (get_or T.functions i no_cell) c.read_function-f.result (function-counts c.requires.ready i h) (function-refers c.requires.ready i h) reads;
    }
