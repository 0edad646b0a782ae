use Rattle.heads.proofs.Merging.{merged-none, merged_by}
use Rattle.program.specs.Read.{expr_for}
use Rattle.program.specs.Ready.{program_for}
use Rattle.decode.specs.View as view
use mathlib.Core.Path.{refl, sym, ap, ◌∙◌}
use mathlib.Core.Bool.{false, true≢false}
use native.Mathlib.Omega.{arith}
use Rattle.outcome.proofs.Laws.{grown-same}
use Rattle.model.specs.Action.{merge_bindings}
use Rattle.actions.specs.Acting.{Going}
use Rattle.actions.proofs.Yielding.{going-enters}
use Rattle.actions.proofs.Acting.{standing-after}
use Rattle.heads.proofs.run_merge.Goals as goal

pub new_round-requires : goal.new_round-requires
new_round-requires c = record { memo_nonzero = omega (arith, c.requires.fits); past = c.requires.past }

pub yield_value-requires : goal.yield_value-requires
yield_value-requires c = let a = c.args in let S = c.requires in let l = c.new_round.auto.memo in
    let G : Going a.job.now 3 (merge_bindings a.old a.new) a.marking a.store.now.kinds.now a.store.now.ends.now a.store.now.pool.now a.fill c.new_round.new.memo a.marks.now = going-enters false {memo = a.memo.now} (omega (arith, l, S.fits)) (λ u. absurd (true≢false (sym u))) (λ _. c.new_round.ensures) (λ u. absurd (true≢false (sym u))) in
    record { standing = standing-after S (grown-same S.indexed) S.sane G.holds.past l refl; going_2 = G; e_bound = c.merge_of-merge.ensures.within _ c.in-Some.is }

pub returns-in-None-clause-does : goal.returns-in-None-clause-does
returns-in-None-clause-does c = let a = c.args in merged-none (program_for a.job.now) a.function a.old a.new c.requires.indexed (ap (view.merge_of (expr_for a.job.now)) (sym c.in-None.is) ∙ c.merge_of-merge.ensures.is) c.refuse1.ensures

pub returns-in-Some-clause-does : goal.returns-in-Some-clause-does
returns-in-Some-clause-does c = let a = c.args in merged_by (program_for a.job.now) a.function a.old a.new _ (ap (view.merge_of (expr_for a.job.now)) (sym c.in-Some.is) ∙ c.merge_of-merge.ensures.is) c.yield_value.ensures.yields
