use mathlib.Core.Path.{refl}
use native.Mathlib.Omega.{arith}
use Rattle.outcome.proofs.Laws.{grown-same}
use Rattle.actions.proofs.Yielding.{going-enters}
use Rattle.actions.proofs.Acting.{standing-after}
use Rattle.actions.proofs.process_action.Goals as goal

pub new_round_unless-requires : goal.new_round_unless-requires
new_round_unless-requires c = record { memo_nonzero = omega (arith, c.requires.standing.fits); past = c.requires.standing.past }

pub act-requires : goal.act-requires
act-requires c = let a = c.args in let S = c.requires.standing in let l = c.new_round_unless.auto.memo in let G = going-enters a.kept {rule = a.scope.now.rule} {marking = a.marking} (omega (arith, l, S.fits)) c.new_round_unless.ensures.same c.new_round_unless.ensures.fresh c.requires.going_2 in
    record { standing = standing-after S (grown-same S.indexed) S.sane G.holds.past l refl; going_2 = G; i_bound = c.requires.i_bound }

pub returns-clause-acts : goal.returns-clause-acts
returns-clause-acts c = let made = c.act.ensures in made.acts

pub returns-clause-going : goal.returns-clause-going
returns-clause-going c = let made = c.act.ensures in made.going
