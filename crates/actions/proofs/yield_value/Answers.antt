use Rattle.actions.proofs.Yielding.{yields-refused, yields-value, going_more, going-after}
use borrow.Author.Rules.{rules}
use Rattle.actions.proofs.yield_value.Goals as goal

pub eval-r-requires : goal.eval-r-requires
eval-r-requires c = let S = c.requires.standing in record { ready = S.ready; keyed = S.keyed; indexed = S.indexed; e_bound = c.requires.e_bound; memo = c.requires.going_2.holds }

pub returns-then-r-ne0-clause-yields : goal.returns-then-r-ne0-clause-yields
returns-then-r-ne0-clause-yields c = let d = going_more c.args.scope.now.rule c.requires.standing c.requires.e_bound c.requires.going_2 c.eval-r.ensures.does in
    yields-refused c.args.scope.now.rule c.requires.standing c.requires.e_bound d (search rules)

pub returns-then-r-ne0-clause-going : goal.returns-then-r-ne0-clause-going
returns-then-r-ne0-clause-going c = let d = going_more c.args.scope.now.rule c.requires.standing c.requires.e_bound c.requires.going_2 c.eval-r.ensures.does in
    λ n. absurd (c.if-r-ne0.true n)

pub mark_if-requires : goal.mark_if-requires
mark_if-requires c = let S = c.requires.standing in let f = S.fits in search rules

pub returns-clause-yields : goal.returns-clause-yields
returns-clause-yields c = let d = going_more c.args.scope.now.rule c.requires.standing c.requires.e_bound c.requires.going_2 c.eval-r.ensures.does in
    yields-value c.args.scope.now.rule c.requires.standing c.requires.e_bound d (λ t x o. o t) c.if-r-ne0.false c.size-count.ensures c.mark_if.ensures

pub returns-clause-going : goal.returns-clause-going
returns-clause-going c = let d = going_more c.args.scope.now.rule c.requires.standing c.requires.e_bound c.requires.going_2 c.eval-r.ensures.does in
    λ n. going-after c.args.scope.now.rule c.requires.standing c.requires.e_bound c.requires.going_2 c.eval-r.ensures.does n c.size-count.ensures c.mark_if.ensures
