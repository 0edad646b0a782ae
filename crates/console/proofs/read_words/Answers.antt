use Rattle.std.proofs.Common.{◌-◌, length, drop, sym, ap, ◌∙◌, subst, rules, arith, take_all}
use lib.ListN.{length-drop}
use lib.Seq.{drop-drop}
use Rattle.console.specs.Words.{GivesWords}
use Rattle.console.proofs.Reading.{take-part, drop-part, gives-more}
use Rattle.console.proofs.read_words.Goals as goal

pub loop-words-preserved : goal.loop-words-preserved
loop-words-preserved g c =
    let at = c.loop-words.at in
    let ws = c.loop-words.words in
    let ys = c.read_some.new.words in
    let k = length ws - at in
    let v = c.loop-words.invariant in
    let n = c.in_ok-got.got in
    let e = c.in_ok-got.ensures in
    let t = take-part at k ws ys v.0 n e.count in
    let d = drop-part at k ws ys v.0 n (omega arith) in
    let all = take_all k (drop at ws) (omega (arith, length-drop at ws)) in (
      search rules,
      subst (GivesWords _ _) (sym t) (gives-more _ _ _ _ _ v.1 e.words),
      d ∙ e.rest ∙ ap (drop n) (all ∙ v.2) ∙ drop-drop n at c.args.words.now,
    )
