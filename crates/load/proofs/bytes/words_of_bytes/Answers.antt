use mathlib.Core.Path.{◌≡◌, sym, ap, ap₂, ◌∙◌}
use mathlib.Core.List.{List}
use Prim.Native.Nat.{ℕ}
use native.Mathlib.Omega.{arith}
use lib.ListN.{length, drop, set, length-set, length-append}
use lib.Seq.{paste}
use Rattle.cells.proofs.Appending.{put-paste}
use Rattle.model.specs.Host.{words_of}
use Rattle.load.proofs.ByteLaws.{words_count, next-rest, next-word}
use Rattle.load.proofs.bytes.words_of_bytes.Goals as goal

pub loop-i-preserved : goal.loop-i-preserved
loop-i-preserved c = let a = c.args in
    let bs = a.bytes.now in
    let d = a.words.now in
    let l = c.loop-i in
    let I = l.invariant in
    let s = c.in-Some.ensures.steps in
    let k = l.i-iterator.count in
    let four = s.0.1.1 ∙ I.four in
    let long = simp length-append at (ap length s.0.1.0) in
    record {
      four = s.0.0 ∙ I.four;
      left = omega (arith, long, four, I.left, s.2);
      rest = ap (λ (n : ℕ). drop n (words_of bs)) s.2 ∙ next-rest bs _ c.in-Some.four.now _ k c.from_le_bytes.result I.rest s.0.1.0 four c.from_le_bytes.ensures;
      words = ap₂ (λ (x : List ℕ) (n : ℕ). set x n c.from_le_bytes.result) I.words s.1
          ∙ next-word bs _ c.in-Some.four.now _ k c.from_le_bytes.result I.rest s.0.1.0 four c.from_le_bytes.ensures d (omega (arith, long, four, I.left, c.requires))
          ∙ ap (paste d 0 (words_of bs)) (sym s.2);
      long = length-set l.words c.in-Some.i c.from_le_bytes.result ∙ I.long;
    }

pub returns-clause-count : goal.returns-clause-count
returns-clause-count c = words_count c.args.bytes.now

pub returns-clause-words : goal.returns-clause-words
returns-clause-words c = let a = c.args in
    let ws = words_of a.bytes.now in
    let I = c.loop-i.invariant in
    let s = c.in-None.ensures.steps in
    let e : c.loop-i.i-iterator.count ≡ length ws = omega (arith, words_count a.bytes.now, I.left, I.four, s.0.1.0) in
    I.words ∙ ap (paste a.words.now 0 ws) e ∙ put-paste a.words.now 0 ws
