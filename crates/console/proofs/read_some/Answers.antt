use Rattle.std.proofs.Common.{◌≡◌, List, ℕ, length, take, drop, sym, ap, ◌∙◌, subst, arith}
use lib.Seq.{length-take-le}
use Rattle.model.specs.Host.{words_of}
use Rattle.load.proofs.ByteLaws.{words-most}
use Rattle.console.specs.Words.{GivesWords}
use Rattle.console.proofs.Reading.{put-front, put-behind, gives-read}
use Rattle.console.proofs.read_some.Goals as goal

pub returns-clause-words : goal.returns-clause-words
returns-clause-words g c =
    let e = c.in_ok-n.ensures in
    let w = c.words_of_bytes in
    let bs = take c.in_ok-n.n c.read_full.new.bytes in
    let l : length bs ≡ c.in_ok-n.n = length-take-le c.in_ok-n.n c.read_full.new.bytes e.count in
    let q = ap (take w.result) w.ensures.words ∙ put-front c.args.words.now (words_of bs) w.result w.ensures.count in
    subst (GivesWords _ _) (sym q) (gives-read _ _ bs (omega arith) e.bytes (λ h. e.end (omega arith)))

pub returns-clause-end : goal.returns-clause-end
returns-clause-end g c =
    let e = c.in_ok-n.ensures in
    let w = c.words_of_bytes.ensures in
    let bs = take c.in_ok-n.n c.read_full.new.bytes in
    let l : length bs ≡ c.in_ok-n.n = length-take-le c.in_ok-n.n c.read_full.new.bytes e.count in
    λ z. e.end (omega (arith, words-most bs, w.count))

pub returns-clause-rest : goal.returns-clause-rest
returns-clause-rest g c =
    let w = c.words_of_bytes in
    let bs = take c.in_ok-n.n c.read_full.new.bytes in
    ap (λ (l : List ℕ). drop w.result l) w.ensures.words ∙ put-behind c.args.words.now (words_of bs) w.result w.ensures.count
