use mathlib.Core.Path.{◌≡◌, sym, ap, ◌∙◌}
use mathlib.Core.List.{[]}
use mathlib.Core.Option.{some}
use native.Mathlib.Omega.{arith}
use lib.Dec.{lit<}
use lib.ListN.{get_or, take}
use Rattle.model.specs.Cell.{no_cell}
use Rattle.model.specs.Layout.{sizes_of}
use Rattle.model.specs.Program.{bare, idle}
use Rattle.model.specs.Decode.{word, expr_of}
use Rattle.model.specs.Walk.{duplicate_rule_name}
use Rattle.program.specs.Ready.{tables_for, first_named}
use Rattle.program.proofs.Laws.{table-long, rule-words, rules-read}
use Rattle.lookups.proofs.Laws.{seen, duplicate-yes, duplicate-no, duplicate-end}
use Rattle.lookups.proofs.scan_rule_names.Goals as goal

pub loop-i-init : goal.loop-i-init
unfolding seen
loop-i-init c = let J = c.args.job.now in
    ap (duplicate_rule_name []) (rules-read (sizes_of J).globals (tables_for J))

pub rule_name-name-requires : goal.rule_name-name-requires
rule_name-name-requires c = rule-words c.requires c.loop-i.i c.words_at.ensures (omega (arith, c.size-count.ensures))

pub returns-in-Some : goal.returns-in-Some
returns-in-Some c = let J = c.args.job.now in
    let t = (tables_for J).rules in
    let long = table-long J 8 (lit< tt) in
    let l = c.loop-i in
    let name : c.rule_name-name.result ≡ word (get_or t l.i no_cell) 0 = c.rule_name-name.ensures (λ i. bare i (expr_of [] 0)) (λ i. idle) ∙ ap (λ us. get_or us 0 0) c.words_at.ensures in
    let named = c.first_named-seen.ensures.is ∙ ap (first_named (take l.i t)) name in
    ap some name ∙ duplicate-yes _ _ t l.i (omega (arith, c.size-count.ensures)) c.in-Some.field-0 (sym c.in-Some.is ∙ named) ∙ sym l.invariant

pub loop-i-preserved : goal.loop-i-preserved
loop-i-preserved c = let J = c.args.job.now in
    let t = (tables_for J).rules in
    let long = table-long J 8 (lit< tt) in
    let l = c.loop-i in
    let name : c.rule_name-name.result ≡ word (get_or t l.i no_cell) 0 = c.rule_name-name.ensures (λ i. bare i (expr_of [] 0)) (λ i. idle) ∙ ap (λ us. get_or us 0 0) c.words_at.ensures in
    let named = c.first_named-seen.ensures.is ∙ ap (first_named (take l.i t)) name in
    l.invariant ∙ duplicate-no _ _ t l.i (omega (arith, c.size-count.ensures)) (sym c.in_default.is ∙ named)

pub returns : goal.returns
returns c = let J = c.args.job.now in
    let long = table-long J 8 (lit< tt) in
    let l = c.loop-i in
    duplicate-end _ _ (tables_for J).rules l.i (omega (arith, c.size-count.ensures)) ∙ sym l.invariant
