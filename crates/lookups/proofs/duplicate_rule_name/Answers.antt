use mathlib.Core.Path.{◌≡◌, sym, ap, ◌∙◌}
use mathlib.Core.List.{[]}
use mathlib.Core.Option.{some}
use native.Mathlib.Omega.{arith}
use lib.ListN.{get_or}
use Rattle.model.specs.Cell.{no_cell}
use Rattle.model.specs.Layout.{sizes_of}
use Rattle.model.specs.Program.{bare, idle}
use Rattle.model.specs.Decode.{word, expr_of}
use Rattle.model.specs.Walk.{duplicate_rule_name}
use Rattle.program.specs.Ready.{tables_for}
use Rattle.program.proofs.Laws.{rules-read, rule-words}
use Rattle.lookups.proofs.Keys.{differing-none, differing-again}
use Rattle.lookups.proofs.duplicate_rule_name.Goals as goal

pub returns-then-count-lt-FEW : goal.returns-then-count-lt-FEW
returns-then-count-lt-FEW c = c.scan_rule_names.ensures

pub differing_rules-i-requires : goal.differing_rules-i-requires
differing_rules-i-requires c = record { held = c.requires.ready.held; chained_table = c.requires.keyed.rules; bound = omega (arith, c.if-count-lt-FEW.false, c.size-count.ensures) }

pub words_at-requires : goal.words_at-requires
words_at-requires c = record { held = c.requires.ready.held; i_bound = omega (arith, c.if-i-count.true, c.size-count.ensures) }

pub rule_name-requires : goal.rule_name-requires
rule_name-requires c = rule-words c.requires.ready c.differing_rules-i.result c.words_at.ensures (omega (arith, c.if-i-count.true, c.size-count.ensures))

pub returns-then-i-count : goal.returns-then-i-count
returns-then-i-count c = let J = c.args.job.now in
    let i = c.differing_rules-i.result in
    let name : c.rule_name.result ≡ word (get_or (tables_for J).rules i no_cell) 0 = c.rule_name.ensures (λ i. bare i (expr_of [] 0)) (λ i. idle) ∙ ap (λ us. get_or us 0 0) c.words_at.ensures in
    ap some name ∙ differing-again J c.differing_rules-i.ensures _ _ (omega (arith, c.if-i-count.true, c.size-count.ensures)) ∙ sym (ap (duplicate_rule_name []) (rules-read (sizes_of J).globals (tables_for J)))

pub returns : goal.returns
returns c = let J = c.args.job.now in
    differing-none J c.differing_rules-i.ensures _ _ (omega (arith, c.if-i-count.false, c.size-count.ensures)) ∙ sym (ap (duplicate_rule_name []) (rules-read (sizes_of J).globals (tables_for J)))
