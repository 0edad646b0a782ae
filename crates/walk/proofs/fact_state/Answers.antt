use mathlib.Core.Path.{◌≡◌, ap, subst, ◌∙◌}
use mathlib.Core.List.{List}
use Prim.Native.Nat.{ℕ}
use native.Mathlib.Omega.{arith}
use lib.ListN.{length, get_or}
use Rattle.program.specs.Ready.{program_for}
use Rattle.program.specs.Read.{fact_for}
use Rattle.normal_form.specs.Search.{Ordinary}
use Rattle.walk.specs.Start.{fact_numbers}
use Rattle.walk.proofs.fact_state.Goals as goal

pub returns-then-count-i : goal.returns-then-count-i
returns-then-count-i c = record { few = omega arith; walks = λ u. absurd (omega arith) }

pub offset_bounds-facts-i : goal.offset_bounds-facts-i
offset_bounds-facts-i c = let l = c.if-count-i.false in let h = c.requires.count_in_bounds in let n = ap length c.rule_facts_at-facts.ensures.is in let f = c.rule_facts_at-facts.ensures.few in omega arith

pub bounds-facts-i : goal.bounds-facts-i
bounds-facts-i c = let l = c.if-count-i.false in let h = c.requires.count_in_bounds in let n = ap length c.rule_facts_at-facts.ensures.is in omega arith

pub is_ordinary-requires : goal.is_ordinary-requires
is_ordinary-requires c = let pre = c.requires in
    let l = c.if-count-i.false in
    let h = pre.count_in_bounds in
    let n = ap length c.rule_facts_at-facts.ensures.is in
    let low = c.rule_facts_at-facts.ensures.within c.args.i (omega arith) in
    record { ready = pre.ready; searched = pre.searched; i_bound = omega arith }

pub returns-then-is_ordinary : goal.returns-then-is_ordinary
returns-then-is_ordinary c = let a = c.args in
    let J = a.job.now in
    let is : c.wide.result ≡ get_or (fact_numbers J a.r) a.i 0 = c.wide.ensures ∙ ap (λ (xs : List ℕ). get_or xs a.i 0) c.rule_facts_at-facts.ensures.is in
    record {
      few = omega arith;
      walks = λ _. (let l = c.if-count-i.false in omega arith, subst (λ (f : ℕ). Ordinary (program_for J) (fact_for J f)) is (c.is_ordinary.ensures c.if-is_ordinary.true));
    }

pub returns : goal.returns
returns c = record { few = omega arith; walks = λ u. absurd (omega arith) }
