-- What the code read, as the laws have it.
use mathlib.Core.Path.{◌≡◌, sym, ap, ◌∙◌}
use mathlib.Core.Logic.{◌⊎◌, inl, inr}
use mathlib.Core.List.Memᴰ
use mathlib.Core.List.{List, ◌++◌, map, Memᴰ}
use Prim.Native.Nat.{ℕ, ◌+◌, ◌-◌, ◌<◌, ◌≤◌}
use native.Mathlib.Omega.{arith}
use lib.Dec.{lit<}
use lib.ListN.{length, get_or, take, length-map}
use lib.Seq.{get_or-drop}
use borrow.Rule.Slice.PartMut.{mid_of, put_mid, same_len_mid}
use Rattle.model.specs.Layout.{sizes_of}
use Rattle.model.specs.Cell.{no_cell}
use Rattle.model.specs.Term.{read_term}
use Rattle.model.specs.Program as program
use Rattle.model.specs.Program.{Binding, Rule, Proof}
use Rattle.model.specs.Decode.{rule_facts, read_bindings}
use Rattle.model.specs.Walk.{claim_at}
use Rattle.model.proofs.Store.{extends-length}
use Rattle.index.specs.declared.Fill.{Fill}
use Rattle.decode.specs.View.{proposition_of}
use Rattle.decode.specs.declared.Proposition.{Proposition}
use Rattle.termdag.specs.Store.{terms_in}
use Rattle.outcome.specs.Does.{Grown}
use Rattle.outcome.specs.declared.Checked.{Checked}
use Rattle.program.specs.Ready.{tables_for, program_for, rule_for}
use Rattle.program.specs.Read.{fact_for}
use Rattle.program.proofs.Laws.{table-long}
use Rattle.program.proofs.Reading.{rule-for}
use Rattle.evaluate.specs.Evaluation.{Sane}
use Rattle.steps.specs.Step.{Prepared, Concludes}
use Rattle.steps.proofs.JobLaws.{second-part}
use Rattle.turns.specs.Walking.{Ground}

-- the claim of the premise
pub claim-by : (proofs : List Proof) {q : Proposition} {m p : ℕ} → proposition_of q ≡ claim_at proofs m → m ≡ p → proposition_of q ≡ claim_at proofs p
claim-by proofs e i = e ∙ ap (claim_at proofs) i

-- how long a rule's facts are
pub facts-long : (J : List ℕ) (r : ℕ) {xs : List ℕ} → xs ≡ rule_facts (get_or (tables_for J).rules r no_cell) → length xs ≡ length (rule_for J r).facts
facts-long J r e = ap length e ∙ sym (length-map (rule_facts (get_or (tables_for J).rules r no_cell)) (fact_for J)) ∙ ap (λ (t : Rule). length t.facts) (sym (rule-for J r))

-- a step's growth
pub conclude-grown : {J : List ℕ} {U k e p ix : List ℕ} {f : Fill} {W : List ℕ} {n : ℕ} {k₁ e₁ p₁ ix₁ : List ℕ} {c : Checked} {memo₁ W₁ : List ℕ}
    → Concludes J U k e p ix f W n k₁ e₁ p₁ ix₁ c memo₁ W₁ → Grown k e p ix f k₁ e₁ p₁ ix₁ c.fill
conclude-grown d = d.grown

-- the substitution's terms are in the store
pub sane-substitution : (S : List ℕ) {J : List ℕ} {F G k e q ix : List ℕ} {f : Fill} {memo W : List ℕ} → Ground J F G k e q ix f memo W → ((b : Binding) → Memᴰ b (read_bindings S) → b.term < (sizes_of J).terms)
    → Sane (program_for J) (read_bindings S ++ read_bindings G) (terms_in k e q f)
sane-substitution S {J} {G = G} {k = k} {e = e} {q = q} {ix = ix} {f = f} g h = record {
  ordered = g.sane.ordered;
  bound = λ b m. go b (Memᴰ.append_cases (read_bindings S) m);
  rows = g.sane.rows;
}
  where
    all_in : (sizes_of J).terms ≤ length (terms_in k e q f)
    all_in =
        let l = extends-length g.terms in
        let n : length (map read_term (tables_for J).terms) ≡ (sizes_of J).terms = length-map (tables_for J).terms read_term ∙ table-long J 0 (lit< tt) in omega arith

    go : (b : Binding) → Memᴰ b (read_bindings S) ⊎ Memᴰ b (read_bindings G) → b.term < length (terms_in k e q f)
    go b (inl m) = let x = h b m in let y = all_in in omega arith
    go b (inr m) = g.sane.bound b m

-- a rule's facts, from their numbers
pub numbers_of : (J : List ℕ) (r : ℕ) {xs : List ℕ} → xs ≡ rule_facts (get_or (tables_for J).rules r no_cell) → map (fact_for J) xs ≡ (rule_for J r).facts
numbers_of J r e = ap (map (fact_for J)) e ∙ ap (λ (t : Rule). t.facts) (sym (rule-for J r))

-- scratch after words of its second part were lent
module _ (W X : List ℕ) (c n : ℕ) (l : length X ≡ length (mid_of c (c + n - c) W)) (h : c + c ≤ length W) (w : n ≤ c) where
  pub part-long : length (put_mid c (c + n - c) W X) ≡ length W
  part-long = same_len_mid c (c + n - c) W X l

  pub part-front : take c (put_mid c (c + n - c) W X) ≡ take c W
  part-front = (second-part c n W h w X l).before

  pub part-back : (i : ℕ) → get_or (put_mid c (c + n - c) W X) (c + c + i) 0 ≡ get_or W (c + c + i) 0
  part-back i =
      sym (get_or-drop (c + c) (put_mid c (c + n - c) W X) i 0)
      ∙ ap (λ (xs : List ℕ). get_or xs i 0) (second-part c n W h w X l).behind
      ∙ get_or-drop (c + c) W i 0

-- what a step is handed
pub step-prepared : {J : List ℕ} {F G k e q ix : List ℕ} {f : Fill} {memo W : List ℕ} → Ground J F G k e q ix f memo W → Prepared J F k e q ix f memo W
step-prepared g = record {
  ready = g.ready;
  keyed = g.keyed;
  indexed = g.indexed;
  sane = record { ordered = g.sane.ordered; bound = λ b m. absurd (Memᴰ.not-nil m); rows = g.sane.rows };
  terms = record { extends = g.terms };
  fits = g.fits;
  past = g.past;
  long = let x = g.long in omega arith;
}
