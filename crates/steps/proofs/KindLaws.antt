-- Steps that add no term, by their justification.
use mathlib.Core.Path.{◌≡◌, refl, sym, ap, ap₂, ◌∙◌}
use mathlib.Core.Bool.{true, true≢false}
use mathlib.Core.List.{List, [], ◌∷◌}
use Prim.Native.Nat.{ℕ}
use types.Run.{OneOf, miss}
use denote.Enum.Declared.{tag_of}
use Rattle.model.specs.Term.{Term}
use Rattle.model.specs.Program as program
use Rattle.model.specs.Program.{Program}
use Rattle.model.specs.Check.{Room}
use Rattle.model.specs.Walk.{claim_at}
use Rattle.decode.specs.View.{justification_of}
use Rattle.decode.specs.declared.Proposition.{Proposition}
use Rattle.decode.specs.declared.Justification.{Justification}
use Rattle.decode.specs.contracts.Justification.{the_type}
use Rattle.outcome.specs.Does.{refusal, outcome_of}
use Rattle.outcome.specs.declared.Refusal.{Refusal}
use Rattle.program.specs.Ready.{program_for}
use Rattle.program.specs.Read.{proofs_for, premises_for, pairs_for}
use Rattle.context.specs.Contexts.{GlobalPairs}
use Rattle.steps.specs.Concluding.{trans_step, sym_step, fiat_step, normalize_step, concludes}
use Rattle.steps.specs.Step.{is_plain, PlainStep}

-- steps that add no term
module _ (J : List ℕ) (U m : List ℕ) (s : List Term) (p : ℕ) (q : program.Proposition) (j : Justification) (r : Refusal) where
  abbrev prog : Program
  prog = program_for J

  abbrev proofs : List program.Proof
  proofs = proofs_for J

  abbrev just : Justification → program.Justification
  just g = justification_of g (premises_for J p) (pairs_for J p)

  by : (g : Justification) → j ≡ g → ((room : Room) (ps : List program.Proposition) → GlobalPairs ps U m → outcome_of r tt s ≡ concludes room prog proofs ps p q (just g) s) → PlainStep J U m s p q j r
  by g e h = record { outcome = λ room ps w _. h room ps w ∙ ap (λ (x : Justification). concludes room prog proofs ps p q (just x) s) (sym e) }

  pub step-fiat : j ≡ Justification.Fiat → ((ps : List program.Proposition) → GlobalPairs ps U m → outcome_of r tt s ≡ fiat_step ps p q s) → PlainStep J U m s p q j r
  unfolding concludes
  step-fiat e h = by Justification.Fiat e (λ room ps w. h ps w)

  pub step-trans : {x y : ℕ} (a b : program.Proposition) → j ≡ Justification.Trans x y → a ≡ claim_at proofs x → b ≡ claim_at proofs y
      → ((u : List Term) → outcome_of r tt u ≡ trans_step p q a b u) → PlainStep J U m s p q j r
  unfolding concludes
  step-trans {x} {y} a b e g k h = by (Justification.Trans x y) e (λ room ps w. h s ∙ ap₂ (λ (c d : program.Proposition). trans_step p q c d s) g k)

  pub step-sym : {x : ℕ} (a : program.Proposition) → j ≡ Justification.Sym x → a ≡ claim_at proofs x → ((u : List Term) → outcome_of r tt u ≡ sym_step p q a u) → PlainStep J U m s p q j r
  unfolding concludes
  step-sym {x} a e g h = by (Justification.Sym x) e (λ room ps w. h s ∙ ap (λ (c : program.Proposition). sym_step p q c s) g)

  pub step-normalize : {x : ℕ} (a : program.Proposition) → j ≡ Justification.ContainerNormalize x → a ≡ claim_at proofs x → ((room : Room) → outcome_of r tt s ≡ normalize_step room prog p q a s) → PlainStep J U m s p q j r
  unfolding concludes
  step-normalize {x} a e g h = by (Justification.ContainerNormalize x) e (λ room ps w. h room ∙ ap (λ (c : program.Proposition). normalize_step room prog p q c s) g)

  -- the other arm: a rule's step or `Eval`, or a step that adds a term
  pub step-none : OneOf (1 ∷ 2 ∷ 5 ∷ 7 ∷ []) (tag_of the_type j) → r ≡ refusal 41 1 (p ∷ 0 ∷ 0 ∷ 0 ∷ 0 ∷ 0 ∷ []) → PlainStep J U m s p q j r
  unfolding concludes
  step-none h e = record { outcome = λ room ps w t. ap (λ (x : Refusal). outcome_of x tt s) e ∙ go j h t room ps }
    where
      go : (g : Justification) → OneOf (1 ∷ 2 ∷ 5 ∷ 7 ∷ []) (tag_of the_type g) → is_plain g ≡ true → (room : Room) (ps : List program.Proposition)
          → outcome_of (refusal 41 1 (p ∷ 0 ∷ 0 ∷ 0 ∷ 0 ∷ 0 ∷ [])) tt s ≡ concludes room prog proofs ps p q (just g) s
      go Justification.Fiat k t room ps = absurd (miss (1 ∷ 2 ∷ 5 ∷ 7 ∷ []) 0 tt k)
      go (Justification.Rule x) k t room ps = refl
      go (Justification.MergeFn x) k t room ps = absurd (true≢false (sym t))
      go (Justification.Trans a b) k t room ps = absurd (miss (1 ∷ 2 ∷ 5 ∷ 7 ∷ []) 3 tt k)
      go (Justification.Sym a) k t room ps = absurd (miss (1 ∷ 2 ∷ 5 ∷ 7 ∷ []) 4 tt k)
      go (Justification.Congr x) k t room ps = absurd (true≢false (sym t))
      go (Justification.ContainerNormalize a) k t room ps = absurd (miss (1 ∷ 2 ∷ 5 ∷ 7 ∷ []) 6 tt k)
      go Justification.Eval k t room ps = refl
