-- The eight words that the check of a proof gives.
use Rattle.std.specs.Prelude.{List, ℕ, zero, suc}
use Rattle.model.specs.Program.{Program, Proof}
use Rattle.model.specs.Walk.{claim_at}
use Rattle.model.specs.Height.{height}
use Rattle.model.specs.Answer.{refusal_words}
use Rattle.outcome.specs.Does.{refusal_of}
use Rattle.outcome.specs.declared.Refusal.{Refusal}
use Rattle.answer.specs.Answers.{passed_words}

-- The refusal's words, or where its number is 0 those of the proof that passes.
abbrev pub told_by : ℕ → Refusal → ℕ → Program → List Proof → ℕ → List ℕ
told_by zero r terms prog proofs p = passed_words terms (claim_at proofs p).lhs (claim_at proofs p).rhs (height prog proofs p)
told_by (suc n) r terms prog proofs p = refusal_words (refusal_of r) terms

unfoldable pub told_words : Refusal → ℕ → Program → List Proof → ℕ → List ℕ
told_words r terms prog proofs p = told_by r.number r terms prog proofs p
