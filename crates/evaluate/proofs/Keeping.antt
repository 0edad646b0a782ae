-- A sane store stays sane as it grows, and with one more binding.
use mathlib.Core.Path.{◌≡◌, sym, subst}
use mathlib.Core.Logic.{◌⊎◌, inl, inr}
use mathlib.Core.List.Memᴰ
use mathlib.Core.List.{List, ◌∷◌, Memᴰ}
use Prim.Native.Nat.{ℕ, ◌<◌, ◌≤◌}
use native.Mathlib.Omega.{arith}
use lib.ListN.{length}
use Rattle.model.specs.Term.{Term, Extends, Ordered}
use Rattle.model.specs.Program.{Binding, Program}
use Rattle.model.proofs.Store.{extends-length}
use Rattle.evaluate.specs.Evaluation.{Sane}

-- where a value leads
abbrev pub Inside : Program → List Binding → List Term → ℕ → List Term → Type 0
Inside prog σ s t s' = Extends s s' × Sane prog σ s' × (t < length s')

-- a larger store
pub sane-grows : {prog : Program} {σ : List Binding} {s s' : List Term} → Extends s s' → Ordered s' → Sane prog σ s → Sane prog σ s'
sane-grows {prog} {σ} {s} {s'} x o w = let l : length s ≤ length s' = extends-length x in record {
  ordered = o;
  bound = λ b m. let h = w.bound b m in omega arith;
  rows = λ r m. let h = w.rows r m in omega arith;
}

-- one more binding
pub sane-bind : {prog : Program} {σ : List Binding} {s : List Term} (x t : ℕ) → t < length s → Sane prog σ s → Sane prog (record { name = x; term = t } ∷ σ) s
sane-bind {prog} {σ} {s} x t h w = record {
  ordered = w.ordered;
  bound = λ b m. go b (Memᴰ.cases_cons m);
  rows = w.rows;
}
  where
    go : (b : Binding) → (b ≡ record { name = x; term = t }) ⊎ Memᴰ b σ → b.term < length s
    go b (inl e) = subst (λ (c : Binding). c.term < length s) (sym e) h
    go b (inr m) = w.bound b m
