use borrow.Author.Tests.{eq-eqb, ne_eqb}
use mathlib.Core.Path.{sym, ◌∙◌}
use native.Mathlib.Omega.{arith}
use Prim.Native.Nat.{◌+◌, ◌*◌, ◌%◌}
use Rattle.normal_form.proofs.word_of.Goals as goal

pub returns-then-container : goal.returns-then-container
returns-then-container c = let x = c.args.offence in record { half = omega arith; calls = eq-eqb ((2 * x + 1) % 2) 1 (omega arith) ∙ sym c.if-container.true; low = omega arith }

pub returns : goal.returns
returns c = let x = c.args.offence in record { half = omega arith; calls = ne_eqb (2 * x % 2) 1 (λ e. omega arith) ∙ sym c.if-container.false; low = omega arith }
