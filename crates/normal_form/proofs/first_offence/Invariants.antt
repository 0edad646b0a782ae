use mathlib.Core.Path.{◌≡◌}
use Rattle.model.specs.Fact.{offence}
use Rattle.decode.specs.View.{head_of}
use Rattle.program.specs.Ready.{program_for}
use Rattle.program.specs.Read.{expr_for}
use Rattle.normal_form.proofs.Laws.{rest}
use Rattle.normal_form.proofs.first_offence.Given as goal

abbrev pub invariant-loop-j : goal.invariant-loop-j
invariant-loop-j l = (rest l.job (head_of l.h) l.args l.j-index ≡ offence (expr_for l.job l.e) (program_for l.job))
