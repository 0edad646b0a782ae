use mathlib.Core.Path.{sym, ap, ◌∙◌}
use Rattle.model.specs.Layout.{sizes_of}
use Rattle.model.specs.Decode.{read_primitive}
use Rattle.model.specs.Evaluate.{primitive_at}
use Rattle.program.specs.Ready.{tables_for}
use Rattle.program.proofs.Words.{cell-read}
use Rattle.program.proofs.Laws.{primitives-read, primitive-look, primitive-words}
use Rattle.program.proofs.primitive_at.Goals as goal

pub read_primitive-requires : goal.read_primitive-requires
read_primitive-requires c = primitive-words c.requires.ready c.args.p c.words_at.ensures c.requires.p_bound

pub returns : goal.returns
returns c = let a = c.args in
    let J = a.job.now in
    c.read_primitive.ensures ∙ ap read_primitive (cell-read _ c.kind_at.ensures c.words_at.ensures)
    ∙ sym (ap (λ ps. primitive_at ps a.p) (primitives-read (sizes_of J).globals (tables_for J)) ∙ primitive-look (tables_for J).primitives a.p)
