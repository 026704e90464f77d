use Rattle.std.proofs.lemmas.Result.{IfOk-weaker}
use Rattle.shapers_spans.specs.Khmer.{khmer_grammar}
use Rattle.shapers_editing.specs.EditedTexts.{with_edit}
use Rattle.shapers_bench.proofs.EditedWord.{ends-alike, parts-shared}
use Rattle.shapers_bench.proofs.edit.khmer_unaffected.Goals as goal

pub returns-clause-ends : goal.returns-clause-ends
returns-clause-ends c =
    let gs = c.args.text.now in
    let e = c.args.edit.now in
    IfOk-weaker c.affected.result _ _
    (λ left done. ends-alike gs (with_edit e gs) done.old done.new left
    (c.affected_law.ensures.parts khmer_grammar gs e left c.requires.in_order c.requires.in_range done))
    c.affected.ensures.left

pub returns-clause-parts : goal.returns-clause-parts
returns-clause-parts c =
    let gs = c.args.text.now in
    let e = c.args.edit.now in
    IfOk-weaker c.affected.result _ _
    (λ left done. parts-shared c.affected_law.ensures.parts c.span_edits_law.ensures.one khmer_grammar gs e left
    c.requires.in_order c.requires.in_range done)
    c.affected.ensures.left
