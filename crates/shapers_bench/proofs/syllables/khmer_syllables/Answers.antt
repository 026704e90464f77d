use Rattle.std.proofs.lemmas.Result.{IfOk-weaker}
use Rattle.shapers_spans.specs.Khmer.{khmer_grammar}
use Rattle.shapers_syllabic.specs.Syllabic.{unsafe_spans}
use Rattle.shapers_bench.proofs.syllables.khmer_syllables.Goals as goal

pub returns-clause-known : goal.returns-clause-known
returns-clause-known c = IfOk-weaker c.spans_of.result _ _
    (λ spans are. (c.found_kinds_law.ensures.khmer c.args.glyphs.now spans.items are).0) c.spans_of.ensures.spans

-- none has two, so none opens with two, and the set-up keeps it so
pub returns-clause-rephas : goal.returns-clause-rephas
returns-clause-rephas c =
    let law = c.found_rephas_law.ensures in
    IfOk-weaker c.spans_of.result _ _
    (λ spans are. law.opens 14 (unsafe_spans spans.items c.args.glyphs.now)
    (law.set_up khmer_grammar 14 law.khmer c.args.glyphs.now spans.items are)) c.spans_of.ensures.spans
