use Rattle.std.proofs.Common.{◌+◌, ◌≤◌, ◌∷◌, ◌∙◌, length, drop, get_or, ap, sym, add-one, arith}
use Rattle.std.specs.Prelude.{All}
use Rattle.std.proofs.lemmas.List.{drop_more}
use Rattle.std.proofs.lemmas.List.Elements.{All-drop, All-same}
use Rattle.shapers_buffer.specs.Syllables.{span_bytes, spans_cover}
use Rattle.shapers_buffer.specs.declared.buffer.syllables.Span.{Span}
use Rattle.shapers_syllabic.proofs.SyllabicLemmas.{setup_next}
use Rattle.shapers_syllabic.proofs.ot_shaper_syllabic.setup.setup_spans.Goals as goal

pub loop-i-preserved : goal.loop-i-preserved
loop-i-preserved c =
    let none : Span = record { len = 0; kind = 0 } in
    let i = c.loop-i.i in
    let gs = c.loop-i.glyphs in
    let spans = c.args.spans.now in
    let span = get_or spans i none in
    let rest = drop (i + 1) spans in
    let more = drop_more spans i none c.loop-i-test.true in
    let kind : Span → Type 0 = λ s. s.kind ≤ 15 in
    let kinds : All kind (span ∷ rest) =
    All-same kind (span ∷ rest) (drop i spans) (sym more) (All-drop kind i spans c.requires.kinds) in
    let step = setup_next i span rest gs c.loop-i.start (c.loop-i.start + span.len) (omega arith)
    c.loop-i.invariant.inside kinds
    (ap (spans_cover (length (drop c.loop-i.start gs))) (sym more) ∙ c.loop-i.invariant.covered) in
    rw c.setup_span_in.ensures (record {
      done = rw (ap (λ n. span_bytes n rest) (add-one i)) (step.done ∙ rw more at c.loop-i.invariant.done);
      covered = step.covered;
      inside = step.inside;
    })
