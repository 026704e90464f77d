use Rattle.std.proofs.Common.{◌≡◌, ◌+◌, ◌≤◌, ◌∙◌, length, drop, suc, get_or, ap, add-one, arith}
use Rattle.std.specs.Prelude.{sum_by}
use Rattle.std.proofs.lemmas.List.{drop_more}
use Rattle.std.proofs.lemmas.List.Sums.{sum_by-cons}
use Rattle.shapers_buffer.specs.Syllables.{span_bytes, span_byte}
use Rattle.shapers_buffer.specs.declared.buffer.syllables.Span.{Span}
use Rattle.shapers_buffer.proofs.SyllableLemmas.{bytes_next}
use Rattle.shapers_buffer.proofs.buffer.syllables.set_bytes.Goals as goal

pub loop-i-preserved : goal.loop-i-preserved
loop-i-preserved c =
    let none : Span = record { len = 0; kind = 0 } in
    let span = get_or c.args.spans.now c.loop-i.i none in
    let rest = drop (c.loop-i.i + 1) c.args.spans.now in
    let more = drop_more c.args.spans.now c.loop-i.i none c.loop-i-test.true in
    let total : sum_by (λ (s : Span). s.len) (drop c.loop-i.i c.args.spans.now)
    ≡ span.len + sum_by (λ (s : Span). s.len) rest = rw more (sum_by-cons (λ (s : Span). s.len) span rest) in
    let room : c.loop-i.start + span.len ≤ length c.loop-i.glyphs = omega arith in
    record {
      written = rw (
        c.set_syllable_in.ensures,
        ap (λ n. span_bytes n rest) (add-one c.loop-i.i),
      ) (
          bytes_next c.loop-i.glyphs c.loop-i.start span.len (span_byte c.loop-i.i span)
          (span_bytes (suc c.loop-i.i) rest) room ∙ rw more at c.loop-i.invariant.written);
      room = omega arith;
    }
