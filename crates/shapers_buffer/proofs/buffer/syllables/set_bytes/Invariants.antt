use Rattle.std.proofs.Common.{◌≡◌, ◌+◌, ◌++◌, length, take, drop}
use Rattle.std.specs.Prelude.{sum_by}
use Rattle.shapers_buffer.specs.Syllables.{with_bytes, span_bytes}
use Rattle.shapers_buffer.proofs.buffer.syllables.set_bytes.Given as goal

abbrev pub invariant-loop-i : goal.invariant-loop-i
invariant-loop-i l = record {
  written : take l.start l.glyphs ++ with_bytes (drop l.start l.glyphs) (span_bytes l.i (drop l.i l.spans))
      ≡ with_bytes l.initial.glyphs (span_bytes 0 l.spans);
  room : l.start + sum_by (λ span. span.len) (drop l.i l.spans) ≡ length l.initial.glyphs;
}
