use Rattle.std.proofs.Common.{◌≡◌, ◌≤◌, ◌++◌, true, length, take, drop}
use Rattle.shapers_syllabic.specs.Syllabic.{unsafe_spans, unsafe_syllables}
use Rattle.shapers_buffer.specs.Syllables.{span_bytes, spans_cover, with_bytes}
use Rattle.shapers_syllabic.proofs.ot_shaper_syllabic.setup.setup_spans.Given as goal

abbrev pub invariant-loop-i : goal.invariant-loop-i
invariant-loop-i l = record {
  done : take l.start l.glyphs
      ++ unsafe_syllables (with_bytes (drop l.start l.glyphs) (span_bytes l.i (drop l.i l.spans)))
      ≡ unsafe_spans l.spans l.initial.glyphs;
  covered : spans_cover (length (drop l.start l.glyphs)) (drop l.i l.spans) ≡ true;
  inside : l.start ≤ length l.glyphs;
}
