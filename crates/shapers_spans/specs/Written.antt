-- Syllables found and written in one pass.
use Rattle.std.specs.Prelude.{◌≡◌, List}
use Rattle.shapers_buffer.specs.Glyphs.{Glyphs}
use Rattle.shapers_buffer.specs.declared.buffer.syllables.Span.{Span}
use Rattle.shapers_buffer.specs.Syllables.{span_bytes, with_bytes}
use Rattle.shapers_spans.specs.Grammar.{Grammar}
use Rattle.shapers_spans.specs.Cuts.{AreSpansOf}

-- The glyphs have the syllable bytes of a grammar's spans.
pub record AreInSyllables (g : Grammar) (old new : Glyphs) : Type 0 where
  pub spans : List Span
  pub found : AreSpansOf g old spans
  pub bytes : new ≡ with_bytes old (span_bytes 0 spans)
