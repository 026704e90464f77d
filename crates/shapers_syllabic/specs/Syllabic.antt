-- What the shapers of syllabic scripts do to the whole text.
use Rattle.std.specs.Prelude.{ℕ, ◌==◌, ◌||◌, List, map}
use Rattle.std.specs.List.{flat_map, list_any}
use Rattle.shapers_buffer.specs.Glyphs.{Glyph, Glyphs}
use Rattle.shapers_buffer.specs.declared.buffer.syllables.Span.{Span}
use Rattle.shapers_buffer.specs.Buffer.{Buffer}
use Rattle.shapers_buffer.specs.GlyphFlags.{flagged}
use Rattle.shapers_buffer.specs.Properties.{SUBSTITUTED, without_mark}
use Rattle.shapers_buffer.specs.Syllables.{kind_of, syllables, in_syllable, span_bytes, with_bytes}

-- the glyphs with the inside of each syllable unsafe to break and to concatenate
abbrev pub unsafe_syllables : Glyphs → Glyphs
unsafe_syllables gs = flat_map (flagged 3) (syllables gs)

-- so for the buffer
abbrev pub with_unsafe_syllables : Buffer → Buffer
with_unsafe_syllables b = record b { glyphs = unsafe_syllables b.glyphs }

-- the buffer set up by the syllable bytes that it has: with a syllable of the broken kind, it is
-- marked
abbrev pub setup_by_bytes : ℕ → Buffer → Buffer
setup_by_bytes kind b = record b {
  glyphs = unsafe_syllables b.glyphs;
  broken = b.broken || list_any (λ g. kind_of g.syllable == kind) b.glyphs;
}

-- the glyphs cut into these spans, with the inside of each syllable unsafe
abbrev pub unsafe_spans : List Span → Glyphs → Glyphs
unsafe_spans spans gs = unsafe_syllables (with_bytes gs (span_bytes 0 spans))

-- the glyphs as one syllable of this byte, its inside unsafe
abbrev pub in_unsafe_syllable : ℕ → Glyphs → Glyphs
in_unsafe_syllable byte gs = flagged 3 (map (in_syllable byte) gs)

-- the glyph without the mark that a lookup substituted it
abbrev pub unsubstituted : Glyph → Glyph
unsubstituted g = record g { glyph_props = without_mark SUBSTITUTED g.glyph_props }
