-- A normalized text in the font of two single substitutions, up to the last stage of its lookups.
use Rattle.std.specs.Prelude.{◌≡◌, true, List, [], length, map}
use Rattle.shapers_buffer.specs.Buffer.{Buffer}
use Rattle.shapers_buffer.specs.Glyphs.{Glyph, Glyphs}
use Rattle.shapers_buffer.specs.LookupRecords.{record_for}
use Rattle.shapers_buffer.specs.declared.buffer.lig_props.LigProps.{LigProps}
use Rattle.shapers_break_laws.specs.Pieces.{BreaksWhereCleared}
use Rattle.shapers_editing.specs.PipelineBreaks.{AreAsIn, CutBufferWhereClear, Numbering}
use Rattle.shapers_pipeline.specs.Lookups.{with_note}
use Rattle.shapers_pipeline.specs.Masks.{as_glyph}
use Rattle.opentype_font.specs.Lookups.{noted_by, substituted_by}
use Rattle.opentype_break_laws.specs.TwoSingles.{first_lookup, two_singles}

-- Each character becomes its glyph, which normalization kept beside it, with its class in a font
-- without GDEF; and the record of the text's lookups begins.
abbrev pub glyph_mapped : Glyph → Glyph
glyph_mapped g = with_note (noted_by []) (as_glyph g)

abbrev pub text_mapped : Buffer → Buffer
text_mapped b = record b {
  glyphs = map glyph_mapped b.glyphs;
  lookups = record_for (length b.glyphs);
}

-- what the font's lookup makes of these
abbrev pub normalized_put : Buffer → Buffer
normalized_put b = substituted_by [] two_singles first_lookup (text_mapped b)

-- glyphs that came of a normalized text, at each clear place those that come of its halves by
-- themselves
abbrev pub IsPutInHalves : Buffer → Glyphs → Type 0
IsPutInHalves old made = (numbered : Numbering) →
    ((list : List LigProps) → numbered list list ≡ true) →
    BreaksWhereCleared Buffer CutBufferWhereClear
    (λ piece part. AreAsIn numbered part (normalized_put piece).glyphs) old made
