-- The metrics of a font that positions read besides horizontal advances.
use Rattle.std.specs.Prelude.{ℕ, ℤ, pos, neg_ℤ, Bool, if◌then◌else◌}
use Rattle.shapers_base.specs.Font.{Font}
use Rattle.shapers_base.specs.declared.font.GlyphId.{GlyphId}

-- How many units the em has; of each glyph the advance in vertical text, which is below 0 where the
-- pen moves down; and where its origin for vertical text lies, seen from that for horizontal text.
pub record Metrics : Type 0 where
  pub em : ℕ
  pub v_advance : GlyphId → ℤ
  pub v_origin : GlyphId → ℤ × ℤ

-- the advance of a glyph along a line, which is horizontal or not
abbrev pub line_advance : Font → Metrics → Bool → GlyphId → ℤ
line_advance font metrics horizontal glyph =
    if horizontal then font.advance glyph else metrics.v_advance glyph

-- an advance of so many units along a line: to the right, or down
abbrev pub along_line : Bool → ℕ → ℤ
along_line horizontal n = if horizontal then pos n else neg_ℤ (pos n)
