-- Which glyphs lookups flag as places where a text can't be cut.
use Rattle.std.specs.Prelude.{ℕ, ◌-◌, ◌&&◌, min, nat_le, length, if◌then◌else◌}
use Rattle.shapers_buffer.specs.Glyphs.{Glyphs}
use Rattle.shapers_buffer.specs.GlyphFlags.{unsafe_inside}
use Rattle.opentype_layout.specs.Looking.{is_short}

-- No break inside the stretch from a place up to another one, as far as the text goes (HarfBuzz,
-- `unsafe_to_break`), of a text that had so many glyphs.
unfoldable pub unbroken : ℕ → ℕ → ℕ → Glyphs → Glyphs
unbroken old_len start stop gs =
    let end = min (length gs) stop in
    if nat_le start end && is_short (end - start) old_len (length gs)
    then unsafe_inside start end gs else gs
