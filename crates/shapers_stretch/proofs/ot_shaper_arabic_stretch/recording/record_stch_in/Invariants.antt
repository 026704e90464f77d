-- The glyphs that are done, and what becomes of the rest; whether there was a tile, or will be.
use Rattle.std.proofs.Common.{◌≡◌, ◌++◌, ◌||◌, map, take, drop}
use Rattle.std.specs.List.{list_any}
use Rattle.shapers_buffer.specs.Properties.{is_multiplied}
use Rattle.shapers_stretch.specs.Recorded.{recorded}
use Rattle.shapers_stretch.proofs.ot_shaper_arabic_stretch.recording.record_stch_in.Given as goal

abbrev pub invariant-loop-glyph : goal.invariant-loop-glyph
invariant-loop-glyph l = record {
  glyphs : take l.glyph-index l.glyphs ++ map recorded (drop l.glyph-index l.glyphs) ≡ map recorded l.initial.glyphs;
  found : (l.has_stch || list_any (λ g. is_multiplied g.glyph_props) (drop l.glyph-index l.glyphs))
      ≡ list_any (λ g. is_multiplied g.glyph_props) l.initial.glyphs;
}
