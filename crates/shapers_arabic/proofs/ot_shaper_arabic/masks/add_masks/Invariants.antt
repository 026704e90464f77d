-- The glyphs that are done, and what becomes of the rest.
use Rattle.std.proofs.Common.{◌≡◌, ◌++◌, map, take, drop}
use Rattle.shapers_arabic.specs.JoiningWalk.{HaveMasks}
use Rattle.shapers_base.specs.Masks.{with_numbered_mask}
use Rattle.shapers_arabic.proofs.ot_shaper_arabic.masks.add_masks.Given as goal

abbrev pub invariant-loop-glyph : goal.invariant-loop-glyph
invariant-loop-glyph l = record {
  same : take l.glyph-index l.glyphs ++ map (with_numbered_mask l.masks) (drop l.glyph-index l.glyphs)
      ≡ map (with_numbered_mask l.masks) l.initial.glyphs;
  below : HaveMasks (drop l.glyph-index l.glyphs);
}
