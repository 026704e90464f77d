-- The tiles behind this place are laid, and those before it can be: the writer is no further than the reader.
use Rattle.std.proofs.Common.{◌≡◌, length}
use Rattle.std.specs.List.{zip}
use Rattle.shapers_stretch.specs.CountingWalk.{IsNumber}
use Rattle.shapers_stretch.proofs.TileWalk.{TilesLeft}
use Rattle.shapers_stretch.proofs.ot_shaper_arabic_stretch.tiles.TileLaying.lay_tiles.Given as goal

abbrev pub invariant-loop-i : goal.invariant-loop-i
invariant-loop-i g l = record {
  same_length : length l.glyphs ≡ length l.initial.glyphs;
  near : IsNumber l.pen.at;
  walk : TilesLeft l.self.right_to_left (g.F.hb_font_t.font l.self.font.now) l.lay l.fn.tiles.start l.fn.tiles.end l.i
      l.fn.pen l.pen (zip l.initial.glyphs l.initial.positions) l.glyphs l.positions;
}
