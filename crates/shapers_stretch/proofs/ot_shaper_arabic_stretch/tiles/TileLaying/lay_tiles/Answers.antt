use Rattle.std.proofs.Common.{arith, ◌∙◌}
use Rattle.std.specs.List.{zip}
use Rattle.shapers_stretch.proofs.TileWalk.{tile_can, tile_next, tile_number, tiles_start}
use Rattle.shapers_stretch.proofs.ot_shaper_arabic_stretch.tiles.TileLaying.lay_tiles.Goals as goal

pub loop-i-init : goal.loop-i-init
loop-i-init g c =
    let a = c.args in
    let r = c.requires in
    search (tiles_start a.self.now.right_to_left (g.F.hb_font_t.font a.self.now.font.now) a.lay a.tiles.start a.tiles.end
    a.pen a.glyphs.now a.positions.now r.in_order (omega arith) r.can.both r.can r.room)

pub lay_tile-pen-requires-clause-number : goal.lay_tile-pen-requires-clause-number
lay_tile-pen-requires-clause-number g c =
    let a = c.args in
    let l = c.loop-i in
    tile_number a.self.now.right_to_left (g.F.hb_font_t.font a.self.now.font.now) a.lay a.tiles.start a.tiles.end l.i
    a.pen l.pen a.glyphs.now l.glyphs a.positions.now l.positions _ (search) c.loop-i-test.true
    l.invariant.walk c.requires.can.both c.requires.numbers

pub lay_tile-pen-requires-clause-can : goal.lay_tile-pen-requires-clause-can
lay_tile-pen-requires-clause-can g c =
    let a = c.args in
    let l = c.loop-i in
    tile_can a.self.now.right_to_left (g.F.hb_font_t.font a.self.now.font.now) a.lay a.tiles.start a.tiles.end l.i a.pen
    l.pen (zip a.glyphs.now a.positions.now) l.glyphs l.positions _ _ c.loop-i-test.true l.invariant.walk

pub loop-i-preserved : goal.loop-i-preserved
loop-i-preserved g c =
    let a = c.args in
    let l = c.loop-i in
    let n = c.lay_tile-pen.new in
    let e = c.lay_tile-pen.ensures in
    record {
      same_length = e.same_length ∙ l.invariant.same_length;
      near = e.near;
      walk = tile_next a.self.now.right_to_left (g.F.hb_font_t.font a.self.now.font.now) a.lay a.tiles.start a.tiles.end
          l.i a.pen l.pen c.lay_tile-pen.result (zip a.glyphs.now a.positions.now) l.glyphs n.glyphs l.positions
          n.positions _ _ c.loop-i-test.true l.invariant.walk e.lays e.same_length e.both;
    }
