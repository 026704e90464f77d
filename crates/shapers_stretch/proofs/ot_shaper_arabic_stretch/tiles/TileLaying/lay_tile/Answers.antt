use Rattle.std.proofs.Common.{◌≡◌, ◌∙◌, ◌-ℤ◌, ap, arith, refl, of_z, to_z}
use Rattle.std.specs.List.{zip}
use Rattle.std.proofs.lemmas.Int.{ints, to_z-of_z}
use mir.Syntax.{w64}
use Rattle.shapers_stretch.specs.CountingWalk.{IsNumber}
use Rattle.shapers_stretch.specs.Stretch.{width_of}
use Rattle.shapers_stretch.proofs.LaidCopies.{near_fits, tile_all, tile_more, tile_once}
use Rattle.shapers_stretch.proofs.ot_shaper_arabic_stretch.tiles.TileLaying.lay_tile.Goals as goal

pub lay_copies-pen-requires-clause-can : goal.lay_copies-pen-requires-clause-can
lay_copies-pen-requires-clause-can g c =
    let width : to_z w64 (of_z w64 c.from-width.result) ≡ width_of
    (g.F.hb_font_t.font c.args.self.now.font.now) c.args.tile.glyph =
    to_z-of_z w64 c.from-width.result (record { sfits = c.from-width.type_inv }) ∙ grind arith in
    search arith

pub returns-then-not-repeats-clause-lays : goal.returns-then-not-repeats-clause-lays
returns-then-not-repeats-clause-lays g c =
    let width : to_z w64 (of_z w64 c.from-width.result) ≡ width_of
    (g.F.hb_font_t.font c.args.self.now.font.now) c.args.tile.glyph =
    to_z-of_z w64 c.from-width.result (record { sfits = c.from-width.type_inv }) ∙ grind (arith, ints) in
    search (arith, tile_once)

pub lay_copies-requires-clause-can : goal.lay_copies-requires-clause-can
lay_copies-requires-clause-can g c =
    let font = g.F.hb_font_t.font c.args.self.now.font.now in
    let n = c.lay_copies-pen.new in
    let width =
    to_z-of_z w64 c.from-width.result (record { sfits = c.from-width.type_inv }) ∙ grind (arith, ints) in
    let difference = to_z w64 (of_z w64 c.from-width.result) -ℤ to_z w64 (of_z w64 c.args.lay.overlap) in
    let near : IsNumber difference =
    record {
      low = omega (arith, ints);
      high = omega (arith, ints);
    } in
    let step : to_z w64 (of_z w64 difference) ≡ width_of font c.args.tile.glyph -ℤ c.args.lay.overlap =
    to_z-of_z w64 difference (near_fits difference near) ∙ ap (λ w. w -ℤ to_z w64 (of_z w64 c.args.lay.overlap)) width
    ∙ ap (λ o. width_of font c.args.tile.glyph -ℤ o) (to_z-of_z w64 c.args.lay.overlap (search)) in
    tile_more c.args.self.now.right_to_left font c.args.lay
    (c.args.tile.glyph, c.args.tile.position) _ _ c.args.lay.added c.args.pen c.lay_copies-pen.result
    c.args.glyphs.now n.glyphs c.args.positions.now n.positions (zip c.args.glyphs.now c.args.positions.now)
    (zip n.glyphs n.positions) (grind arith) width step refl c.requires.can c.lay_copies-pen.ensures.lays
    c.lay_copies-pen.ensures.same_length c.lay_copies-pen.ensures.both

pub returns-clause-lays : goal.returns-clause-lays
returns-clause-lays g c =
    let font = g.F.hb_font_t.font c.args.self.now.font.now in
    let n = c.lay_copies-pen.new in
    let m = c.lay_copies.new in
    let width =
    to_z-of_z w64 c.from-width.result (record { sfits = c.from-width.type_inv }) ∙ grind (arith, ints) in
    let over : to_z w64 (of_z w64 c.args.lay.overlap) ≡ c.args.lay.overlap =
    to_z-of_z w64 c.args.lay.overlap
    (near_fits _ (record {
      low = omega (arith, ints);
      high = omega (arith, ints);
    })) in
    let difference = to_z w64 (of_z w64 c.from-width.result) -ℤ to_z w64 (of_z w64 c.args.lay.overlap) in
    let near : IsNumber difference =
    record {
      low = omega (arith, ints);
      high = omega (arith, ints);
    } in
    let step : to_z w64 (of_z w64 difference) ≡ width_of font c.args.tile.glyph -ℤ c.args.lay.overlap =
    to_z-of_z w64 difference (near_fits difference near) ∙ ap (λ w. w -ℤ to_z w64 (of_z w64 c.args.lay.overlap)) width
    ∙ ap (λ o. width_of font c.args.tile.glyph -ℤ o) over in
    tile_all c.args.self.now.right_to_left font c.args.lay
    (c.args.tile.glyph, c.args.tile.position) _ _ c.args.lay.added c.args.pen c.lay_copies-pen.result
    c.lay_copies.result (zip c.args.glyphs.now c.args.positions.now) (zip n.glyphs n.positions)
    (zip m.glyphs m.positions) (grind arith) width step refl c.lay_copies-pen.ensures.lays c.lay_copies.ensures.lays
