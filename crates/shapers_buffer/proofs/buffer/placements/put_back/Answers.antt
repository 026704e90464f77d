-- One glyph more, where it comes from.
use Rattle.std.proofs.Common.{◌+◌, length, ap, ◌∙◌, get_or, set, length-set, arith}
use Rattle.shapers_buffer.specs.Glyph.{default_glyph}
use Rattle.shapers_buffer.specs.Placements.{placed_by_all}
use Rattle.shapers_buffer.proofs.Arranging.{all_within, put_more}
use Rattle.shapers_buffer.proofs.buffer.placements.put_back.Goals as goal

pub bounds-glyphs-place : goal.bounds-glyphs-place
bounds-glyphs-place c =
    let a = c.args in
    let r = c.requires.arranges in
    let within = all_within a.placements.now a.start a.end (length a.glyphs.now) a.places.now (a.start + c.loop-i.i) r
    (omega (arith, r.in_order, r.in_range)) in
    omega (arith, c.old_place_by_all-place.ensures, c.loop-i.invariant.long)

pub offset_bounds-glyphs-place : goal.offset_bounds-glyphs-place
offset_bounds-glyphs-place c =
    let a = c.args in
    let r = c.requires.arranges in
    let within = all_within a.placements.now a.start a.end (length a.glyphs.now) a.places.now (a.start + c.loop-i.i) r
    (omega (arith, r.in_order, r.in_range)) in
    omega (arith, c.old_place_by_all-place.ensures)

pub loop-i-preserved : goal.loop-i-preserved
loop-i-preserved c =
    let a = c.args in
    let l = c.loop-i in
    let ps = a.placements.now in
    let v = get_or a.from.now l.i default_glyph in
    record {
      long = length-set l.glyphs _ _ ∙ l.invariant.long;
      put = ap (λ q. placed_by_all ps a.start a.end a.places.now (set l.glyphs q v)) c.old_place_by_all-place.ensures
          ∙ put_more default_glyph ps a.start a.end a.places.now a.glyphs.now l.glyphs a.from.now l.i
          c.requires.arranges c.loop-i-test.true c.requires.as_many l.invariant.long l.invariant.put;
    }
