-- One glyph more, from where it stands.
use Rattle.std.proofs.Common.{◌+◌, ◌<◌, length, sym, ap, subst, ◌∙◌, get_or, set, take, length-set, arith}
use Rattle.shapers_buffer.specs.Glyph.{default_glyph}
use Rattle.shapers_buffer.proofs.Arranging.{all_within, gathered_more}
use Rattle.shapers_buffer.proofs.buffer.placements.gather.Goals as goal

pub bounds-glyphs-place : goal.bounds-glyphs-place
bounds-glyphs-place c =
    let a = c.args in
    let r = c.requires.arranges in
    subst (λ q. q < length a.glyphs.now) (sym c.old_place_by_all-place.ensures)
    (all_within a.placements.now a.start a.end (length a.glyphs.now) a.places.now (a.start + c.loop-i.i) r
    (omega (arith, r.in_order, r.in_range)))

pub offset_bounds-glyphs-place : goal.offset_bounds-glyphs-place
offset_bounds-glyphs-place c =
    let a = c.args in
    let r = c.requires.arranges in
    let within = subst (λ q. q < length a.glyphs.now) (sym c.old_place_by_all-place.ensures)
    (all_within a.placements.now a.start a.end (length a.glyphs.now) a.places.now (a.start + c.loop-i.i) r
    (omega (arith, r.in_order, r.in_range))) in
    omega arith

pub loop-i-preserved : goal.loop-i-preserved
loop-i-preserved c =
    let a = c.args in
    let l = c.loop-i in
    let read = c.old_place_by_all-place.ensures in
    record {
      long = length-set l.to l.i _ ∙ l.invariant.long;
      gathered = ap (λ q. take (l.i + 1) (set l.to l.i (get_or a.glyphs.now q default_glyph))) read
          ∙ gathered_more default_glyph a.placements.now a.start a.end a.places.now a.glyphs.now l.to l.i
          c.requires.arranges c.loop-i-test.true l.invariant.long l.invariant.gathered;
    }
