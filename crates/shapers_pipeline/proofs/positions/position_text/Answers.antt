-- There is a position for each glyph.
use Rattle.std.proofs.Common.{subst, sym}
use Rattle.shapers_pipeline.proofs.Placing.{Paired, ignorables_pairs, zeroed_pairs}
use Rattle.shapers_pipeline.proofs.positions.position_text.Goals as goal

pub apply_positioning_if-requires : goal.apply_positioning_if-requires
apply_positioning_if-requires g c =
    subst Paired (sym c.zero_marks_if.ensures)
    (zeroed_pairs c.is_early.result (g.L.GlyphClasses.marks c.args.lookups.now) c.applies_gpos-applies_gpos.result
    c.place_glyphs.new.buffer c.in_ok-place_glyphs.ensures.paired)

pub finish_positions-requires : goal.finish_positions-requires
finish_positions-requires g c =
    let late : Paired c.zero_marks_if-2.new.buffer =
    subst Paired (sym c.zero_marks_if-2.ensures)
    (zeroed_pairs c.is_late.result (g.L.GlyphClasses.marks c.args.lookups.now) c.applies_gpos-applies_gpos.result c.apply_positioning_if.new.buffer c.in_ok-apply_positioning_if.ensures.paired) in
    subst Paired (sym c.zero_width_default_ignorables.ensures) (ignorables_pairs c.args.settings.now.ignorables c.zero_marks_if-2.new.buffer late)
