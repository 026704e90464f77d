-- There is a position for each glyph.
use Rattle.std.proofs.Common.{subst, sym}
use Rattle.std.proofs.lemmas.List.{length-map}
use Rattle.shapers_choice.specs.Choice.{is_horizontal}
use Rattle.shapers_position.specs.Spaces.{space_placed}
use Rattle.shapers_position.specs.Widths.{advanced}
use Rattle.shapers_pipeline.proofs.Placing.{Paired, length-changed}
use Rattle.shapers_pipeline.proofs.positions.place_glyphs.Goals as goal

pub returns-clause-paired : goal.returns-clause-paired
returns-clause-paired g c =
    let font = g.F.hb_font_t.font c.args.font.now in
    let metrics = g.F.MetricsFont.metrics c.args.font.now in
    let b = c.args.buffer.now in
    let a = c.set_advances.new.buffer in
    let start : Paired a = subst Paired (sym c.in_ok-set_advances.ensures.ok)
    (length-map b.glyphs (advanced font metrics (is_horizontal b.direction))) in
    subst Paired (sym c.set_space_widths.ensures)
    (length-changed (space_placed font metrics (is_horizontal a.direction)) a.glyphs a.positions start)
