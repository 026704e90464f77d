-- A text behind its lookups: positions, and what is done around GPOS and after it (HarfBuzz,
-- hb-ot-shape.cc).
use Rattle.std.specs.Prelude.{Bool, true, false, not, ◌&&◌, List, [], map, reverse, Option, if◌then◌else◌}
use Rattle.std.specs.Option.{option_map_or, option_or}
use Rattle.shapers_base.specs.Font.{Font}
use Rattle.shapers_base.specs.declared.font.GlyphId.{GlyphId}
use Rattle.shapers_base.specs.declared.plan.hb_ot_shape_plan_t.{hb_ot_shape_plan_t}
use Rattle.shapers_base.specs.declared.plan.record.ZeroWidthMarks.{ZeroWidthMarks}
use Rattle.shapers_base.specs.declared.plan.record.ZeroWidthMarks.TheVariants.{GDEF_EARLY, GDEF_LATE}
use Rattle.shapers_buffer.specs.Buffer.{Buffer}
use Rattle.shapers_buffer.specs.Glyphs.{Glyph}
use Rattle.shapers_buffer.specs.declared.buffer.level.Direction.{Direction}
use Rattle.shapers_choice.specs.Choice.{is_horizontal}
use Rattle.shapers_plan.specs.declared.ot_map.lookups.StageLookup.{StageLookup}
use Rattle.shapers_position.specs.ClusterFlags.{flags_propagated}
use Rattle.shapers_position.specs.Ignorables.{ignorables_hidden, ignorables_zeroed}
use Rattle.shapers_position.specs.Metrics.{Metrics}
use Rattle.shapers_position.specs.Spaces.{space_placed}
use Rattle.shapers_position.specs.Widths.{advanced, marks_zeroed, positions_changed}
use Rattle.shapers_position.specs.declared.ot_shape_position.ignorables.DefaultIgnorables.{DefaultIgnorables}
use Rattle.shapers_prepare.specs.Rotation.{goes_backward}
use Rattle.shapers_stretch.specs.Recorded.{start_of}
use Rattle.shapers_stretch.specs.Stretch.{marks_stretched}
use Rattle.rustybuzz_shapers.specs.Records.{zeroes_marks}
use Rattle.rustybuzz_shapers.specs.declared.shaper.hb_ot_shaper_t.{hb_ot_shaper_t}
use Rattle.rustybuzz_shapers.specs.declared.shaper.hb_ot_shaper_t.TheVariants.{Arabic}
use Rattle.shapers_pipeline.specs.Fractions.{goes_forward}
use Rattle.shapers_pipeline.specs.Lookups.{looked_up}

-- what a text is positioned by: the shaper and the plan that its hooks read, whether GPOS is
-- applied, and its lookups, the font and its metrics, which glyphs are marks, what a lookup makes
-- of a text, and what attachments do behind all, and the caller's wishes for ignorable glyphs
pub record Positioning : Type 0 where
  pub shaper : Option hb_ot_shaper_t
  pub plan : hb_ot_shape_plan_t
  pub applies_gpos : Bool
  pub list : List StageLookup
  pub font : Font
  pub metrics : Metrics
  pub is_mark : Glyph → Bool
  pub positioned : StageLookup → Buffer → Buffer
  pub finished : Buffer → Buffer
  pub ignorables : DefaultIgnorables
  pub invisible : Option GlyphId

-- when marks lose their advances: where no shaper says, behind GPOS
abbrev pub zeroing_of : Option hb_ot_shaper_t → ZeroWidthMarks
zeroing_of shaper = option_map_or zeroes_marks shaper GDEF_LATE

abbrev pub is_early : ZeroWidthMarks → Bool
is_early GDEF_EARLY = true
is_early _ = false

abbrev pub is_late : ZeroWidthMarks → Bool
is_late GDEF_LATE = true
is_late _ = false

-- whether marks without advances hang over the glyph before them: without GPOS, where the text runs
-- forward
abbrev pub hangs_marks : Bool → Direction → Bool
hangs_marks applies_gpos direction = not applies_gpos && goes_forward direction

-- marks without advances, if this is the time
abbrev pub marks_zeroed_if : Bool → (Glyph → Bool) → Bool → Buffer → Buffer
marks_zeroed_if now is_mark applies_gpos b =
    let hangs = hangs_marks applies_gpos b.direction in
    if now then record b { positions = marks_zeroed is_mark hangs b.glyphs b.positions } else b

-- Before GPOS each glyph has the advance along the line that the font has for it, and in vertical
-- text its origin for that; a space that the font lacks is as wide as it should be.
abbrev pub text_spaced : Font → Metrics → Buffer → Buffer
text_spaced font metrics b =
    let horizontal = is_horizontal b.direction in
    let advances = map (advanced font metrics horizontal) b.glyphs in
    let placed = space_placed font metrics horizontal in
    record b { positions = positions_changed placed b.glyphs advances }

abbrev pub text_advanced : Positioning → Buffer → Buffer
text_advanced p b =
    let spaced = text_spaced p.font p.metrics b in
    marks_zeroed_if (is_early (zeroing_of p.shaper)) p.is_mark p.applies_gpos spaced

-- behind GPOS, if it is applied
abbrev pub lookups_if : Bool → List StageLookup → List StageLookup
lookups_if applies list = if applies then list else []

abbrev pub text_looked_up : Positioning → Buffer → Buffer
text_looked_up p b =
    looked_up p.positioned (lookups_if p.applies_gpos p.list) (text_advanced p b)

-- with marks, and ignorable glyphs, without widths
abbrev pub text_narrowed : Positioning → Buffer → Buffer
text_narrowed p b =
    let looked = text_looked_up p b in
    let t = marks_zeroed_if (is_late (zeroing_of p.shaper)) p.is_mark p.applies_gpos looked in
    record t { positions = ignorables_zeroed p.ignorables t.direction t.glyphs t.positions }

-- a text in the order that it is drawn in, from left to right or from top to bottom
abbrev pub ordered_for_drawing : Buffer → Buffer
ordered_for_drawing b =
    let turned : Buffer =
    record b { glyphs = reverse b.glyphs; positions = reverse b.positions } in
    if goes_backward b.direction then turned else b

-- with what is attached to others in its place, in that order, and ignorable glyphs hidden
abbrev pub text_positioned : Positioning → Buffer → Buffer
text_positioned p b =
    ignorables_hidden p.ignorables (option_or p.invisible (p.font.nominal 0x20))
    (ordered_for_drawing (p.finished (text_narrowed p b)))

-- the text that a shaper's postprocessing makes: marks that stretch
abbrev pub postprocessed_by : hb_ot_shape_plan_t → Font → Buffer → hb_ot_shaper_t → Buffer
postprocessed_by plan font b Arabic = marks_stretched font (start_of plan.plan_data) b
postprocessed_by plan font b shaper = b

abbrev pub text_postprocessed : Positioning → Buffer → Buffer
text_postprocessed p b =
    let text = text_positioned p b in
    option_map_or (postprocessed_by p.plan p.font text) p.shaper text

-- with the flags of whole clusters
abbrev pub text_flagged : Positioning → Buffer → Buffer
text_flagged p b =
    let text = text_postprocessed p b in
    record text { glyphs = flags_propagated text.flags text.glyphs }

-- the text shaped, in the direction that the caller has
abbrev pub text_shaped : Positioning → Direction → Buffer → Buffer
text_shaped p direction b =
    let text = text_flagged p b in
    record text { direction = direction }
