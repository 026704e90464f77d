-- The pause of the initial reordering: positions by the font, dotted circles, and then each
-- syllable.
use Rattle.std.specs.Prelude.{List, Option, Some}
use Rattle.shapers_buffer.specs.Glyphs.{Glyphs}
use Rattle.shapers_buffer.specs.declared.buffer.refusal.ShaperError.{ShaperError}
use Rattle.shapers_buffer.specs.declared.buffer.tag.Script.{Script}
use Rattle.shapers_buffer.specs.Buffer.{Buffer}
use Rattle.shapers_buffer.specs.Syllables.{unknown_refusal}
use Rattle.shapers_base.specs.declared.plan.indic.indic_shape_plan_t.{indic_shape_plan_t}
use Rattle.shapers_base.specs.declared.plan.ot_category_t.TheConstants.{OT_DOTTEDCIRCLE, OT_Repha}
use Rattle.shapers_base.specs.declared.plan.ot_position_t.TheConstants.{POS_END}
use Rattle.shapers_base.specs.Font.{Font}
use Rattle.shapers_base.specs.Map.{Map}
use Rattle.shapers_clusters.specs.Steps.{Step}
use Rattle.shapers_indic_initial.specs.InitialFont.{positions_by_font}
use Rattle.shapers_indic_initial.specs.InitialReordering.{InitialRelation, initial_order, initial_steps}
use Rattle.shapers_indic_initial.specs.InitialRules.{initial_rules}
use Rattle.shapers_syllabic.specs.declared.ot_shaper_syllabic.kinds.indic_syllable.TheConstants.{BROKEN_CLUSTER, NON_INDIC_CLUSTER}
use Rattle.shapers_syllabic.specs.Circles.{circled}
use Rattle.shapers_syllabic.specs.declared.ot_shaper_syllabic.circles.DottedCircles.{DottedCircles}
use Rattle.shapers_syllabic.specs.Reordering.{SyllablesLinked, SyllablesReordered, script_circles}
use Rattle.shapers_syllabic.specs.declared.ot_shaper_syllabic.circles.ScriptCircles.{ScriptCircles}

-- the dotted circles: behind an opening repha; of the last position, unless one becomes the base
abbrev pub indic_circles : ScriptCircles
indic_circles = record {
  broken_kind = BROKEN_CLUSTER;
  category = OT_DOTTEDCIRCLE;
  repha = Some OT_Repha;
  position = Some POS_END;
}

-- the circles that a buffer gets
abbrev pub initial_circles : Font → Buffer → Option DottedCircles
initial_circles font b = script_circles indic_circles font b

-- the text with positions by the font and with its circles
abbrev pub with_positions_and_circles : Font → Map → indic_shape_plan_t → Buffer → Buffer
with_positions_and_circles font m p b =
    record b { glyphs = circled (initial_circles font b) (positions_by_font font m p b.glyphs) }

-- the buffer before and after the pause
abbrev pub InitiallyReordered : Font → Map → indic_shape_plan_t → Buffer → Buffer → Type 0
InitiallyReordered font m p old new =
    SyllablesReordered (initial_order (initial_rules font m p) old.script)
    (initial_steps (initial_rules font m p) old.script)
    (with_positions_and_circles font m p old) new

-- the same as a chain, one link a syllable
abbrev pub InitiallyLinked : Font → Map → indic_shape_plan_t → Buffer → Buffer → Type 0
InitiallyLinked font m p old new =
    SyllablesLinked (InitialRelation (initial_rules font m p))
    (with_positions_and_circles font m p old) new

-- the refusal of a text with a syllable of unknown kind
abbrev pub initial_refusal : Buffer → Option ShaperError
initial_refusal b = unknown_refusal NON_INDIC_CLUSTER b.glyphs

-- Positions by the font go with each glyph, so that they may as well be given to each syllable for
-- itself, before its order: what a syllable becomes then, and the steps that lead there.
abbrev pub order_by_font : Font → Map → indic_shape_plan_t → Option Script → Glyphs →
    Glyphs
order_by_font font m p script gs =
    initial_order (initial_rules font m p) script (positions_by_font font m p gs)

abbrev pub steps_by_font : Font → Map → indic_shape_plan_t → Option Script → Glyphs →
    List Step
steps_by_font font m p script gs =
    initial_steps (initial_rules font m p) script (positions_by_font font m p gs)
