-- The second part of the headline: each pause that reorders regroups each syllable by itself.
use Rattle.std.specs.Prelude.{◌≡◌, List, map, None}
use Rattle.std.specs.List.Sorted.{IsPermutation}
use Rattle.std.specs.Option.{IfSome}
use Rattle.shapers_buffer.specs.Glyphs.{Glyphs}
use Rattle.shapers_buffer.specs.declared.buffer.syllables.Span.{Span}
use Rattle.shapers_buffer.specs.Buffer.{Buffer}
use Rattle.shapers_buffer.specs.Glyph.{order_view}
use Rattle.shapers_buffer.specs.Syllables.{syllables}
use Rattle.shapers_base.specs.declared.plan.hb_ot_shape_plan_t.{hb_ot_shape_plan_t}
use Rattle.shapers_base.specs.declared.plan.pause.Pause.{Pause}
use Rattle.shapers_base.specs.declared.plan.pause.Pause.TheVariants.{FinalReordering}
use Rattle.shapers_base.specs.Font.{Font}
use Rattle.shapers_indic.specs.Plan.{indic_in}
use Rattle.shapers_indic_final.specs.FinalWordStart.{with_inits}
use Rattle.shapers_indic_final.specs.FinalRules.{final_rules}
use Rattle.shapers_syllabic.specs.Circles.{circled}
use Rattle.shapers_syllabic.specs.Reordering.{text_order}
use Rattle.rustybuzz_shapers.specs.Pauses.{Paused, Reordering, reordering_of}

-- what syllables become together; in Indic's final reordering with init, which also looks before
abbrev pub text_of_syllables :
    Pause → hb_ot_shape_plan_t → Font → Reordering → Glyphs → Glyphs
text_of_syllables FinalReordering plan font r gs =
    with_inits (final_rules font (indic_in plan)).init None (map r.order (syllables gs))
text_of_syllables _ plan font r gs = text_order r.order gs

-- The text after is made of the syllables of the text with circles, each by itself, and no glyph
-- number is lost: of the text, and of each syllable by itself.
pub record RegroupsSyllables (pause : Pause) (plan : hb_ot_shape_plan_t) (font : Font)
    (r : Reordering) (old new : Buffer) : Type 0 where
  pub order : order_view new.glyphs
      ≡ text_of_syllables pause plan font r (order_view (circled r.circles old.glyphs))
  pub numbers : IsPermutation
      (map (λ g. g.glyph_id) (circled r.circles old.glyphs)) (map (λ g. g.glyph_id) new.glyphs)
  pub each : (syl : Glyphs) →
      IsPermutation (map (λ g. g.glyph_id) syl) (map (λ g. g.glyph_id) (r.order syl))

-- so each pause that reorders, by its function of a syllable, the plan, the font and the script
abbrev pub SyllablesRegrouped : Type 0
SyllablesRegrouped =
    (pause : Pause) (plan : hb_ot_shape_plan_t) (font : Font) (spans : List Span)
    (old new : Buffer) →
    Paused pause plan font spans old new →
    IfSome (reordering_of pause plan font old) (λ r. RegroupsSyllables pause plan font r old new)
