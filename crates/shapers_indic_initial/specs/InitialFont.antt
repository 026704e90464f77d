-- Positions by the font: a consonant for which the font has a below-base or a post-base form isn't
-- of position BASE_C.
use Rattle.std.specs.Prelude.{ℕ, Bool, ◌||◌, [], ◌∷◌, map, Option, None, Some, if◌then◌else◌}
use Rattle.shapers_buffer.specs.Glyphs.{Glyph, Glyphs}
use Rattle.shapers_buffer.specs.Glyph.{at_position}
use Rattle.shapers_base.specs.declared.font.GlyphId.{GlyphId}
use Rattle.shapers_base.specs.declared.plan.indic.IndicWouldSubstituteFeature.{IndicWouldSubstituteFeature}
use Rattle.shapers_base.specs.declared.plan.indic.indic_shape_plan_t.{indic_shape_plan_t}
use Rattle.shapers_base.specs.declared.plan.ot_position_t.TheConstants.{POS_BASE_C, POS_BELOW_C, POS_POST_C}
use Rattle.shapers_base.specs.Font.{Font}
use Rattle.shapers_base.specs.Map.{Map}
use Rattle.shapers_base.specs.Questions.{would_by}
use Rattle.shapers_indic.specs.Glyphs.{has_position, number}
use Rattle.shapers_indic.specs.Plan.{virama_glyph}

-- whether a feature would substitute the virama's glyph v and c, in either order
abbrev pub joins_virama : Font → Map → IndicWouldSubstituteFeature → GlyphId → GlyphId → Bool
joins_virama font m q v c =
    would_by font.applies m q (v ∷ c ∷ []) || would_by font.applies m q (c ∷ v ∷ [])

-- the position by the font: below-base by blwf or vatu, post-base by pstf or pref, else the base's
abbrev pub consonant_position : Font → Map → indic_shape_plan_t → GlyphId → GlyphId → ℕ
consonant_position font m p v c =
    if joins_virama font m p.blwf v c || joins_virama font m p.vatu v c then POS_BELOW_C
    else if joins_virama font m p.pstf v c || joins_virama font m p.pref v c then POS_POST_C
    else POS_BASE_C

-- a glyph with its position by the font, where the table has BASE_C for it
abbrev pub by_virama : Font → Map → indic_shape_plan_t → GlyphId → Glyph → Glyph
by_virama font m p v g =
    if has_position POS_BASE_C g then at_position (consonant_position font m p v (number g)) g
    else g

-- the text with the positions by the font, queried with the virama's glyph
abbrev pub all_by_virama : Font → Map → indic_shape_plan_t → Option GlyphId → Glyphs →
    Glyphs
all_by_virama font m p None gs = gs
all_by_virama font m p (Some v) gs = map (by_virama font m p v) gs

abbrev pub positions_by_font : Font → Map → indic_shape_plan_t → Glyphs →
    Glyphs
positions_by_font font m p gs = all_by_virama font m p (virama_glyph font p) gs
