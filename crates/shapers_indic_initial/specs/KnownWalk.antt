-- Words of the code's walk that gives consonants positions by the font and keeps what it found.
use Rattle.std.specs.Prelude.{◌≡◌, ◌==◌, ◌||◌, Bool, List, All, length, not}
use Rattle.shapers_base.specs.declared.font.GlyphId.{GlyphId}
use Rattle.shapers_base.specs.declared.plan.indic.IndicWouldSubstituteFeature.{IndicWouldSubstituteFeature}
use Rattle.shapers_base.specs.declared.plan.indic.indic_shape_plan_t.{indic_shape_plan_t}
use Rattle.shapers_base.specs.Font.{Font}
use Rattle.shapers_base.specs.Map.{Map, lookups_in}
use Rattle.shapers_indic_initial.specs.declared.ot_shaper_indic_initial.font_positions.Known.{Known}
use Rattle.shapers_indic_initial.specs.InitialFont.{consonant_position}

-- whether the position that is kept with a consonant is its position by the font
abbrev pub IsKnown : Font → Map → indic_shape_plan_t → GlyphId → Known → Type 0
IsKnown font m p v k = k.position ≡ consonant_position font m p v k.consonant

-- whether this holds of all that are kept
abbrev pub AllKnown : Font → Map → indic_shape_plan_t → GlyphId → List Known → Type 0
AllKnown font m p v known = All (IsKnown font m p v) known

-- whether one of the features that give consonants forms with the virama has lookups
abbrev pub has_lookups : Map → IndicWouldSubstituteFeature → Bool
has_lookups m q = not (length (lookups_in q.lookups m) == 0)

abbrev pub has_forms : Map → indic_shape_plan_t → Bool
has_forms m p =
    has_lookups m p.blwf || has_lookups m p.vatu || has_lookups m p.pstf || has_lookups m p.pref
