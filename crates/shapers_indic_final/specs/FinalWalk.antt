-- What the walks over a text and over a syllable look for.
use Rattle.std.specs.Prelude.{◌&&◌, ◌||◌, Bool, Option}
use Rattle.shapers_buffer.specs.Glyphs.{Glyph, Glyphs}
use Rattle.shapers_buffer.specs.declared.buffer.tag.Script.{Script}
use Rattle.shapers_indic_final.specs.declared.ot_shaper_indic_final.rules.Rules.{Rules}
use Rattle.shapers_base.specs.Masks.{has_bits}
use Rattle.shapers_base.specs.declared.plan.ot_position_t.TheConstants.{POS_BELOW_C, POS_RA_TO_BECOME_REPH}
use Rattle.shapers_indic.specs.Glyphs.{has_position}
use Rattle.shapers_indic_final.specs.FinalBase.{with_final_base}
use Rattle.shapers_indic_final.specs.FinalGlyphs.{is_lost_virama}
use Rattle.shapers_indic_final.specs.FinalMatras.{is_left}
use Rattle.shapers_indic.specs.Plan.{is_malayalam}

-- what may change a syllable: a left matra, a reph, a glyph with the mask of pref, a virama that is
-- to be recovered; in Malayalam what stands below the base, too
abbrev pub changes_syllable : Rules → Option Script → Glyph → Bool
changes_syllable r script g = is_left g || has_position POS_RA_TO_BECOME_REPH g
    || has_bits r.pref g || is_lost_virama r.virama g
    || (has_position POS_BELOW_C g && is_malayalam script)

-- the glyphs of a syllable with the positions that the search for its base gives
abbrev pub with_base_found : Rules → Option Script → Glyphs → Glyphs
with_base_found r script gs = (with_final_base r script gs).glyphs
