-- What the final reordering of a syllable reads of the plan and the font.
use Rattle.std.specs.Prelude.{Bool, ◌||◌, Option, Some, codes}
use Rattle.shapers_buffer.specs.declared.buffer.tag.Script.{Script}
use Rattle.shapers_base.specs.declared.plan.indic.indic_shape_plan_t.{indic_shape_plan_t}
use Rattle.shapers_base.specs.Font.{Font}
use Rattle.shapers_indic_final.specs.declared.ot_shaper_indic_final.rules.Rules.{Rules}
use Rattle.shapers_indic.specs.declared.ot_shaper_indic.indic_feature.TheConstants.{INIT, PREF}
use Rattle.shapers_indic.specs.Plan.{bits_at, is_malayalam, is_script, virama_glyph}

-- what is read, by a plan and a font
abbrev pub final_rules : Font → indic_shape_plan_t → Rules
final_rules font p = record {
  reph_pos = p.config.reph_pos;
  virama = virama_glyph font p;
  pref = bits_at p.mask_array PREF;
  init = bits_at p.mask_array INIT;
}

-- the scripts without half forms or explicit viramas
abbrev pub has_no_half_forms : Option Script → Bool
has_no_half_forms script =
    is_malayalam script || is_script script (Some (record { 0 = codes "Taml" }))
