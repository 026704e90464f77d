-- What the initial reordering of a syllable reads of the plan and the font.
use Rattle.std.specs.Prelude.{ℕ, Bool, List, slice_index}
use Rattle.shapers_base.specs.declared.font.GlyphId.{GlyphId}
use Rattle.shapers_base.specs.declared.plan.indic.BaseSearch.{BaseSearch}
use Rattle.shapers_base.specs.declared.plan.indic.IndicConfig.{IndicConfig}
use Rattle.shapers_base.specs.declared.plan.indic.indic_shape_plan_t.{indic_shape_plan_t}
use Rattle.shapers_base.specs.Font.{Font}
use Rattle.shapers_base.specs.Map.{Map}
use Rattle.shapers_base.specs.Questions.{would_by}

-- the script's properties, whether the older specification holds, among which consonants the base
-- is looked for, masks by feature, which glyphs form a reph, and which a consonant before the base
pub record Rules : Type 0 where
  pub config : IndicConfig
  pub old : Bool
  pub search : BaseSearch
  pub masks : List ℕ
  pub forms_reph : List GlyphId → Bool
  pub forms_pref : List GlyphId → Bool

-- so by a plan and a font
abbrev pub initial_rules : Font → Map → indic_shape_plan_t → Rules
initial_rules font m p = record {
  config = p.config;
  old = p.is_old_spec;
  search = p.base_search;
  masks = p.mask_array;
  forms_reph = would_by font.applies m p.rphf;
  forms_pref = would_by font.applies m p.pref;
}

-- the mask of a feature
abbrev pub mask_at : Rules → ℕ → ℕ
mask_at r feature = slice_index r.masks feature
