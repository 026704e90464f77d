-- What Indic keeps in the plan. (OpenType, development of Indic scripts; Unicode for the viramas.)
use Prim.Native.String.{String}
use Rattle.std.specs.Prelude.{ℕ, nat_eq, ◌==◌, bit_and, Bool, ◌&&◌, true, false, not, List, [], ◌∷◌, ◌++◌, map, find, Option, None, Some, unwrap_or, slice_index, codes, if◌then◌else◌}
use Rattle.std.specs.Option.{option_eq}
use Rattle.std.specs.Cmp.Lexicographic.{pointwise}
use Rattle.shapers_buffer.specs.declared.buffer.tag.hb_tag_t.{hb_tag_t}
use Rattle.shapers_buffer.specs.declared.buffer.tag.Script.{Script}
use Rattle.shapers_buffer.specs.Glyph.{without_flags}
use Rattle.shapers_base.specs.declared.font.GlyphId.{GlyphId}
use Rattle.shapers_base.specs.declared.map.TheConstants.{F_GLOBAL}
use Rattle.shapers_base.specs.declared.plan.PlanData.{PlanData}
use Rattle.shapers_base.specs.declared.plan.hb_ot_shape_plan_t.{hb_ot_shape_plan_t}
use Rattle.shapers_base.specs.declared.plan.PlanData.TheVariants.{Indic}
use Rattle.shapers_base.specs.declared.plan.indic.BaseSearch.{BaseSearch}
use Rattle.shapers_base.specs.declared.plan.indic.ZeroContext.{ZeroContext}
use Rattle.shapers_base.specs.declared.plan.indic.ZeroContext.TheVariants.{OldSpec, NewSpec}
use Rattle.shapers_base.specs.declared.plan.indic.BlwfMode.{BlwfMode}
use Rattle.shapers_base.specs.declared.plan.indic.BlwfMode.TheVariants.{PreAndPost, PostOnly}
use Rattle.shapers_base.specs.declared.plan.indic.IndicConfig.{IndicConfig}
use Rattle.shapers_base.specs.declared.plan.indic.RephMode.{RephMode}
use Rattle.shapers_base.specs.declared.plan.indic.RephMode.TheVariants.{Implicit, Explicit, LogRepha}
use Rattle.shapers_base.specs.declared.plan.indic.RephPosition.{RephPosition}
use Rattle.shapers_base.specs.declared.plan.indic.RephPosition.TheVariants.{AfterMain, BeforeSub, AfterSub, BeforePost, AfterPost}
use Rattle.shapers_base.specs.declared.plan.indic.IndicWouldSubstituteFeature.{IndicWouldSubstituteFeature}
use Rattle.shapers_base.specs.declared.plan.indic.indic_shape_plan_t.{indic_shape_plan_t}
use Rattle.shapers_base.specs.declared.plan.planner.Request.{Request}
use Rattle.shapers_base.specs.declared.plan.planner.Request.TheVariants.{Feature, Pause}
use Rattle.shapers_base.specs.Font.{Font}
use Rattle.shapers_base.specs.Map.{Map, mask_of}
use Rattle.shapers_base.specs.Questions.{question_for}
use Rattle.shapers_indic.specs.Requests.{indic_basic_features, other_features}

-- the properties of a script: whether fonts may follow an older specification, its virama, where a
-- reph goes and how it is written, and where below-base forms apply
abbrev pub row : String → Bool → ℕ → RephPosition → RephMode → BlwfMode → IndicConfig
row tag old virama position mode blwf = record {
  script = Some (record { 0 = codes tag });
  has_old_spec = old;
  virama = virama;
  reph_pos = position;
  reph_mode = mode;
  blwf_mode = blwf;
}

-- the table of scripts
abbrev pub scripts : List IndicConfig
scripts =
    row "Deva" true 0x094D BeforePost Implicit PreAndPost
    ∷ row "Beng" true 0x09CD AfterSub Implicit PreAndPost
    ∷ row "Guru" true 0x0A4D BeforeSub Implicit PreAndPost
    ∷ row "Gujr" true 0x0ACD BeforePost Implicit PreAndPost
    ∷ row "Orya" true 0x0B4D AfterMain Implicit PreAndPost
    ∷ row "Taml" true 0x0BCD AfterPost Implicit PreAndPost
    ∷ row "Telu" true 0x0C4D AfterPost Explicit PostOnly
    ∷ row "Knda" true 0x0CCD AfterPost Implicit PostOnly
    ∷ row "Mlym" true 0x0D4D AfterMain LogRepha PreAndPost
    ∷ row "Sinh" false 0x0DCA AfterPost Explicit PreAndPost
    ∷ []

-- those of any other script
abbrev pub other_script : IndicConfig
other_script = record {
  script = None;
  has_old_spec = false;
  virama = 0;
  reph_pos = BeforePost;
  reph_mode = Implicit;
  blwf_mode = PreAndPost;
}

-- whether two scripts are the same
abbrev pub is_script : Option Script → Option Script → Bool
is_script = option_eq (λ s t. pointwise nat_eq s.0 t.0)

-- the row of a script
abbrev pub config_of : Option Script → IndicConfig
config_of script = unwrap_or (find (λ c. is_script c.script script) scripts) other_script

-- whether a script of the font isn't of the newer specification (its tag ends in 2); so is none
abbrev pub is_old_script : Option hb_tag_t → Bool
is_old_script None = true
is_old_script (Some tag) = not (slice_index tag.0 3 == 0x32)

-- whether the older specification holds
abbrev pub has_old_spec : Option Script → Map → Bool
has_old_spec script m = (config_of script).has_old_spec && is_old_script m.chosen

-- Malayalam, whose rules may need context by both specifications, as Uniscribe has it
abbrev pub is_malayalam : Option Script → Bool
is_malayalam script = is_script script (Some (record { 0 = codes "Mlym" }))

-- whether questions to the font leave contexts out: in the older specification, as in rustybuzz, or
-- in the newer one, as in HarfBuzz; for Malayalam never
abbrev pub zero_context : ZeroContext → Option Script → Map → Bool
zero_context OldSpec script m = has_old_spec script m && not (is_malayalam script)
zero_context NewSpec script m = not (has_old_spec script m) && not (is_malayalam script)

-- the mask of a feature, none for one that holds for the whole text
abbrev pub mask_for : Map → Request → ℕ
mask_for m (Feature tag flags value) = if bit_and flags F_GLOBAL == 0 then mask_of tag m else 0
mask_for m (Pause pause) = 0

-- the masks of all features
abbrev pub feature_masks : Map → List ℕ
feature_masks m = map (mask_for m) (indic_basic_features ++ other_features)

-- a question of the plan
abbrev pub question : Bool → Map → String → IndicWouldSubstituteFeature
question alone m tag = question_for (record { 0 = codes tag }) alone m

-- the plan; the caller says among which consonants the base is looked for, and where questions
-- leave contexts out
abbrev pub indic_plan : BaseSearch → ZeroContext → Option Script → Map → indic_shape_plan_t
indic_plan search context script m = record {
  config = config_of script;
  is_old_spec = has_old_spec script m;
  base_search = search;
  rphf = question (zero_context context script m) m "rphf";
  pref = question (zero_context context script m) m "pref";
  blwf = question (zero_context context script m) m "blwf";
  pstf = question (zero_context context script m) m "pstf";
  vatu = question (zero_context context script m) m "vatu";
  mask_array = feature_masks m;
}

-- whether the data are those of Indic
abbrev pub is_indic_data : PlanData → Bool
is_indic_data (Indic kept) = true
is_indic_data _ = false

-- what the plan keeps for Indic; where it keeps nothing, what it would
abbrev pub indic_data : indic_shape_plan_t → PlanData → indic_shape_plan_t
indic_data otherwise (Indic kept) = kept
indic_data otherwise _ = otherwise

abbrev pub indic_in : hb_ot_shape_plan_t → indic_shape_plan_t
indic_in plan =
    let otherwise = indic_plan plan.base_search plan.zero_context plan.script plan.ot_map in
    indic_data otherwise plan.plan_data

-- the bits that a feature gives: its mask, but for the glyph flags
abbrev pub bits_at : List ℕ → ℕ → ℕ
bits_at masks feature = without_flags (slice_index masks feature)

-- the glyph of the script's virama, where it has one and the font has a glyph for it
abbrev pub virama_glyph : Font → indic_shape_plan_t → Option GlyphId
virama_glyph font p = if p.config.virama == 0 then None else font.nominal p.config.virama
