-- The plan and what shapers keep in it.
use Rattle.std.specs.Prelude.{Option, None, Some, false}
use Rattle.shapers_buffer.specs.declared.buffer.tag.Script.{Script}
use Rattle.shapers_base.specs.Map.{Map}
use Rattle.shapers_base.specs.declared.plan.arabic.StretchStart.TheVariants as starts
use Rattle.shapers_base.specs.declared.plan.arabic.arabic_shape_plan_t.{arabic_shape_plan_t}
use Rattle.shapers_base.specs.declared.plan.breaks.BreakFlags.TheVariants as breaks
use Rattle.shapers_base.specs.declared.plan.hangul.hangul_shape_plan_t.{hangul_shape_plan_t}
use Rattle.shapers_base.specs.declared.plan.hb_ot_shape_plan_t.{hb_ot_shape_plan_t}
use Rattle.shapers_base.specs.declared.plan.indic.BaseSearch.TheVariants.{WithoutMedials}
use Rattle.shapers_base.specs.declared.plan.indic.ZeroContext.TheVariants.{OldSpec}
use Rattle.shapers_base.specs.declared.plan.indic.indic_shape_plan_t.{indic_shape_plan_t}
use Rattle.shapers_base.specs.declared.plan.khmer.khmer_shape_plan_t.{khmer_shape_plan_t}
use Rattle.shapers_base.specs.declared.plan.universal.use_shape_plan_t.{use_shape_plan_t}
use Rattle.shapers_base.specs.declared.plan.PlanData.{PlanData}
use Rattle.shapers_base.specs.declared.plan.PlanData.TheVariants as data_of

-- a plan whose shaper keeps nothing yet
abbrev pub new_plan : Option Script → Map → hb_ot_shape_plan_t
new_plan s m = record {
  script = s;
  ot_map = m;
  has_gpos_mark = false;
  stretch_start = starts.AsCode;
  break_flags = breaks.AsCode;
  base_search = WithoutMedials;
  zero_context = OldSpec;
  plan_data = data_of.None;
}

-- the data of each shaper, if these are its own
abbrev pub as_arabic : PlanData → Option arabic_shape_plan_t
as_arabic (data_of.Arabic kept) = Some kept
as_arabic _ = None

abbrev pub as_hangul : PlanData → Option hangul_shape_plan_t
as_hangul (data_of.Hangul kept) = Some kept
as_hangul _ = None

abbrev pub as_indic : PlanData → Option indic_shape_plan_t
as_indic (data_of.Indic kept) = Some kept
as_indic _ = None

abbrev pub as_khmer : PlanData → Option khmer_shape_plan_t
as_khmer (data_of.Khmer kept) = Some kept
as_khmer _ = None

abbrev pub as_universal : PlanData → Option use_shape_plan_t
as_universal (data_of.Universal kept) = Some kept
as_universal _ = None
