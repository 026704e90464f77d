-- A new plan, and what plan data are to each shaper.
use Rattle.std.specs.Prelude.{◌≡◌, None, Some, [], ◌∷◌, Option, false, map, refl}
use Rattle.shapers_buffer.specs.declared.buffer.tag.Script.{Script}
use Rattle.shapers_base.specs.Map.{Map}
use Rattle.shapers_base.specs.Plan.{as_arabic, as_hangul, as_indic, as_khmer, as_universal, new_plan}
use Rattle.shapers_base.specs.declared.plan.PlanData.TheVariants as data_of
use Rattle.shapers_base.specs.declared.plan.arabic.StretchStart.TheVariants as starts
use Rattle.shapers_base.specs.declared.plan.arabic.arabic_shape_plan_t.{arabic_shape_plan_t}
use Rattle.shapers_base.specs.declared.plan.breaks.BreakFlags.TheVariants as breaks
use Rattle.shapers_base.specs.declared.plan.hangul.hangul_shape_plan_t.{hangul_shape_plan_t}
use Rattle.shapers_base.specs.declared.plan.indic.BaseSearch.TheVariants.{WithoutMedials}
use Rattle.shapers_base.specs.declared.plan.indic.ZeroContext.TheVariants.{OldSpec}
use Rattle.shapers_base.specs.declared.plan.indic.indic_shape_plan_t.{indic_shape_plan_t}
use Rattle.shapers_base.specs.declared.plan.khmer.khmer_shape_plan_t.{khmer_shape_plan_t}
use Rattle.shapers_base.specs.declared.plan.universal.use_shape_plan_t.{use_shape_plan_t}

-- a new plan keeps no data, and GPOS places no marks
fields : (s : Option Script) (m : Map) → new_plan s m
    ≡ record {
      script = s;
      ot_map = m;
      has_gpos_mark = false;
      stretch_start = starts.AsCode;
      break_flags =
          breaks.AsCode;
      base_search = WithoutMedials;
      zero_context = OldSpec;
      plan_data = data_of.None;
    }
fields s m = refl

-- each shaper's data, and those of all the others: first of a plan without any
arabic : (a : arabic_shape_plan_t) (h : hangul_shape_plan_t) (i : indic_shape_plan_t) (k : khmer_shape_plan_t)
    (u : use_shape_plan_t)
    → map as_arabic (data_of.None ∷ data_of.Arabic a ∷ data_of.Hangul h ∷ data_of.Indic i ∷ data_of.Khmer k
    ∷ data_of.Universal u ∷ []) ≡ None ∷ Some a ∷ None ∷ None ∷ None ∷ None ∷ []
arabic a h i k u = refl

hangul : (a : arabic_shape_plan_t) (h : hangul_shape_plan_t) (i : indic_shape_plan_t) (k : khmer_shape_plan_t)
    (u : use_shape_plan_t)
    → map as_hangul (data_of.None ∷ data_of.Arabic a ∷ data_of.Hangul h ∷ data_of.Indic i ∷ data_of.Khmer k
    ∷ data_of.Universal u ∷ []) ≡ None ∷ None ∷ Some h ∷ None ∷ None ∷ None ∷ []
hangul a h i k u = refl

indic : (a : arabic_shape_plan_t) (h : hangul_shape_plan_t) (i : indic_shape_plan_t) (k : khmer_shape_plan_t)
    (u : use_shape_plan_t)
    → map as_indic (data_of.None ∷ data_of.Arabic a ∷ data_of.Hangul h ∷ data_of.Indic i ∷ data_of.Khmer k
    ∷ data_of.Universal u ∷ []) ≡ None ∷ None ∷ None ∷ Some i ∷ None ∷ None ∷ []
indic a h i k u = refl

khmer : (a : arabic_shape_plan_t) (h : hangul_shape_plan_t) (i : indic_shape_plan_t) (k : khmer_shape_plan_t)
    (u : use_shape_plan_t)
    → map as_khmer (data_of.None ∷ data_of.Arabic a ∷ data_of.Hangul h ∷ data_of.Indic i ∷ data_of.Khmer k
    ∷ data_of.Universal u ∷ []) ≡ None ∷ None ∷ None ∷ None ∷ Some k ∷ None ∷ []
khmer a h i k u = refl

universal : (a : arabic_shape_plan_t) (h : hangul_shape_plan_t) (i : indic_shape_plan_t) (k : khmer_shape_plan_t)
    (u : use_shape_plan_t)
    → map as_universal (data_of.None ∷ data_of.Arabic a ∷ data_of.Hangul h ∷ data_of.Indic i ∷ data_of.Khmer k
    ∷ data_of.Universal u ∷ []) ≡ None ∷ None ∷ None ∷ None ∷ None ∷ Some u ∷ []
universal a h i k u = refl
