-- What Arabic keeps in the plan.
use Rattle.std.specs.Prelude.{ℕ, ◌==◌, not, List, [], ◌∷◌, ◌++◌, map, codes}
use Rattle.shapers_base.specs.Map.{Map, mask_of}
use Rattle.shapers_base.specs.declared.plan.PlanData.{PlanData}
use Rattle.shapers_base.specs.declared.plan.PlanData.TheVariants.{Arabic}
use Rattle.shapers_base.specs.declared.plan.arabic.arabic_shape_plan_t.{arabic_shape_plan_t}
use Rattle.shapers_base.specs.declared.plan.arabic.StretchStart.{StretchStart}
use Rattle.shapers_base.specs.declared.plan.breaks.BreakFlags.{BreakFlags}
use Rattle.shapers_base.specs.declared.plan.breaks.BreakFlags.TheVariants.{AsCode}

-- the plan of Arabic: the masks of its features in the order of the forms, none for NONE, and
-- whether there is a mask for stretched marks, where these begin, and which breaks are flagged
abbrev pub arabic_plan : StretchStart → BreakFlags → Map → arabic_shape_plan_t
arabic_plan start breaks m = record {
  mask_array = map (λ tag. mask_of (record { 0 = codes tag }) m)
      ("isol" ∷ "fina" ∷ "fin2" ∷ "fin3" ∷ "medi" ∷ "med2" ∷ "init" ∷ []) ++ 0 ∷ [];
  has_stch = not (mask_of (record { 0 = codes "stch" }) m == 0);
  stretch_start = start;
  break_flags = breaks;
}

-- whether the data are those of Arabic
abbrev pub IsArabic : PlanData → Type 0
IsArabic (Arabic p) = Unit {0}
IsArabic _ = ⊥

-- the choice of break flags, the default without such data
abbrev pub breaks_of : PlanData → BreakFlags
breaks_of (Arabic p) = p.break_flags
breaks_of _ = AsCode

-- the masks of the forms, and none without such data
abbrev pub masks_of : PlanData → List ℕ
masks_of (Arabic p) = p.mask_array
masks_of _ = []
