-- What the universal shaper keeps in the plan.
use Rattle.std.specs.Prelude.{ℕ, nat_eq, Bool, true, false, List, [], ◌∷◌, map, Option, None, Some, codes, if◌then◌else◌}
use Rattle.std.specs.List.{list_any}
use Rattle.std.specs.Cmp.Lexicographic.{pointwise}
use Rattle.shapers_buffer.specs.declared.buffer.tag.Script.{Script}
use Rattle.shapers_base.specs.Map.{Map, mask_of}
use Rattle.shapers_base.specs.declared.plan.PlanData.{PlanData}
use Rattle.shapers_base.specs.declared.plan.PlanData.TheVariants.{Universal}
use Rattle.shapers_base.specs.declared.plan.arabic.arabic_shape_plan_t.{arabic_shape_plan_t}
use Rattle.shapers_base.specs.declared.plan.arabic.StretchStart.{StretchStart}
use Rattle.shapers_base.specs.declared.plan.breaks.BreakFlags.{BreakFlags}
use Rattle.shapers_base.specs.declared.plan.universal.use_shape_plan_t.{use_shape_plan_t}
use Rattle.shapers_arabic.specs.PlanData.{arabic_plan}

-- the scripts of this shaper whose letters join, by their tags (Unicode, ArabicShaping.txt)
abbrev pub joining_scripts : List Script
joining_scripts = map (λ tag. record { 0 = codes tag }) ("Adlm" ∷ "Arab" ∷ "Chrs" ∷ "Rohg" ∷ "Mand"
    ∷ "Mani" ∷ "Mong" ∷ "Nkoo" ∷ "Ougr" ∷ "Phag" ∷ "Phlp" ∷ "Sogd" ∷ "Syrc" ∷ [])

-- whether a script is one of them
abbrev pub joins_letters : Option Script → Bool
joins_letters None = false
joins_letters (Some s) = list_any (λ t. pointwise nat_eq t.0 s.0) joining_scripts

-- the plan: the mask of rphf and, for a script whose letters join, the plan of Arabic
abbrev pub universal_plan : StretchStart → BreakFlags → Option Script → Map → use_shape_plan_t
universal_plan start breaks script m = record {
  rphf_mask = mask_of (record { 0 = codes "rphf" }) m;
  arabic_plan = if joins_letters script then Some (arabic_plan start breaks m) else None;
}

-- whether the data are those of the universal shaper
abbrev pub is_universal : PlanData → Bool
is_universal (Universal p) = true
is_universal _ = false

-- the mask of rphf in such data, and the plan of Arabic
abbrev pub rphf_of : PlanData → ℕ
rphf_of (Universal p) = p.rphf_mask
rphf_of _ = 0

abbrev pub arabic_of : PlanData → Option arabic_shape_plan_t
arabic_of (Universal p) = p.arabic_plan
arabic_of _ = None
