-- The masks of Hangul.
use Rattle.std.specs.Prelude.{ℕ, Bool, true, false, List, [], ◌∷◌, map, codes}
use Rattle.shapers_base.specs.declared.plan.PlanData.{PlanData}
use Rattle.shapers_base.specs.declared.plan.PlanData.TheVariants.{Hangul}
use Rattle.shapers_buffer.specs.Buffer.{Buffer}
use Rattle.shapers_base.specs.Map.{Map, mask_of}
use Rattle.shapers_base.specs.Masks.{masks_stored, with_numbered_mask}

-- the masks that the plan keeps: none for unmarked glyphs, then those of the three kinds of jamo
abbrev pub jamo_masks : Map → List ℕ
jamo_masks m = 0 ∷ map (λ tag. mask_of (record { 0 = codes tag }) m) ("ljmo" ∷ "vjmo" ∷ "tjmo" ∷ [])

-- whether these are Hangul's plan data
abbrev pub is_hangul_data : PlanData → Bool
is_hangul_data (Hangul kept) = true
is_hangul_data _ = false

-- the buffer with the masks in these plan data
abbrev pub with_jamo_masks : PlanData → Buffer → Buffer
with_jamo_masks kept b = record b { glyphs = map (with_numbered_mask (masks_stored kept)) b.glyphs }
