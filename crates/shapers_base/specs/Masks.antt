-- The masks that shapers keep in the plan, and the masks of a glyph.
use Rattle.std.specs.Prelude.{ℕ, ◌==◌, Bool, not, bit_and, bit_or, List, [], ◌∷◌, Option, None, Some, slice_index}
use Rattle.shapers_buffer.specs.Glyphs.{Glyph}
use Rattle.shapers_base.specs.declared.plan.arabic.arabic_shape_plan_t.{arabic_shape_plan_t}
use Rattle.shapers_base.specs.declared.plan.PlanData.{PlanData}
use Rattle.shapers_base.specs.declared.plan.PlanData.TheVariants as data_of

-- the masks of joining, where there is a plan of Arabic
abbrev pub joining_masks : Option arabic_shape_plan_t → List ℕ
joining_masks None = []
joining_masks (Some p) = p.mask_array

-- the masks in these data, whichever shaper's they are
abbrev pub masks_stored : PlanData → List ℕ
masks_stored (data_of.Arabic kept) = kept.mask_array
masks_stored (data_of.Hangul kept) = kept.mask_array
masks_stored (data_of.Indic kept) = kept.mask_array
masks_stored (data_of.Khmer kept) = kept.mask_array
masks_stored (data_of.Universal kept) = kept.rphf_mask ∷ joining_masks kept.arabic_plan
masks_stored _ = []

-- the glyph with the mask of its auxiliary byte's number, if there is one, besides its own
abbrev pub with_numbered_mask : List ℕ → Glyph → Glyph
with_numbered_mask masks g = record g { mask = bit_or g.mask (slice_index masks g.auxiliary) }

-- whether the glyph has some bit of a mask
abbrev pub has_bits : ℕ → Glyph → Bool
has_bits mask g = not (bit_and g.mask mask == 0)
