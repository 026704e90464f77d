-- What the hooks' contracts say, as equations on the buffer.
use Rattle.std.proofs.Common.{◌≡◌, refl}
use Rattle.std.specs.Prelude.{None, Some, Option}
use Rattle.shapers_base.specs.Font.{CharacterTables}
use Rattle.shapers_base.specs.declared.plan.arabic.arabic_shape_plan_t.{arabic_shape_plan_t}
use Rattle.shapers_base.specs.declared.plan.hb_ot_shape_plan_t.{hb_ot_shape_plan_t}
use Rattle.shapers_buffer.specs.Buffer.{Buffer}
use Rattle.shapers_buffer.specs.declared.buffer.tag.Script.{Script}
use Rattle.shapers_universal.specs.PlanData.{arabic_of}
use Rattle.shapers_universal.specs.UniversalMasks.{MasksAreSet}
use Rattle.rustybuzz_shapers.specs.Hooks.{MasksSet}
use Rattle.rustybuzz_shapers.specs.declared.shaper.hb_ot_shaper_t.{hb_ot_shaper_t}
use Rattle.rustybuzz_shapers.specs.declared.shaper.hb_ot_shaper_t.TheVariants.{Arabic, Hangul, Hebrew, Indic, Khmer, Myanmar, MyanmarZawgyi, Thai, Universal}
use Rattle.shapers_pipeline.specs.ShaperSteps.{masks_set_by, universal_masks_set}

universal_is : (kept : Option arabic_shape_plan_t) (script : Option Script) (tables : CharacterTables) (old new : Buffer) →
    MasksAreSet kept script tables old new → new ≡ universal_masks_set kept script tables old
universal_is None script tables old new set = set
universal_is (Some p) script tables old new set = set.0

pub masks_are : (shaper : hb_ot_shaper_t) (plan : hb_ot_shape_plan_t) (tables : CharacterTables) (old new : Buffer) →
    MasksSet shaper plan tables old new → new ≡ masks_set_by plan tables old shaper
masks_are Arabic plan tables old new set = set.0
masks_are Hangul plan tables old new set = set
masks_are Hebrew plan tables old new set = set.1
masks_are Indic plan tables old new set = set
masks_are Khmer plan tables old new set = set
masks_are Myanmar plan tables old new set = set
masks_are MyanmarZawgyi plan tables old new set = set.1
masks_are Thai plan tables old new set = set.1
masks_are Universal plan tables old new set = universal_is (arabic_of plan.plan_data) plan.script tables old new set

universal_positions : (kept : Option arabic_shape_plan_t) (script : Option Script) (tables : CharacterTables) (b : Buffer) →
    (universal_masks_set kept script tables b).positions ≡ b.positions
universal_positions None script tables b = refl
universal_positions (Some p) script tables b = refl

pub masked_positions : (shaper : hb_ot_shaper_t) (plan : hb_ot_shape_plan_t) (tables : CharacterTables) (b : Buffer) →
    (masks_set_by plan tables b shaper).positions ≡ b.positions
masked_positions Arabic plan tables b = refl
masked_positions Hangul plan tables b = refl
masked_positions Hebrew plan tables b = refl
masked_positions Indic plan tables b = refl
masked_positions Khmer plan tables b = refl
masked_positions Myanmar plan tables b = refl
masked_positions MyanmarZawgyi plan tables b = refl
masked_positions Thai plan tables b = refl
masked_positions Universal plan tables b = universal_positions (arabic_of plan.plan_data) plan.script tables b
