-- The actions of joining, from what the enum says of masks.
use Rattle.std.proofs.Common.{arith}
use Rattle.std.proofs.Common.{◌≡◌, Some, subst}
use Rattle.shapers_buffer.specs.Buffer.{Buffer}
use Rattle.shapers_base.specs.Font.{CharacterTables}
use Rattle.shapers_base.specs.declared.plan.arabic.arabic_shape_plan_t.{arabic_shape_plan_t}
use Rattle.shapers_base.specs.declared.plan.hb_ot_shape_plan_t.{hb_ot_shape_plan_t}
use Rattle.shapers_arabic.specs.PlanData.{breaks_of, masks_of}
use Rattle.shapers_arabic.proofs.JoiningLaws.{copied-cut, forms_left}
use Rattle.shapers_universal.specs.PlanData.{arabic_of}
use Rattle.shapers_universal.specs.UniversalMasks.{MasksAreSet, with_categories}
use Rattle.shapers_universal.proofs.MaskLemmas.{text_stays}
use Rattle.rustybuzz_shapers.specs.Headline.{ActionsByRule, ActsByRule}
use Rattle.rustybuzz_shapers.specs.Hooks.{MasksSet}
use Rattle.rustybuzz_shapers.specs.declared.shaper.hb_ot_shaper_t.TheVariants.{Arabic, Universal}

arabic_acts : (plan : hb_ot_shape_plan_t) (tables : CharacterTables) (old new : Buffer)
    → MasksSet Arabic plan tables old new → ActsByRule plan.script tables old new
arabic_acts plan tables old new set = search (
  arith,
  forms_left (breaks_of plan.plan_data) (masks_of plan.plan_data) plan.script tables.joining tables.general old
      new set.0,
  set.1,
  copied-cut plan.script tables.joining tables.general old,
)

universal_acts : (plan : hb_ot_shape_plan_t) (tables : CharacterTables) (old new : Buffer) (joins : arabic_shape_plan_t)
    → arabic_of plan.plan_data ≡ Some joins → MasksSet Universal plan tables old new
    → ActsByRule plan.script tables old new
universal_acts plan tables old new joins is set =
    let joined = subst (λ o. MasksAreSet o plan.script tables old new) is set in
    search (
      arith,
      forms_left joins.break_flags joins.mask_array plan.script tables.joining tables.general
          (with_categories tables old) new joined.0,
      text_stays tables tables.joining tables.general old,
      joined.1,
      copied-cut plan.script tables.joining tables.general old,
    )

pub actions_by_rule : ActionsByRule
actions_by_rule = search (arith, arabic_acts, universal_acts)
