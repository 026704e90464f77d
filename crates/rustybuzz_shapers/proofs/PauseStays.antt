-- What may not change a buffer leaves it as it is.
use Rattle.std.proofs.Common.{arith}
use Rattle.std.proofs.Common.{◌≡◌, ◌==◌, Bool, false, not, refl, sym, true, ℕ}
use Rattle.std.proofs.lemmas.Bool.{eqb-true}
use Rattle.shapers_base.specs.declared.plan.hb_ot_shape_plan_t.{hb_ot_shape_plan_t}
use Rattle.shapers_base.specs.declared.plan.pause.Pause.{Pause}
use Rattle.shapers_base.specs.declared.plan.pause.Pause.TheVariants.{RecordStch, RecordRphf, ArabicFallbackShape}
use Rattle.shapers_universal.proofs.NothingRecorded.{nothing_recorded}
use Rattle.rustybuzz_shapers.specs.Pauses.{PauseStays, may_change}

is_so : (b : Bool) → not b ≡ false → b ≡ true
is_so true none = refl
is_so false none = sym none

no_mask : (mask : ℕ) → not (mask == 0) ≡ false → mask ≡ 0
no_mask mask none = search (arith, eqb-true, is_so)

pub stays : (pause : Pause) (plan : hb_ot_shape_plan_t) → may_change pause plan ≡ false → PauseStays pause plan
stays RecordStch plan none font spans old new is = cc
stays RecordRphf plan none font spans old new is = search (arith, no_mask, nothing_recorded)
stays ArabicFallbackShape plan none font spans old new is = is
stays _ plan none font spans old new is = absurd cc
